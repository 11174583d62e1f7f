-- The calls `select` and `delete` from their parts: what stops them in document 01's order, and the rows that the marks tell. Assumes nothing.
use mathlib.Core.Path.{◌≡◌, refl, sym, ap, subst, ◌∙◌}
use mathlib.Core.Bool.{Bool, true, not}
use mathlib.Core.List.{List, []}
use Prim.Native.Nat.{ℕ, ◌-◌, ◌≤◌}
use native.Mathlib.Omega.{arith}
use lib.ListN.{length, take}
use lib.Dec.{leb}
use borrow.Author.Tests.{leb-true}
use Rattle.refusals.specs.Stop.{Stop, never, stop, stop_of, or_else}
use Rattle.refusals.specs.declared.Refusal.{Refusal}
use Rattle.slices.specs.Splice.{splice}
use Rattle.refusals.proofs.First.{first_stops}
use Rattle.writing.specs.Writing.{WrittenIs}
use Rattle.writing.proofs.Answers.{refused_is}
use Rattle.tables.specs.Table.{column_count}
use Rattle.testing.specs.Test.{condition_stop}
use Rattle.marking.specs.RowList.{Test, is_true, kept_from, true_rows, other_rows, refused_from, words_of}
use Rattle.marking.specs.Marks.{test_of, flags_from, Says}
use Rattle.marking.specs.Whole.{TableIs}
use Rattle.marking.proofs.Lists.{kept_same, mark_true, mark_other, true_and_other}
use Rattle.projecting.specs.Project.{list_stop, has_mark, marked_words}
use Rattle.projecting.proofs.Listing.{empty_list}
use Rattle.keeping.specs.Table.{row_count, table_stop}
use Rattle.checks.specs.Check.{short_stop}
use Rattle.operators.specs.Operator.{base}
use Rattle.selecting.specs.Select.{selected, SelectIs, remaining, DeleteIs}
use Rattle.keeping.specs.Kept.{KeptAsks}
use Rattle.keeping.proofs.Passing.{Passed}
use Rattle.std.specs.Prelude.{Result, Ok, Err}

-- ---- stops in a row

-- one of two stops, and more behind them
pub two_stop : (s t later : Stop) (r : Refusal) → or_else s t ≡ stop_of r → or_else s (or_else t later) ≡ stop_of r
two_stop never t later r e = first_stops t later r e
two_stop (stop n p) t later r e = e

-- neither of two stops, and one behind them
pub two_pass : (s t later : Stop) → or_else s t ≡ never → or_else s (or_else t (or_else later never)) ≡ later
two_pass never never never e = refl
two_pass never never (stop n p) e = refl
two_pass never (stop n p) later e = absurd (let z : ◌≡◌ {A = ℕ} 0 1 = cc in omega arith)
two_pass (stop n p) t later e = absurd (let z : ◌≡◌ {A = ℕ} 0 1 = cc in omega arith)

-- an answer told by equal things
pub written_as : (before after : List ℕ) (a : Result ℕ Refusal) {s s' : Stop} {n n' : ℕ} {w w' : List ℕ} → s' ≡ s → n ≡ n' → w ≡ w' → WrittenIs before after a s n w → WrittenIs before after a s' n' w'
written_as before after a e f g h = rw (e, ← f, ← g) h

-- ---- the rows that the marks tell

module _ (t : Test) (n : ℕ) (before marks : List ℕ) (e : marks ≡ splice before 0 (flags_from t 0 n)) where
  -- marks of 1 are the true rows, marks of 0 the others
  pub marked_true : kept_from (has_mark marks 1) 0 n ≡ true_rows t n
  marked_true = rw e (kept_same _ (λ i. is_true (t i)) 0 n (λ j l h. mark_true t n before j (omega arith)))

  pub marked_other : kept_from (has_mark marks 0) 0 n ≡ other_rows t n
  marked_other = rw e (kept_same _ (λ i. not (is_true (t i))) 0 n (λ j l h. mark_other t n before j (omega arith)))

-- ---- the calls

-- what a call was lent; delete is lent no list
pub record Question : Type 0 where
  pub columns : List ℕ
  pub rows : List ℕ
  pub list : List ℕ
  pub condition : List ℕ
  pub text : List ℕ
  pub out : List ℕ
  pub used : ℕ

-- its width
abbrev pub width_of : Question → ℕ
width_of q = column_count q.columns

-- how many rows it has
abbrev pub count_of : Question → ℕ
count_of q = row_count q.columns q.rows

-- its test of a row
abbrev pub test_for : Question → Test
test_for q = test_of base q.condition q.used (take q.used q.text) q.rows (width_of q)

-- where its table stops it, which comes first
abbrev pub TableStop : Bool → Question → Stop
TableStop counts q = table_stop counts q.condition q.columns q.rows (length q.text) q.used

-- where its condition stops it, after the table
abbrev pub condition_for : Question → Stop
condition_for q = condition_stop q.used (width_of q) q.condition

-- where a row stops it, after the condition
abbrev pub rows_for : Question → Stop
rows_for q = refused_from (test_for q) 0 (count_of q)

-- what is known of its table
abbrev pub PassedBy : Bool → Question → Type 0
PassedBy counts q = Passed counts q.condition q.columns q.rows (length q.text) q.used

-- what marking the rows said
abbrev pub MarkedBy : Question → List ℕ → List ℕ → List ℕ → Result ℕ Refusal → Type 0
MarkedBy q = TableIs q.condition (condition_for q) (test_for q) (count_of q) q.used q.text

-- the rows that were written, or 9
abbrev pub KeptIs : Question → List ℕ → List ℕ → ℕ → ℕ → List ℕ → Result ℕ Refusal → Type 0
KeptIs q list marks mark count after a =
    WrittenIs q.out after a (short_stop (length q.out) (length (marked_words list q.rows (width_of q) (count_of q) marks mark))) count
    (marked_words list q.rows (width_of q) (count_of q) marks mark)

-- what select is to answer and to write
abbrev pub Selects : Question → List ℕ → Result ℕ Refusal → Type 0
Selects q after = SelectIs base q.columns q.rows q.list q.condition (take q.used q.text) (length q.text) q.used q.out after

-- what delete is to answer and to write
abbrev pub Deletes : Question → List ℕ → Result ℕ Refusal → Type 0
Deletes q after = DeleteIs base q.columns q.rows q.condition (take q.used q.text) (length q.text) q.used q.out after

module _ (q : Question) where
  -- the count of a list
  abbrev counts : Bool
  counts = leb (length q.list) 32

  module _ (text' marks marks' : List ℕ) (k : ℕ) (W : MarkedBy q text' marks marks' (Ok k)) where
    -- neither the condition nor a row is refused
    pub passed_rows : (later : Stop) → or_else (condition_for q) (or_else (rows_for q) (or_else later never)) ≡ later
    passed_rows later = two_pass (condition_for q) (rows_for q) later W.says.0

    -- the rows may be written
    pub select_asks : PassedBy counts q → list_stop (width_of q) 0 q.list ≡ never → length marks' ≡ 4096
        → KeptAsks q.list q.rows marks' (width_of q) (count_of q) 1 k
    select_asks P L l =
        record {
          asked = record { listed = L; whole = P.whole; marked = omega (arith, P.few) };
          few = P.few;
          narrow = P.table.few;
          short = leb-true (length q.list) 32 P.right;
          counted = W.says.1 ∙ ap length (sym (marked_true (test_for q) (count_of q) marks marks' W.says.2));
        }

    -- what is answered once the rows are written
    pub select_written : TableStop counts q ≡ never → list_stop (width_of q) 0 q.list ≡ never → (after : List ℕ) (a : Result ℕ Refusal) → KeptIs q q.list marks' 1 k after a → Selects q after a
    select_written T L after a h =
        let w : marked_words q.list q.rows (width_of q) (count_of q) marks' 1 ≡ selected (test_for q) q.columns q.rows q.list
        = ap (words_of _) (marked_true (test_for q) (count_of q) marks marks' W.says.2) in
        written_as q.out after a (rw (T, L, ← w) (passed_rows _)) W.says.1 w h

    -- the other rows: what is left of all
    others : count_of q - k ≡ length (other_rows (test_for q) (count_of q))
    others = omega (arith, W.says.1, true_and_other (test_for q) (count_of q))

    -- no more rows are true than there are
    pub delete_some : k ≤ count_of q
    delete_some = omega (arith, W.says.1, true_and_other (test_for q) (count_of q))

    -- the other rows may be written, and what is answered then
    pub delete_asks : PassedBy true q → length marks' ≡ 4096 → KeptAsks [] q.rows marks' (width_of q) (count_of q) 0 (count_of q - k)
    delete_asks P l =
        record {
          asked = record { listed = empty_list (width_of q) 0; whole = P.whole; marked = omega (arith, P.few) };
          few = P.few;
          narrow = P.table.few;
          short = omega arith;
          counted = others ∙ ap length (sym (marked_other (test_for q) (count_of q) marks marks' W.says.2));
        }

    pub delete_written : TableStop true q ≡ never → (after : List ℕ) (a : Result ℕ Refusal) → KeptIs q [] marks' 0 (count_of q - k) after a → Deletes q after a
    delete_written T after a h =
        let w : marked_words [] q.rows (width_of q) (count_of q) marks' 0 ≡ remaining (test_for q) q.columns q.rows
        = ap (words_of _) (marked_other (test_for q) (count_of q) marks marks' W.says.2) in
        written_as q.out after a (rw (T, ← w) (passed_rows _)) others w h

  -- a condition or a row that is refused comes before a short output
  pub select_refused : (text' marks marks' : List ℕ) (m : Result ℕ Refusal) → MarkedBy q text' marks marks' m → TableStop counts q ≡ never → list_stop (width_of q) 0 q.list ≡ never
      → (r : Refusal) → m ≡ Err r → Selects q q.out (Err r)
  select_refused text' marks marks' m W T L r e =
      refused_is _ _ _ _ r (rw (T, L) (two_stop (condition_for q) (rows_for q) _ r (subst (Says (condition_for q) (test_for q) (count_of q) marks marks') e W.says)))
