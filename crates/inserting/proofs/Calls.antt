-- The call `insert` from its parts: what stops it in document 01's order, and the rows that are written. Assumes nothing.
use mathlib.Core.Path.{◌≡◌, refl, sym, ap, ap₂, ◌∙◌}
use mathlib.Core.List.{List, ◌++◌}
use Prim.Native.Nat.{ℕ, ◌+◌, ◌*◌, ◌≤◌, ◌<◌}
use native.Mathlib.Omega.{arith}
use native.Mathlib.Nat.{add-mul}
use lib.ListN.{length, take, length-append}
use lib.Seq.{length-take-le}
use borrow.Author.Tests.{lt-ltb, le-ltb}
use Rattle.refusals.specs.Stop.{never}
use Rattle.refusals.specs.declared.Refusal.{Refusal}
use Rattle.refusals.specs.declared.Refusal.TheVariants.{OutputShort}
use Rattle.slices.specs.Splice.{splice}
use Rattle.writing.proofs.Answers.{refused_is}
use Rattle.tables.specs.Table.{column_count}
use Rattle.sorting.specs.Sorted.{in_key_order, double_stop, new_stop}
use Rattle.sorting.specs.Rows.{compare_rows, RowsSound}
use Rattle.sorting.proofs.Twice.{Distinct, new_never, never_double}
use Rattle.sorting.proofs.Ordered.{order_length, order_within}
use Rattle.sorting.proofs.Joined.{old_distinct, new_distinct, rows_length}
use Rattle.arranging.proofs.Placing.{placed_front}
use Rattle.merging.specs.Merge.{MergeAsks}
use Rattle.inserting.specs.Insert.{rows_in, sorted_words, inserted, lent_stop, keys_stop, InsertIs}
use Rattle.inserting.specs.Sorting.{SortAsks}
use Rattle.inserting.proofs.Passing.{Lent, lent, keys_never}
use Rattle.std.specs.Prelude.{Result, Ok, Err}

-- ---- the rows in key order

module _ (columns stored old : List ℕ) (m : ℕ) (new : List ℕ) (n : ℕ) (out : List ℕ) (A : SortAsks columns stored old m new n out) where
  -- nothing is wrong with the keys
  no_double : double_stop (compare_rows columns stored (old ++ new)) 0 m ≡ never
  no_double = (keys_never columns stored old m new n A.keys).0

  none_taken : new_stop (compare_rows columns stored (old ++ new)) m 0 n ≡ never
  none_taken = (keys_never columns stored old m new n A.keys).1

  distinct : Distinct (compare_rows columns stored (old ++ new)) (m + n)
  distinct = new_never _ m n no_double none_taken

  -- so the rows of each side may be put in order
  pub old_once : double_stop (compare_rows columns stored old) 0 m ≡ never
  old_once = never_double _ m (old_distinct columns stored old new m n A.old_rows.whole A.new_rows.whole distinct)

  pub new_once : double_stop (compare_rows columns stored new) 0 n ≡ never
  new_once = never_double _ n (new_distinct columns stored old new m n A.old_rows.whole A.new_rows.whole distinct)

  -- and then be merged
  pub merge_asks : (none first second : List ℕ) → length first ≡ 4096 → length second ≡ 4096
      → first ≡ splice none 0 (in_key_order (compare_rows columns stored old) m) → second ≡ splice none 0 (in_key_order (compare_rows columns stored new) n)
      → MergeAsks columns stored old m first new n second out
  merge_asks none first second l k e f =
      record {
        old_rows = A.old_rows;
        new_rows = A.new_rows;
        no_double = no_double;
        none_taken = none_taken;
        old_listed = omega (arith, l, A.old_rows.few);
        new_listed = omega (arith, k, A.new_rows.few);
        old_ordered = ap (take m) e ∙ placed_front (compare_rows columns stored old) none m;
        new_ordered = ap (take n) f ∙ placed_front (compare_rows columns stored new) none n;
        room = A.room;
      }

-- ---- the call

module _ (columns old new text : List ℕ) (used : ℕ) (L : never ≡ lent_stop columns old new (length text) used) where
  abbrev stored : List ℕ
  stored = take used text

  abbrev m : ℕ
  m = rows_in columns old

  abbrev n : ℕ
  n = rows_in columns new

  passed : Lent columns old new (length text) used
  passed = lent columns old new (length text) used (sym L)

  pub some_columns : 1 ≤ column_count columns
  some_columns = passed.table.some

  -- the stored text lies in the text, and the rows are sound in it
  pub stored_length : used ≡ length (take used text)
  stored_length = sym (length-take-le used text passed.inside)

  pub rows_sound : RowsSound columns (length (take used text)) (rows_in columns old) old × RowsSound columns (length (take used text)) (rows_in columns new) new
  rows_sound = rw (length-take-le used text passed.inside) (passed.old_rows, passed.new_rows)

  -- the words that all rows take
  needed : length (inserted columns stored old new) ≡ (m + n) * column_count columns
  needed =
      let all : length (old ++ new) ≡ (m + n) * column_count columns =
      length-append old new ∙ ap₂ (λ a b. a + b) passed.old_rows.whole passed.new_rows.whole ∙ sym (add-mul m n (column_count columns)) in
      rows_length (old ++ new) (column_count columns) (m + n) all (in_key_order (compare_rows columns stored (old ++ new)) (m + n)) (order_within (compare_rows columns stored (old ++ new)) (m + n))
      ∙ ap (λ k. k * column_count columns) (order_length (compare_rows columns stored (old ++ new)) (m + n))

  module _ (K : never ≡ keys_stop columns (take used text) old (rows_in columns old) new (rows_in columns new)) (out : List ℕ) where
    -- what it is to answer and to write
    abbrev Answer : List ℕ → Result ℕ Refusal → Type 0
    Answer after a = InsertIs columns stored old new (length text) used out after a

    -- 9 stops it
    pub insert_short : length out < (rows_in columns old + rows_in columns new) * column_count columns
        → Answer out (Err (OutputShort ((rows_in columns old + rows_in columns new) * column_count columns)))
    insert_short h =
        refused_is out _ (m + n) (inserted columns stored old new) (OutputShort ((m + n) * column_count columns))
        (rw (← L, ← K, needed, lt-ltb (length out) ((m + n) * column_count columns) h))

    module _ (h : (rows_in columns old + rows_in columns new) * column_count columns ≤ length out) where
      -- all rows are written
      pub sort_asks : SortAsks columns (take used text) old (rows_in columns old) new (rows_in columns new) out
      sort_asks = record { old_rows = rows_sound.0; new_rows = rows_sound.1; keys = sym K; room = h }

      pub insert_written : (after : List ℕ) → after ≡ splice out 0 (sorted_words columns (take used text) old (rows_in columns old) new (rows_in columns new))
          → Answer after (Ok (rows_in columns old + rows_in columns new))
      insert_written after e =
          let room : length (inserted columns stored old new) ≤ length out = rw needed h in
          rw (← L, ← K, le-ltb (length out) (length (inserted columns stored old new)) room) (record { says = refl; output = e; room = λ z. room })
