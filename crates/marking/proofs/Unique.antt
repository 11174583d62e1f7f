-- Two results that satisfy a contract of this crate are equal, but for what docs/EXCEPTIONS.md leaves open. Assumes nothing.
use mathlib.Core.Path.{◌≡◌, sym, ap, ◌∙◌}
use mathlib.Core.List.{List}
use Prim.Native.Nat.{ℕ}
use native.Mathlib.Omega.{arith}
use lib.ListN.{length, take}
use Rattle.refusals.specs.Stop.{Stop, never, stop_of}
use Rattle.refusals.proofs.Unique.{one_refusal}
use Rattle.operators.specs.declared.Rules.{Rules}
use Rattle.marking.specs.RowList.{Test}
use Rattle.marking.specs.Marks.{test_of, MarkAsks, Says, MarkedIs}
use Rattle.marking.specs.Whole.{TableIs}
use Rattle.std.specs.Prelude.{Result, Ok, Err}
use Rattle.refusals.specs.declared.Refusal.{Refusal}

-- the marks after it; after a refusal nothing is said of them
abbrev pub SameMarks : List ℕ → List ℕ → Result ℕ Refusal → Type 0
SameMarks marks marks' (Ok k) = marks ≡ marks'
SameMarks marks marks' (Err q) = Unit {0}

module _ (t : Test) (n : ℕ) (before marks marks' : List ℕ) where
  -- two answers to the same question, and the marks
  one_says : (s : Stop) (r r' : Result ℕ Refusal) → Says s t n before marks r → Says s t n before marks' r' → (r ≡ r') × SameMarks marks marks' r
  one_says s (Ok k) (Ok k') h i = (ap Ok (h.1 ∙ sym i.1), h.2 ∙ sym i.2)
  one_says s (Ok k) (Err q) h i =
      absurd (let z : ◌≡◌ {A = Stop} never (stop_of q) = sym h.0 ∙ i in let y : ◌≡◌ {A = ℕ} 0 1 = cc in omega arith)
  one_says s (Err q) (Ok k) h i =
      absurd (let z : ◌≡◌ {A = Stop} (stop_of q) never = sym h ∙ i.0 in let y : ◌≡◌ {A = ℕ} 0 1 = cc in omega arith)
  one_says s (Err q) (Err q') h i = (ap Err (one_refusal q q' (sym h ∙ i)), tt)

-- mark_table
module _ (b : List ℕ) (s : Stop) (t : Test) (n used : ℕ) (text after after' before marks marks' : List ℕ) (r r' : Result ℕ Refusal) where
  pub one_table : TableIs b s t n used text after before marks r → TableIs b s t n used text after' before marks' r'
      → (r ≡ r') × SameMarks marks marks' r × (take used after ≡ take used after') × (length b ≡ 0 → after ≡ after')
  one_table h k =
      let e = one_says t n before marks marks' s r r' h.says k.says in
      (e.0, e.1, h.kept ∙ sym k.kept, λ o. h.alone o ∙ sym (k.alone o))

-- the contract of mark_rows, over any rules
pub record Marks (R : Rules) (used count n width : ℕ) (nodes rows text after before marks : List ℕ) (r : Result ℕ Refusal) : Type 0 where
  pub rows_marked : (b : List ℕ) → MarkAsks b used count n width nodes rows text before
      → MarkedIs (test_of R b used (take used text) rows width) n used text after before marks r
  pub alone : count ≡ 0 → after ≡ text

-- of what it asks
module _ (R : Rules) (used count n width : ℕ) (nodes rows text after after' before marks marks' : List ℕ) (r r' : Result ℕ Refusal) where
  pub one_marking : (b : List ℕ) → MarkAsks b used count n width nodes rows text before → Marks R used count n width nodes rows text after before marks r
      → Marks R used count n width nodes rows text after' before marks' r'
      → (r ≡ r') × SameMarks marks marks' r × (take used after ≡ take used after') × (count ≡ 0 → after ≡ after')
  one_marking b asks h k =
      let t : Test = test_of R b used (take used text) rows width in
      let i = h.rows_marked b asks in
      let j = k.rows_marked b asks in
      let e = one_says t n before marks marks' never r r' i.says j.says in
      (e.0, e.1, i.kept ∙ sym j.kept, λ o. h.alone o ∙ sym (k.alone o))
