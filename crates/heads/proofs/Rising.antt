-- Column words that are sound stay so under a higher mark, wherever their places begin. Assumes nothing.
use mathlib.Core.Path.{◌≡◌, refl}
use mathlib.Core.Bool.{Bool, true, false, not, cond}
use mathlib.Core.List.{List, [], ◌∷◌}
use Prim.Native.Nat.{ℕ, ◌+◌, ◌≤◌}
use native.Mathlib.Omega.{arith}
use lib.Dec.{eqb}
use borrow.Author.Tests.{eqb-true, not-false}
use Rattle.refusals.specs.Stop.{never, stop_if}
use Rattle.refusals.proofs.First.{never_both, not_stopped}
use Rattle.cells.specs.Cell.{kind_of, length_of, is_cell, reaches_beyond}
use Rattle.cells.proofs.Stops.{ends_inside, inside_by}
use Rattle.rules.specs.Rule.{is_rule}
use Rattle.columns.specs.Column.{is_text, is_name_length, name_stop, column_stop, columns_stop}

-- a text's kind
text_kind : (w : ℕ) → is_text w ≡ true → kind_of w ≡ 2
unfolding is_text
text_kind w e = by (is_cell w) e
  where
    by : (x : Bool) → cond x (eqb (kind_of w) 2) false ≡ true → kind_of w ≡ 2
    by true h = eqb-true (kind_of w) 2 h
    by false h = absurd (let z : ◌≡◌ {A = ℕ} 0 1 = cc in omega arith)

module _ (m n : ℕ) (l : m ≤ n) where
  -- a name, a column and all columns
  pub name_rises : (w p q : ℕ) → name_stop m w p ≡ never → name_stop n w q ≡ never
  unfolding name_stop
  name_rises w p q h =
      let a = never_both (stop_if (not (is_text w)) 8 p) _ h in
      let b = never_both (stop_if (reaches_beyond m w) 3 p) _ a.1 in
      let t = not-false (is_text w) (not_stopped (not (is_text w)) 8 p a.0) in
      let k = text_kind w t in
      let i = ends_inside m w k (not_stopped (reaches_beyond m w) 3 p b.0) in
      let c = never_both (stop_if (not (is_name_length (length_of w))) 3 p) never b.1 in
      rw (t, inside_by n w k (omega arith), not_stopped (not (is_name_length (length_of w))) 3 p c.0)

  column_rises : (name rule p q : ℕ) → column_stop m name rule p ≡ never → column_stop n name rule q ≡ never
  unfolding column_stop
  column_rises name rule p q h =
      let a = never_both (name_stop m name p) _ h in
      rw (name_rises name p q a.0, not_stopped (not (is_rule rule)) 8 (p + 1) a.1)

  pub columns_rise : (columns : List ℕ) (p q : ℕ) → columns_stop m p columns ≡ never → columns_stop n q columns ≡ never
  unfolding columns_stop
  columns_rise [] p q h = refl
  columns_rise (name ∷ []) p q h = refl
  columns_rise (name ∷ rule ∷ columns) p q h =
      let a = never_both (column_stop m name rule p) _ h in
      rw (column_rises name rule p q a.0, columns_rise columns (p + 2) (q + 2) a.1)
