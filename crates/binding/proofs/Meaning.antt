-- What binding promises: where no name is missing, the bound tree comes on every row to what the named one means by its columns' names.
-- Assumes nothing.
use mathlib.Core.Path.{◌≡◌, refl, sym, ap, ap₂}
use mathlib.Core.Bool.{Bool, true, false, cond}
use mathlib.Core.List.{List}
use Prim.Native.Nat.{ℕ, ◌+◌, ◌*◌, ◌^◌, ◌/◌, ◌%◌, ◌≤◌, ◌<◌}
use native.Mathlib.Omega.{arith}
use lib.ListN.{length, get_or}
use lib.Dec.{eqb}
use borrow.Author.Tests.{ne_eqb, eqb-true, eqb-false}
use Rattle.refusals.specs.Stop.{never, stop_if}
use Rattle.refusals.proofs.First.{never_both}
use Rattle.slices.specs.Bytes.{both}
use Rattle.cells.specs.Cell.{kind_of, body_of}
use Rattle.values.specs.Value.{Value, null, value_of, to_bool, from_bool}
use Rattle.columns.specs.Column.{Where, nowhere, found, names}
use Rattle.integers.specs.Outcome.{value}
use Rattle.operators.specs.Operator.{unary_of}
use Rattle.operators.specs.declared.Rules.{Rules}
use Rattle.conditions.specs.Ast.{Tree, leaf, unary, binary, column, literal, map_tree, eval, and_then, decides, two_sided}
use Rattle.conditions.specs.Table.{leaf_of}
use Rattle.postfix.specs.Postfix.{width}
use Rattle.numbering.specs.Number.{column_of, numbered, bind_leaf, is_nowhere, names_stop}
use Rattle.binding.specs.Bind.{by_name}
use Rattle.numbering.proofs.Leaves.{number_below}

module _ (R : Rules) (row : List Value) (stored columns : List ℕ) (few : length columns ≤ 64) where
  -- a number's leaf means its column
  number_means : (m : ℕ) → m < 32 → leaf_of stored (4 * 2 ^ 56 + m) ≡ column m
  unfolding leaf_of
  number_means m h =
      let k : (4 * 2 ^ 56 + m) / 2 ^ 56 ≡ 4 = omega arith in
      let b : (4 * 2 ^ 56 + m) % 2 ^ 56 ≡ m = omega arith in
      rw (k, b)

  -- what a leaf that is no name means has nothing to do with names
  other_means : (w : ℕ) → (kind_of w ≡ 3 → ⊥) → by_name (names stored columns) row (leaf_of stored w) ≡ leaf_of stored w
  unfolding leaf_of by_name
  other_means w other = rw (ne_eqb (kind_of w) 3 other) (by (eqb (kind_of w) 4))
    where
      by : (x : Bool) → by_name (names stored columns) row (cond x (column (body_of w)) (literal (value_of stored w))) ≡ cond x (column (body_of w)) (literal (value_of stored w))
      by true = refl
      by false = refl

  -- a name means the cell of the first column of that name
  name_means : (w : ℕ) → kind_of w ≡ 3 → (m : ℕ) → column_of stored columns w ≡ found m → by_name (names stored columns) row (leaf_of stored w) ≡ literal (get_or row m null)
  unfolding leaf_of by_name
  name_means w name m e = rw (name, e)

  -- a leaf bound means what the named one does
  leaf_means : (at w : ℕ) → names_stop stored columns at (leaf w) ≡ never
      → eval R row (leaf (leaf_of stored (bind_leaf stored columns w))) ≡ eval R row (leaf (by_name (names stored columns) row (leaf_of stored w)))
  unfolding names_stop bind_leaf eval
  leaf_means at w n = by (eqb (kind_of w) 3) refl (column_of stored columns w) refl n
    where
      by : (x : Bool) → eqb (kind_of w) 3 ≡ x → (o : Where) → column_of stored columns w ≡ o → stop_if (both x (is_nowhere o)) 4 at ≡ never
          → eval R row (leaf (leaf_of stored (cond x (numbered w o) w))) ≡ eval R row (leaf (by_name (names stored columns) row (leaf_of stored w)))
      by false q o e n = ap (λ a. eval R row (leaf a)) (sym (other_means w (eqb-false (kind_of w) 3 q)))
      by true q nowhere e n = absurd (let z : ◌≡◌ {A = ℕ} 0 1 = cc in omega arith)
      by true q (found m) e n = rw (number_means m (number_below stored columns _ m few e), name_means w (eqb-true (kind_of w) 3 q) m e)

  -- so does the whole tree
  pub bind_means : (at : ℕ) (t : Tree ℕ) → names_stop stored columns at t ≡ never
      → eval R row (map_tree (leaf_of stored) (map_tree (bind_leaf stored columns) t)) ≡ eval R row (map_tree (by_name (names stored columns) row) (map_tree (leaf_of stored) t))
  unfolding map_tree names_stop eval
  bind_means at (leaf w) n = leaf_means at w n
  bind_means at (unary op a) n = ap (λ o. and_then o (unary_of R op)) (bind_means at a n)
  bind_means at (binary op a b) n =
      let h = never_both (names_stop stored columns at a) (names_stop stored columns (at + width a) b) n in
      ap₂ (λ o p. and_then o (λ v. cond (decides op v) (value (from_bool (to_bool v))) (and_then p (two_sided R op v))))
      (bind_means at a h.0) (bind_means (at + width a) b h.1)
