-- The new cells from one on: whether it may stand in its column, a turn of a loop over them, and its end. Assumes nothing.
use mathlib.Core.Path.{◌≡◌, sym, ap, ◌∙◌}
use mathlib.Core.Bool.{Bool, true, false, not}
use mathlib.Core.List.{List}
use Prim.Native.Nat.{ℕ, ◌+◌, ◌*◌, ◌%◌, ◌≤◌, ◌<◌}
use native.Mathlib.Omega.{arith}
use native.Mathlib.Nat.{mod-lt}
use native.Mathlib.Numerals.{add-one}
use lib.ListN.{length, drop, get_or, drop_of_length-le}
use lib.Seq.{drop-cons}
use Rattle.refusals.specs.Stop.{never, stop, stop_if, or_else}
use Rattle.cells.specs.Cell.{ref_of, Inside}
use Rattle.cells.specs.declared.ValueRef.{ValueRef}
use Rattle.cells.proofs.Stops.{well_inside}
use Rattle.values.specs.Value.{to_value, value_of}
use Rattle.rules.specs.Rule.{is_valid_value}
use Rattle.conditions.specs.Table.{RowSound}
use Rattle.tables.specs.Table.{column_count}
use Rattle.doubles.specs.Doubles.{values_stop}

-- the rule of the column in which a new cell stands is among the columns' words
pub rule_there : (columns : List ℕ) (i : ℕ) → length columns ≡ 2 * column_count columns → 1 ≤ column_count columns
    → 2 * (i % column_count columns) + 1 < length columns
rule_there columns i e h = omega (arith, mod-lt i {m = column_count columns} (omega arith))

module _ (columns stored rows : List ℕ) (i : ℕ) where
  -- that rule
  abbrev rule_here : ℕ
  rule_here = get_or columns (2 * (i % column_count columns) + 1) 0

  -- no cell is left at the end
  pub values_end : length rows ≤ i → values_stop columns stored i (drop i rows) ≡ never
  unfolding values_stop
  values_end h = rw (drop_of_length-le rows {i = i} h)

  module _ (h : i < length rows) where
    -- one cell, then the rest
    values_turn : values_stop columns stored i (drop i rows)
        ≡ or_else (stop_if (not (is_valid_value rule_here (value_of stored (get_or rows i 0)))) 13 i) (values_stop columns stored (i + 1) (drop (i + 1) rows))
    unfolding values_stop
    values_turn = rw (drop-cons rows i 0 h, add-one i)

    module _ (S : RowSound (length stored) rows) (v : ValueRef) (is : v ≡ ref_of (get_or rows i 0)) (x : Bool)
        (g : (s : List ℕ) → Inside (length s) v → x ≡ is_valid_value rule_here (to_value s v)) where
      -- what the code asks of the cell is what the definition asks
      valid : is_valid_value rule_here (value_of stored (get_or rows i 0)) ≡ x
      valid =
          let inside : Inside (length stored) v = rw is (well_inside (length stored) (get_or rows i 0) (S.cells i h)) in
          ap (λ w. is_valid_value rule_here (to_value stored w)) (sym is) ∙ sym (g stored inside)

      -- a cell that may not stand there stops it
      pub values_stopped : not x ≡ true → values_stop columns stored i (drop i rows) ≡ stop 13 i
      values_stopped n = values_turn ∙ (rw (valid, n))

      -- one that may leaves the later ones
      pub values_on : not x ≡ false → values_stop columns stored i (drop i rows) ≡ values_stop columns stored (i + 1) (drop (i + 1) rows)
      values_on n = values_turn ∙ (rw (valid, n))
