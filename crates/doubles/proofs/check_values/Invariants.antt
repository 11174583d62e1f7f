-- `doubles::check_values` meets its contract. The loop's invariant: what stops the cells is what stops those that are left.
-- Assumes nothing.
use mathlib.Core.Path.{◌≡◌}
use lib.ListN.{drop}
use Rattle.doubles.specs.Doubles.{values_stop}
use Rattle.doubles.proofs.check_values.Given as goal

abbrev pub invariant-loop-i : goal.invariant-loop-i
invariant-loop-i l = values_stop l.columns l.stored 0 l.rows ≡ values_stop l.columns l.stored l.i (drop l.i l.rows)
