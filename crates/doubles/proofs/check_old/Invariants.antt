-- `doubles::check_old` meets its contract. The loop's invariant: what stops the rows is what stops those that are left. Assumes nothing.
use mathlib.Core.Path.{◌≡◌}
use Prim.Native.Nat.{◌-◌}
use Rattle.sorting.specs.Sorted.{double_stop}
use Rattle.sorting.specs.Rows.{compare_rows}
use Rattle.doubles.proofs.check_old.Given as goal

abbrev pub invariant-loop-i : goal.invariant-loop-i
invariant-loop-i l = double_stop (compare_rows l.columns l.stored l.rows) 0 l.n ≡ double_stop (compare_rows l.columns l.stored l.rows) l.i (l.n - l.i)
