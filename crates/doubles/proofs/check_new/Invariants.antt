-- `doubles::check_new` meets its contract. The loop's invariant: what stops the new rows is what stops those that are left. Assumes nothing.
use mathlib.Core.Path.{◌≡◌}
use mathlib.Core.List.{◌++◌}
use Prim.Native.Nat.{◌-◌}
use Rattle.sorting.specs.Sorted.{new_stop}
use Rattle.sorting.specs.Rows.{compare_rows}
use Rattle.doubles.proofs.check_new.Given as goal

abbrev pub invariant-loop-k : goal.invariant-loop-k
invariant-loop-k l = new_stop (compare_rows l.columns l.stored (l.old ++ l.new)) l.m 0 l.n ≡ new_stop (compare_rows l.columns l.stored (l.old ++ l.new)) l.m l.k (l.n - l.k)
