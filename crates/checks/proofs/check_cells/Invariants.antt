-- `checks::check_cells` meets its contract. The loop's invariant: the cells are refused as those that are left. Assumes nothing.
use mathlib.Core.Path.{◌≡◌}
use Prim.Native.Nat.{◌+◌}
use lib.ListN.{drop}
use Rattle.checks.specs.Check.{cells_stop}
use Rattle.checks.proofs.check_cells.Given as goal

abbrev pub invariant-loop-i : goal.invariant-loop-i
invariant-loop-i l = cells_stop l.used l.place l.words ≡ cells_stop l.used (l.place + l.i) (drop l.i l.words)
