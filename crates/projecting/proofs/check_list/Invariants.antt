-- `projecting::check_list` meets its contract. The loop's invariant: what is left of the list says the rest. Assumes nothing.
use mathlib.Core.Path.{◌≡◌}
use lib.ListN.{drop}
use Rattle.projecting.specs.Project.{list_stop}
use Rattle.projecting.proofs.check_list.Given as goal

abbrev pub invariant-loop-i : goal.invariant-loop-i
invariant-loop-i l = list_stop l.width 0 l.list ≡ list_stop l.width l.i (drop l.i l.list)
