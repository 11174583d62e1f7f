-- `straight::run` meets its contract. The loop's invariant: the stack holds the cells of the definition's stack of trees. Assumes nothing.
use Prim.Native.Nat.{◌-◌}
use lib.ListN.{length}
use Rattle.straight.proofs.Running.{Running}
use Rattle.straight.proofs.run.Given as goal

abbrev pub invariant-loop-at : goal.invariant-loop-at
invariant-loop-at l = Running l.b l.row l.stored l.stack l.top l.n l.done l.at

abbrev pub decreases-loop-at : goal.decreases-loop-at
decreases-loop-at l = length l.b - l.at
