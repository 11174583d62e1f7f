-- `forms::scan` meets its contract. The loop's invariant: the tables hold the definition's stack, and the definition goes on from here. Assumes nothing.
use Prim.Native.Nat.{◌-◌}
use lib.ListN.{length}
use Rattle.forms.proofs.Scanning.{Scanning}
use Rattle.forms.proofs.scan.Given as goal

abbrev pub invariant-loop-at : goal.invariant-loop-at
invariant-loop-at l = Scanning l.form l.used l.b l.nodes l.starts l.deeps l.n l.at

abbrev pub decreases-loop-at : goal.decreases-loop-at
decreases-loop-at l = length l.b - l.at
