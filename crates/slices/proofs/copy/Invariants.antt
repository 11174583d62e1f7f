-- `slices::copy` meets its contract. The loop's invariant is that of a copy partway.
-- Assumes nothing.
use Rattle.slices.proofs.Splice.{Copying}
use Rattle.slices.proofs.copy.Given as goal

abbrev pub invariant-loop-i : goal.invariant-loop-i
invariant-loop-i g l = Copying l.src l.initial.out l.at l.out l.i
