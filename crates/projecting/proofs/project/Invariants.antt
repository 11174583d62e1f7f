-- `projecting::project` meets its contract. The loop's invariant is that of a copy partway. Assumes nothing.
use Rattle.slices.proofs.Splice.{Copying}
use Rattle.projecting.specs.Project.{projected}
use Rattle.projecting.proofs.project.Given as goal

abbrev pub invariant-loop-i : goal.invariant-loop-i
invariant-loop-i l = Copying (projected l.list l.row) l.initial.out l.at l.out l.i
