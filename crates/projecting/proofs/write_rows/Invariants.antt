-- `projecting::write_rows` meets its contract. The loop's invariant: writing what is left at the place reached gives the result. Assumes nothing.
use Rattle.marking.specs.Marks.{part}
use Rattle.projecting.specs.Project.{projected, has_mark}
use Rattle.projecting.proofs.Turns.{Writing}
use Rattle.projecting.proofs.write_rows.Given as goal

abbrev pub invariant-loop-i : goal.invariant-loop-i
invariant-loop-i l = Writing (λ j. projected l.list (part l.rows l.width j)) (has_mark l.marks l.mark) l.n l.initial.out l.out l.at l.i
