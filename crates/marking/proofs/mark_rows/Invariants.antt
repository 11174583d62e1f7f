-- `marking::mark_rows` meets its contract. The loop's invariant: what is left of the rows says the rest. Assumes nothing.
use Rattle.marking.proofs.Marking.{MarkLoop}
use Rattle.marking.proofs.mark_rows.Given as goal

abbrev pub invariant-loop-i : goal.invariant-loop-i
invariant-loop-i l = MarkLoop l.count l.used l.n l.width l.nodes l.rows l.initial.text l.initial.marks l.text l.marks l.k l.i
