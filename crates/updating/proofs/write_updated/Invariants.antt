-- `updating::write_updated` meets its contract. The loop's invariant: writing what is left at the place reached gives the result. Assumes nothing.
use mathlib.Core.Bool.{true}
use lib.ListN.{get_or}
use Rattle.marking.specs.Marks.{part}
use Rattle.projecting.proofs.Turns.{Writing}
use Rattle.setting.specs.Asked.{row_after}
use Rattle.updating.proofs.write_updated.Given as goal

abbrev pub invariant-loop-i : goal.invariant-loop-i
invariant-loop-i l = Writing (λ j. row_after l.sets (get_or l.marks j 0) (part l.rows l.width j)) (λ j. true) l.n l.initial.out l.out l.at l.i
