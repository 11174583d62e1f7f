-- `marking::mark_row` meets its contract. Assumes nothing.
use Rattle.marking.proofs.Marking.{row_untested}
use Rattle.marking.proofs.mark_row.Goals as goal

pub returns-then-count-eq0 : goal.returns-then-count-eq0
returns-then-count-eq0 c = λ b A. row_untested _ _ _ _ _ _ b A c.if-count-eq0.true
