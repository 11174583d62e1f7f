-- `projecting::write_rows` meets its contract. The loop's invariant: writing what is left at the place reached gives the result. Assumes nothing.
use borrow.Author.Tests.{ne_eqb}
use Rattle.projecting.proofs.Turns.{writing_skip, writing_end, project_asks, project_wrote}
use Rattle.projecting.proofs.write_rows.Goals as goal

pub loop-i-preserved-then-marks-i : goal.loop-i-preserved-then-marks-i
loop-i-preserved-then-marks-i c = writing_skip _ _ _ _ _ _ _ c.loop-i.invariant c.requires.1 c.loop-i-test.true (ne_eqb _ _ c.if-marks-i.true)

pub project-at-requires : goal.project-at-requires
project-at-requires c = project_asks c.requires.0 _ _ c.requires.1 c.loop-i.invariant c.loop-i-test.true c.if-marks-i.false

pub loop-i-preserved : goal.loop-i-preserved
loop-i-preserved c = project_wrote c.requires.0 _ _ c.requires.1 c.loop-i.invariant c.loop-i-test.true c.if-marks-i.false _ _ c.project-at.ensures

pub returns : goal.returns
returns c = writing_end _ _ _ _ _ _ _ c.loop-i.invariant c.requires.1 c.loop-i-test.false
