-- `postfix::write_little` meets its contract. The loop's invariant: i bytes are written, and rest is what is left of the number.
-- Assumes nothing.
use Rattle.postfix.proofs.Writing.{writing_turn, writing_end}
use Rattle.postfix.proofs.write_little.Goals as goal

pub loop-i-preserved : goal.loop-i-preserved
loop-i-preserved c = writing_turn c.loop-i.invariant c.requires c.loop-i-test.true

pub returns : goal.returns
returns c = writing_end c.loop-i.invariant c.requires c.loop-i-test.false
