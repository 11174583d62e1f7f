-- `replay::keeps` meets its contract. Assumes nothing.
use Rattle.std.proofs.Common.{sym}
use Rattle.replay.proofs.Comparing.{text_short}
use Rattle.replay.proofs.keeps.Goals as goal

pub returns-then-text-end : goal.returns-then-text-end
returns-then-text-end c = sym (text_short c.args.text.now c.args.stored.now c.if-text-end.true)
