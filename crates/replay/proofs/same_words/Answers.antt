-- `replay::same_words` meets its contract. Assumes nothing.
use Rattle.std.proofs.Common.{◌∙◌}
use Rattle.replay.proofs.Comparing.{eq_same}
use Rattle.replay.proofs.same_words.Goals as goal

pub returns : goal.returns
returns c = c.eq.ensures ∙ eq_same c.args.a.now c.args.b.now
