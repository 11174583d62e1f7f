-- `replay::text_is` meets its contract. Assumes nothing.
use Rattle.std.proofs.Common.{sym, ◌∙◌}
use Rattle.replay.proofs.Comparing.{mark_early, stored_other, stored_there}
use Rattle.replay.proofs.text_is.Goals as goal

pub returns-then-end-start : goal.returns-then-end-start
returns-then-end-start c = sym (mark_early c.args.text.now c.args.stored.now c.args.new.now c.args.mark _ c.min-end.ensures c.if-end-start.true)

pub returns-then-not-equal_bytes : goal.returns-then-not-equal_bytes
returns-then-not-equal_bytes c = sym (stored_other c.args.text.now c.args.stored.now c.args.new.now c.args.mark _ c.min-end.ensures c.if-end-start.false (sym c.equal_bytes.ensures ∙ c.if-not-equal_bytes.true))

pub returns : goal.returns
returns c = c.equal_bytes-2.ensures ∙ stored_there c.args.text.now c.args.stored.now c.args.new.now c.args.mark _ c.min-end.ensures c.if-end-start.false (sym c.equal_bytes.ensures ∙ c.if-not-equal_bytes.false)
