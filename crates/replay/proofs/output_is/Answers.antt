-- `replay::output_is` meets its contract. The loop's invariant: what is left of the output tells whether rubbish follows the result. Assumes nothing.
use Rattle.std.proofs.Common.{sym, ◌∙◌}
use Rattle.replay.specs.Compare.{rubbish_byte}
use Rattle.replay.proofs.Comparing.{output_short, output_other, output_begins, rubbish_differs, rubbish_agrees, rubbish_end}
use Rattle.replay.proofs.output_is.Goals as goal

pub returns-then-out-end : goal.returns-then-out-end
returns-then-out-end c = sym (output_short (rubbish_byte c.args.rubbish) c.args.out.now c.args.res.now c.if-out-end.true)

pub returns-then-not-equal_bytes : goal.returns-then-not-equal_bytes
returns-then-not-equal_bytes c = sym (output_other (rubbish_byte c.args.rubbish) c.args.out.now c.args.res.now (sym c.equal_bytes.ensures ∙ c.if-not-equal_bytes.true))

pub loop-i-init : goal.loop-i-init
loop-i-init c = output_begins (rubbish_byte c.args.rubbish) c.args.out.now c.args.res.now (sym c.equal_bytes.ensures ∙ c.if-not-equal_bytes.false)

pub returns-then-out-i : goal.returns-then-out-i
returns-then-out-i c = sym (c.loop-i.invariant ∙ rubbish_differs (rubbish_byte c.args.rubbish) c.args.out.now _ c.loop-i-test.true (λ e. c.if-out-i.true (e ∙ sym c.rubbish_at.ensures)))

pub loop-i-preserved : goal.loop-i-preserved
loop-i-preserved c = c.loop-i.invariant ∙ rubbish_agrees (rubbish_byte c.args.rubbish) c.args.out.now _ c.loop-i-test.true (c.if-out-i.false ∙ c.rubbish_at.ensures)

pub returns : goal.returns
returns c = sym (c.loop-i.invariant ∙ rubbish_end (rubbish_byte c.args.rubbish) c.args.out.now _ c.loop-i-test.false)
