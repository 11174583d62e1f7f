-- `replay::words_are` meets its contract. The loop's invariant: what is left of the output tells whether rubbish follows the result. Assumes nothing.
use Rattle.std.proofs.Common.{sym, ◌∙◌}
use Rattle.replay.specs.Compare.{rubbish_word}
use Rattle.replay.proofs.Comparing.{output_short, output_other, output_begins, rubbish_differs, rubbish_agrees, rubbish_end}
use Rattle.replay.proofs.words_are.Goals as goal

pub returns-then-out-end : goal.returns-then-out-end
returns-then-out-end c = sym (output_short (rubbish_word c.args.rubbish) c.args.out.now c.args.res.now c.if-out-end.true)

pub returns-then-not-same_words : goal.returns-then-not-same_words
returns-then-not-same_words c = sym (output_other (rubbish_word c.args.rubbish) c.args.out.now c.args.res.now (sym c.same_words.ensures ∙ c.if-not-same_words.true))

pub loop-i-init : goal.loop-i-init
loop-i-init c = output_begins (rubbish_word c.args.rubbish) c.args.out.now c.args.res.now (sym c.same_words.ensures ∙ c.if-not-same_words.false)

pub returns-then-out-i : goal.returns-then-out-i
returns-then-out-i c = sym (c.loop-i.invariant ∙ rubbish_differs (rubbish_word c.args.rubbish) c.args.out.now _ c.loop-i-test.true (λ e. c.if-out-i.true (e ∙ sym c.word_at.ensures)))

pub loop-i-preserved : goal.loop-i-preserved
loop-i-preserved c = c.loop-i.invariant ∙ rubbish_agrees (rubbish_word c.args.rubbish) c.args.out.now _ c.loop-i-test.true (c.if-out-i.false ∙ c.word_at.ensures)

pub returns : goal.returns
returns c = sym (c.loop-i.invariant ∙ rubbish_end (rubbish_word c.args.rubbish) c.args.out.now _ c.loop-i-test.false)
