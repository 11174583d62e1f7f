-- `conditions::evaluate` and `conditions::operand` meet their contracts, by recursion with falling depth: the measures are 2 * depth and
-- 2 * depth + 1, so no call goes deeper than the depth that the first one is given. Each answer is one law of Walk. Assumes nothing.
use borrow.Author.Rules.{scaled_Fits}
use native.Mathlib.Omega.{arith}
use mathlib.Core.Path.{sym, ◌∙◌}
use Rattle.conditions.proofs.NodeKind.{node_low}
use Rattle.conditions.proofs.Descent.{in_table, deep, sound_one, sound_two}
use Rattle.conditions.proofs.Walk.{leaf_sound, leaf_answers, one_asks, one_refused, one_answers, left_asks, left_refused, left_decided, right_asks, right_refused, join_asks, two_answers, one_lies, left_lies, two_lies}
use Rattle.conditions.proofs.Lying.{lies_leaf}
use Rattle.conditions.proofs.+evaluate_operand.Goals as goal

pub evaluate-offset_bounds-nodes-k : goal.evaluate-offset_bounds-nodes-k
evaluate-offset_bounds-nodes-k t c = scaled_Fits _ _ 8 (in_table _ _ _ _ _ c.requires.sound) c.well_formed.1.0.1

pub evaluate-bounds-nodes-k : goal.evaluate-bounds-nodes-k
evaluate-bounds-nodes-k t c = in_table _ _ _ _ _ c.requires.sound

pub evaluate-leaf-requires : goal.evaluate-leaf-requires
evaluate-leaf-requires t c = leaf_sound _ _ _ _ _ _ _ _ c.requires _ (sym c.node_of.ensures ∙ c.in-Leaf.is)

pub evaluate-overflow_sub-k : goal.evaluate-overflow_sub-k
evaluate-overflow_sub-k t c = (sound_one _ _ _ _ _ c.requires.sound (sym c.node_of.ensures ∙ c.in-One.is)).below

pub evaluate-overflow_sub-depth : goal.evaluate-overflow_sub-depth
evaluate-overflow_sub-depth t c = deep _ _ _ _ _ c.requires.sound

pub evaluate-operand-a-requires : goal.evaluate-operand-a-requires
evaluate-operand-a-requires t c = (omega (arith, c.decreases, deep _ _ _ _ _ c.requires.sound), one_asks _ _ _ _ _ _ _ _ c.requires _ (sym c.node_of.ensures ∙ c.in-One.is))

pub evaluate-returns-in_default-clause-means : goal.evaluate-returns-in_default-clause-means
evaluate-returns-in_default-clause-means t c = one_refused _ _ _ _ _ _ _ _ c.requires _ (sym c.node_of.ensures ∙ c.in-One.is) _ _ (_, c.in_default.is) c.operand-a.ensures.means

pub evaluate-unary-requires : goal.evaluate-unary-requires
evaluate-unary-requires t c = (sound_one _ _ _ _ _ c.requires.sound (sym c.node_of.ensures ∙ c.in-One.is)).known

pub evaluate-overflow_sub-r : goal.evaluate-overflow_sub-r
evaluate-overflow_sub-r t c = (sound_two _ _ _ _ _ c.requires.sound (sym c.node_of.ensures ∙ c.in-Two.is)).right_below

pub evaluate-overflow_sub-depth-in-Two : goal.evaluate-overflow_sub-depth-in-Two
evaluate-overflow_sub-depth-in-Two t c = deep _ _ _ _ _ c.requires.sound

pub evaluate-operand-a-requires-in-Two : goal.evaluate-operand-a-requires-in-Two
evaluate-operand-a-requires-in-Two t c = (omega (arith, c.decreases, deep _ _ _ _ _ c.requires.sound), left_asks _ _ _ _ _ _ _ _ c.requires _ _ (sym c.node_of.ensures ∙ c.in-Two.is))

pub evaluate-returns-in_default-a-clause-means : goal.evaluate-returns-in_default-a-clause-means
evaluate-returns-in_default-a-clause-means t c = left_refused _ _ _ _ _ _ _ _ c.requires _ _ (sym c.node_of.ensures ∙ c.in-Two.is) _ _ (_, c.in_default-a.is) c.operand-a-in-Two.ensures.means

pub evaluate-returns-then-decided : goal.evaluate-returns-then-decided
evaluate-returns-then-decided t c = record {
  means = left_decided _ _ _ _ _ _ _ _ c.requires _ _ (sym c.node_of.ensures ∙ c.in-Two.is) _ _ _ c.in-Ok-a.ensures.means c.operand-a-in-Two.auto.text _ c.decided.ensures _ _ c.if-decided.true c.truth.ensures c.flag.ensures;
  lies = left_lies _ _ _ _ _ _ _ _ c.requires _ _ (sym c.node_of.ensures ∙ c.in-Two.is) _ _ _ c.in-Ok-a.ensures.means c.operand-a-in-Two.auto.text _ c.decided.ensures _ _ c.flag.ensures;
}

pub evaluate-overflow_sub-depth-in-Two-2 : goal.evaluate-overflow_sub-depth-in-Two-2
evaluate-overflow_sub-depth-in-Two-2 t c = deep _ _ _ _ _ c.requires.sound

pub evaluate-operand-b-requires : goal.evaluate-operand-b-requires
evaluate-operand-b-requires t c = (omega (arith, c.decreases, deep _ _ _ _ _ c.requires.sound), right_asks _ _ _ _ _ _ _ _ c.requires _ _ (sym c.node_of.ensures ∙ c.in-Two.is) _ _ _ c.in-Ok-a.ensures.means c.operand-a-in-Two.auto.text _ c.decided.ensures c.if-decided.false)

pub evaluate-returns-in_default-b-clause-means : goal.evaluate-returns-in_default-b-clause-means
evaluate-returns-in_default-b-clause-means t c = right_refused _ _ _ _ _ _ _ _ c.requires _ _ (sym c.node_of.ensures ∙ c.in-Two.is) _ _ _ c.in-Ok-a.ensures.means c.operand-a-in-Two.auto.text _ c.decided.ensures c.if-decided.false _ _ c.operand-b.ensures.means (_, c.in_default-b.is)

pub evaluate-apply-requires : goal.evaluate-apply-requires
evaluate-apply-requires t c = join_asks _ _ _ _ _ _ _ _ c.requires _ _ (sym c.node_of.ensures ∙ c.in-Two.is) _ _ _ c.in-Ok-a.ensures.means c.operand-a-in-Two.auto.text _ c.decided.ensures c.if-decided.false _ _ c.operand-b.ensures.means _ _ c.in-Ok-b.is c.operand-b.auto.text

pub evaluate-returns-in-Leaf-clause-means : goal.evaluate-returns-in-Leaf-clause-means
evaluate-returns-in-Leaf-clause-means t c = leaf_answers _ _ _ _ _ _ _ _ c.requires _ _ (sym c.node_of.ensures ∙ c.in-Leaf.is) c.leaf.ensures

pub evaluate-returns-in-Ok : goal.evaluate-returns-in-Ok
evaluate-returns-in-Ok t c = record {
  means = one_answers _ _ _ _ _ _ _ _ c.requires _ (sym c.node_of.ensures ∙ c.in-One.is) _ _ _ _ c.in-Ok.ensures.means c.unary.ensures c.operand-a.auto.text;
  lies = one_lies _ _ _ _ _ _ _ _ c.requires _ (sym c.node_of.ensures ∙ c.in-One.is) _ _ _ c.unary.result c.in-Ok.ensures.means c.unary.ensures c.operand-a.auto.text;
}

pub evaluate-returns-in-Ok-b : goal.evaluate-returns-in-Ok-b
evaluate-returns-in-Ok-b t c = record {
  means = two_answers _ _ _ _ _ _ _ _ c.requires _ _ (sym c.node_of.ensures ∙ c.in-Two.is) _ _ _ c.in-Ok-a.ensures.means c.operand-a-in-Two.auto.text _ c.decided.ensures c.if-decided.false _ _ c.operand-b.ensures.means _ _ c.in-Ok-b.is c.operand-b.auto.text _ _ c.apply.ensures;
  lies = two_lies _ _ _ _ _ _ _ _ c.requires _ _ (sym c.node_of.ensures ∙ c.in-Two.is) _ _ _ c.in-Ok-a.ensures.means c.operand-a-in-Two.auto.text _ c.decided.ensures c.if-decided.false _ _ c.operand-b.ensures.means _ _ c.in-Ok-b.is c.operand-b.auto.text _ c.apply.result c.apply.ensures;
}

pub operand-offset_bounds-nodes-k : goal.operand-offset_bounds-nodes-k
operand-offset_bounds-nodes-k t c = scaled_Fits _ _ 8 (in_table _ _ _ _ _ c.requires.sound) c.well_formed.1.0.1

pub operand-bounds-nodes-k : goal.operand-bounds-nodes-k
operand-bounds-nodes-k t c = in_table _ _ _ _ _ c.requires.sound

pub operand-leaf-requires : goal.operand-leaf-requires
operand-leaf-requires t c = leaf_sound _ _ _ _ _ _ _ _ c.requires _ (node_low _ c.if-word-lt1152921504606846976.true)

pub operand-returns-then-word-lt1152921504606846976 : goal.operand-returns-then-word-lt1152921504606846976
operand-returns-then-word-lt1152921504606846976 t c = record {
  means = leaf_answers _ _ _ _ _ _ _ _ c.requires _ _ (node_low _ c.if-word-lt1152921504606846976.true) c.leaf.ensures;
  lies = lies_leaf c.args.top _ _ _ _ _ c.args.top (node_low _ c.if-word-lt1152921504606846976.true) c.leaf.ensures;
}
