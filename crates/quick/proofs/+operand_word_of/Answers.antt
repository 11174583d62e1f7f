-- `quick::operand` and `quick::word_of` meet their contracts, by recursion with falling depth: the measures are 2 * depth + 1 and
-- 2 * depth. Each word is one law of Walking. Assumes nothing.
use mathlib.Core.Path.{sym, ◌∙◌}
use native.Mathlib.Omega.{arith}
use borrow.Author.Rules.{scaled_Fits}
use Rattle.conditions.proofs.NodeKind.{node_leaf, node_one, node_two}
use Rattle.conditions.proofs.Descent.{in_table, deep, sound_one, sound_two}
use Rattle.quick.proofs.Walking.{leaf_sound, leaf_found, one_stands, one_found, left_stands, right_stands, left_found, two_found}
use Rattle.wordwise.proofs.Settling.{flagged, both_truth}
use Rattle.quick.proofs.+operand_word_of.Goals as goal

pub word_of-offset_bounds-nodes-k : goal.word_of-offset_bounds-nodes-k
word_of-offset_bounds-nodes-k t c = scaled_Fits _ _ 8 (in_table _ _ _ _ _ c.requires.sound) c.well_formed.0.1

pub word_of-bounds-nodes-k : goal.word_of-bounds-nodes-k
word_of-bounds-nodes-k t c = in_table _ _ _ _ _ c.requires.sound

pub word_of-leaf-requires : goal.word_of-leaf-requires
word_of-leaf-requires t c = leaf_sound _ _ _ _ _ c.requires _ (node_leaf _ c.if-op-lt16.true)

pub word_of-returns-then-op-lt16 : goal.word_of-returns-then-op-lt16
word_of-returns-then-op-lt16 t c = leaf_found _ _ _ _ _ c.requires _ _ (node_leaf _ c.if-op-lt16.true) c.leaf.ensures

pub word_of-overflow_sub-k : goal.word_of-overflow_sub-k
word_of-overflow_sub-k t c = (sound_one _ _ _ _ _ c.requires.sound (node_one _ c.if-op-lt16.false c.if-op-lt32.true)).below

pub word_of-overflow_sub-depth : goal.word_of-overflow_sub-depth
word_of-overflow_sub-depth t c = deep _ _ _ _ _ c.requires.sound

pub word_of-operand-requires : goal.word_of-operand-requires
word_of-operand-requires t c = (omega (arith, c.decreases, deep _ _ _ _ _ c.requires.sound), one_stands _ _ _ _ _ c.requires _ (node_one _ c.if-op-lt16.false c.if-op-lt32.true))

pub word_of-one-requires : goal.word_of-one-requires
word_of-one-requires t c = (sound_one _ _ _ _ _ c.requires.sound (node_one _ c.if-op-lt16.false c.if-op-lt32.true)).known

pub word_of-returns-then-op-lt32 : goal.word_of-returns-then-op-lt32
word_of-returns-then-op-lt32 t c = one_found _ _ _ _ _ c.requires _ (node_one _ c.if-op-lt16.false c.if-op-lt32.true) _ _ c.in_ok-a.ensures c.one.ensures

pub word_of-overflow_sub-depth-2 : goal.word_of-overflow_sub-depth-2
word_of-overflow_sub-depth-2 t c = deep _ _ _ _ _ c.requires.sound

pub word_of-operand-requires-2 : goal.word_of-operand-requires-2
word_of-operand-requires-2 t c = (omega (arith, c.decreases, deep _ _ _ _ _ c.requires.sound), left_stands _ _ _ _ _ c.requires _ _ (node_two _ c.if-op-lt32.false))

pub word_of-returns-then-decided : goal.word_of-returns-then-decided
word_of-returns-then-decided t c = left_found _ _ _ _ _ c.requires _ _ (node_two _ c.if-op-lt32.false) _ c.in_ok-a-2.ensures _ c.truth.result (sym (c.decided.ensures _ c.in_ok-a-2.ensures.within) ∙ c.if-decided.true) (c.truth.ensures _ c.in_ok-a-2.ensures.within) c.flag.ensures

pub word_of-overflow_sub-k-2 : goal.word_of-overflow_sub-k-2
word_of-overflow_sub-k-2 t c = (sound_two _ _ _ _ _ c.requires.sound (node_two _ c.if-op-lt32.false)).right_below

pub word_of-overflow_sub-depth-3 : goal.word_of-overflow_sub-depth-3
word_of-overflow_sub-depth-3 t c = deep _ _ _ _ _ c.requires.sound

pub word_of-operand-requires-3 : goal.word_of-operand-requires-3
word_of-operand-requires-3 t c = (omega (arith, c.decreases, deep _ _ _ _ _ c.requires.sound), right_stands _ _ _ _ _ c.requires _ _ (node_two _ c.if-op-lt32.false))

pub word_of-returns-then-op-ge47 : goal.word_of-returns-then-op-ge47
word_of-returns-then-op-ge47 t c = two_found _ _ _ _ _ c.requires _ _ (node_two _ c.if-op-lt32.false) _ c.in_ok-a-2.ensures _ _ c.in_ok-b.ensures (λ R. flagged _ _ _ c.flag-then-op-ge47.ensures (both_truth R _ _ _ _ (sym (c.decided.ensures _ c.in_ok-a-2.ensures.within) ∙ c.if-decided.false) c.if-op-ge47.true (c.truth-then-op-ge47.ensures _ c.in_ok-b.ensures.within)))

pub word_of-returns : goal.word_of-returns
word_of-returns t c = two_found _ _ _ _ _ c.requires _ _ (node_two _ c.if-op-lt32.false) _ c.in_ok-a-2.ensures _ _ c.in_ok-b.ensures c.two.ensures.is
