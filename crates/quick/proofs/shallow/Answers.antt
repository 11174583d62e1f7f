-- `quick::shallow` meets its contract. Assumes nothing.
use native.Mathlib.Omega.{arith}
use borrow.Author.Rules.{scaled_Fits}
use Rattle.conditions.proofs.NodeKind.{node_leaf, node_low, node_two}
use Rattle.conditions.proofs.Descent.{in_table, sound_two}
use Rattle.quick.proofs.Walking.{leaf_sound, leaf_found, left_stands, right_stands, two_found}
use Rattle.quick.proofs.shallow.Goals as goal

pub offset_bounds-nodes-k : goal.offset_bounds-nodes-k
offset_bounds-nodes-k c = scaled_Fits _ _ 8 (in_table _ _ _ _ _ c.requires.sound) c.well_formed.0.1

pub bounds-nodes-k : goal.bounds-nodes-k
bounds-nodes-k c = in_table _ _ _ _ _ c.requires.sound

pub leaf-requires : goal.leaf-requires
leaf-requires c = leaf_sound _ _ _ _ _ c.requires _ (node_leaf _ c.if-op-lt16.true)

pub returns-then-op-lt16 : goal.returns-then-op-lt16
returns-then-op-lt16 c = leaf_found _ _ _ _ _ c.requires _ _ (node_leaf _ c.if-op-lt16.true) c.leaf.ensures

pub bounds-nodes-l : goal.bounds-nodes-l
bounds-nodes-l c = omega (arith, in_table _ _ _ _ _ c.requires.sound, (sound_two _ _ _ _ _ c.requires.sound (node_two _ c.if-op-lt32.false)).left_below)

pub overflow_sub-right : goal.overflow_sub-right
overflow_sub-right c = (sound_two _ _ _ _ _ c.requires.sound (node_two _ c.if-op-lt32.false)).right_below

pub leaf-a-requires : goal.leaf-a-requires
leaf-a-requires c = leaf_sound _ _ _ _ _ (left_stands _ _ _ _ _ c.requires _ _ (node_two _ c.if-op-lt32.false)) _ (node_low _ c.if-left-ge1152921504606846976.false)

pub leaf-b-requires : goal.leaf-b-requires
leaf-b-requires c = leaf_sound _ _ _ _ _ (right_stands _ _ _ _ _ c.requires _ _ (node_two _ c.if-op-lt32.false)) _ (node_low _ c.if-right-ge1152921504606846976.false)

pub returns : goal.returns
returns c = two_found _ _ _ _ _ c.requires _ _ (node_two _ c.if-op-lt32.false) _ (leaf_found _ _ _ _ _ (left_stands _ _ _ _ _ c.requires _ _ (node_two _ c.if-op-lt32.false)) _ _ (node_low _ c.if-left-ge1152921504606846976.false) c.leaf-a.ensures) _ _ (leaf_found _ _ _ _ _ (right_stands _ _ _ _ _ c.requires _ _ (node_two _ c.if-op-lt32.false)) _ _ (node_low _ c.if-right-ge1152921504606846976.false) c.leaf-b.ensures) c.two.ensures.is
