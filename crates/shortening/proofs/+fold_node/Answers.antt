-- `shortening::fold_node` meets its contract, by recursion with falling depth: the measure is the depth. Each answer is one law of Walking.
-- Assumes nothing.
use mathlib.Core.Path.{refl, sym}
use native.Mathlib.Omega.{arith}
use Rattle.refusals.proofs.First.{at_err}
use Rattle.conditions.proofs.Walk.{depth_left}
use Rattle.shortening.proofs.Walking.{leaf_space, leaf_gives, one_below, one_asks, one_refused, one_requires, one_gives, two_below, left_asks, left_refused, right_asks, right_refused, two_asks, two_gives}
use Rattle.shortening.proofs.+fold_node.Goals as goal

pub write_leaf-after-requires : goal.write_leaf-after-requires
write_leaf-after-requires t c = leaf_space c.requires.2 (sym c.in-Leaf.ensures)

pub overflow_sub-k : goal.overflow_sub-k
overflow_sub-k t c = one_below c.requires.2 (sym c.in-One.ensures)

pub overflow_sub-depth : goal.overflow_sub-depth
overflow_sub-depth t c = depth_left _ c.requires.2.deep

pub fold_node-requires : goal.fold_node-requires
fold_node-requires t c = (omega (arith, c.decreases, depth_left _ c.requires.2.deep), (_, _, one_asks c.requires.2 (sym c.in-One.ensures)))

pub returns-in_err-a-in-One : goal.returns-in_err-a-in-One
returns-in_err-a-in-One t c = λ v y A. rw (at_err c.from_residual.ensures.1) (one_refused A (sym c.in-One.ensures) c.in_err-a-in-One.ensures _ refl)

pub fold_one-requires : goal.fold_one-requires
fold_one-requires t c = one_requires c.requires.2 (sym c.in-One.ensures) c.in_ok-a-in-One.ensures refl c.fold_node.auto.out

pub overflow_sub-depth-in-Two : goal.overflow_sub-depth-in-Two
overflow_sub-depth-in-Two t c = depth_left _ c.requires.2.deep

pub fold_node-requires-in-Two : goal.fold_node-requires-in-Two
fold_node-requires-in-Two t c = (omega (arith, c.decreases, depth_left _ c.requires.2.deep), (_, _, left_asks c.requires.2 (sym c.in-Two.ensures)))

pub returns-in_err-a-in-Two : goal.returns-in_err-a-in-Two
returns-in_err-a-in-Two t c = λ v y A. rw (at_err c.from_residual-in_err-a-in-Two.ensures.1) (left_refused A (sym c.in-Two.ensures) c.in_err-a-in-Two.ensures _ refl)

pub overflow_sub-k-in-Two : goal.overflow_sub-k-in-Two
overflow_sub-k-in-Two t c = two_below c.requires.2 (sym c.in-Two.ensures)

pub overflow_sub-depth-in-Two-2 : goal.overflow_sub-depth-in-Two-2
overflow_sub-depth-in-Two-2 t c = depth_left _ c.requires.2.deep

pub fold_node-requires-in-Two-2 : goal.fold_node-requires-in-Two-2
fold_node-requires-in-Two-2 t c = (omega (arith, c.decreases, depth_left _ c.requires.2.deep), (_, _, right_asks c.requires.2 (sym c.in-Two.ensures) c.in_ok-a-in-Two.ensures refl c.fold_node-in-Two.auto.out c.fold_node-in-Two.auto.text))

pub returns-in_err-b-in-Two : goal.returns-in_err-b-in-Two
returns-in_err-b-in-Two t c = λ v y A. rw (at_err c.from_residual-in_err-b-in-Two.ensures.1) (right_refused A (sym c.in-Two.ensures) c.in_ok-a-in-Two.ensures refl c.fold_node-in-Two.auto.out c.fold_node-in-Two.auto.text c.in_err-b-in-Two.ensures _ refl)

pub fold_two-requires : goal.fold_two-requires
fold_two-requires t c = two_asks c.requires.2 (sym c.in-Two.ensures) c.in_ok-a-in-Two.ensures refl c.fold_node-in-Two.auto.out c.fold_node-in-Two.auto.text c.in_ok-b-in-Two.ensures refl c.fold_node-in-Two-2.auto.out c.fold_node-in-Two-2.auto.text

pub returns-in-Leaf : goal.returns-in-Leaf
returns-in-Leaf t c = λ v y A. leaf_gives A (sym c.in-Leaf.ensures) _ _ c.write_leaf-after.ensures

pub returns-in_ok-a-in-One : goal.returns-in_ok-a-in-One
returns-in_ok-a-in-One t c = λ v y A. one_gives A (sym c.in-One.ensures) c.in_ok-a-in-One.ensures refl c.fold_node.auto.out _ _ c.fold_one.ensures

pub returns-in_ok-b-in-Two : goal.returns-in_ok-b-in-Two
returns-in_ok-b-in-Two t c = λ v y A. two_gives A (sym c.in-Two.ensures) c.in_ok-a-in-Two.ensures refl c.fold_node-in-Two.auto.out c.fold_node-in-Two.auto.text c.in_ok-b-in-Two.ensures refl c.fold_node-in-Two-2.auto.out c.fold_node-in-Two-2.auto.text _ _ _ c.fold_two.ensures
