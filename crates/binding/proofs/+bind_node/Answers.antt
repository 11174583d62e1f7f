-- `binding::bind_node` meets its contract, by recursion with falling depth: the measure is the depth. Each answer is one law of Walking.
-- Assumes nothing.
use mathlib.Core.Path.{refl, sym}
use native.Mathlib.Omega.{arith}
use borrow.Author.Rules.{rules}
use Rattle.refusals.proofs.First.{at_err}
use Rattle.conditions.proofs.Walk.{depth_left}
use Rattle.binding.proofs.Walking.{leaf_asks, leaf_bound, one_known, one_below, one_asks, one_refused, one_room, one_next, one_binds, two_known, two_below, left_asks, left_refused, right_asks, right_refused, two_room, two_next, two_binds}
use Rattle.binding.proofs.+bind_node.Goals as goal

pub bind_leaf-requires : goal.bind_leaf-requires
bind_leaf-requires t c = leaf_asks c.requires.1 (sym c.in-Leaf.ensures)

pub overflow_sub-k : goal.overflow_sub-k
overflow_sub-k t c = one_below c.requires.1 (sym c.in-One.ensures)

pub overflow_sub-depth : goal.overflow_sub-depth
overflow_sub-depth t c = depth_left _ c.requires.1.deep

pub bind_node-requires : goal.bind_node-requires
bind_node-requires t c = (omega (arith, c.decreases, depth_left _ c.requires.1.deep), one_asks c.requires.1 (sym c.in-One.ensures))

pub returns-in_err-e-in-One : goal.returns-in_err-e-in-One
returns-in_err-e-in-One t c = λ s A. rw (at_err c.from_residual.ensures.1) (one_refused A (sym c.in-One.ensures) c.bind_node.new.out _ c.in_err-e-in-One.ensures refl)

pub overflow_cast-out : goal.overflow_cast-out
overflow_cast-out t c = let h = one_known c.requires.1 (sym c.in-One.ensures) in search rules

pub bounds-out-e : goal.bounds-out-e
bounds-out-e t c = one_room c.requires.1 (sym c.in-One.ensures) _ _ c.in_ok-e-in-One.ensures refl c.bind_node.auto.out

pub overflow_add-result : goal.overflow_add-result
overflow_add-result t c = let h = one_room c.requires.1 (sym c.in-One.ensures) _ _ c.in_ok-e-in-One.ensures refl c.bind_node.auto.out in search rules

pub overflow_add-result-in-One : goal.overflow_add-result-in-One
overflow_add-result-in-One t c = let h = one_next c.requires.1 (sym c.in-One.ensures) _ _ c.in_ok-e-in-One.ensures refl c.bind_node.auto.out in search rules

pub overflow_sub-depth-in-Two : goal.overflow_sub-depth-in-Two
overflow_sub-depth-in-Two t c = depth_left _ c.requires.1.deep

pub bind_node-requires-in-Two : goal.bind_node-requires-in-Two
bind_node-requires-in-Two t c = (omega (arith, c.decreases, depth_left _ c.requires.1.deep), left_asks c.requires.1 (sym c.in-Two.ensures))

pub returns-in_err-d-in-Two : goal.returns-in_err-d-in-Two
returns-in_err-d-in-Two t c = λ s A. rw (at_err c.from_residual-in_err-d-in-Two.ensures.1) (left_refused A (sym c.in-Two.ensures) c.bind_node-in-Two.new.out _ c.in_err-d-in-Two.ensures refl)

pub overflow_sub-k-in-Two : goal.overflow_sub-k-in-Two
overflow_sub-k-in-Two t c = two_below c.requires.1 (sym c.in-Two.ensures)

pub overflow_sub-depth-in-Two-2 : goal.overflow_sub-depth-in-Two-2
overflow_sub-depth-in-Two-2 t c = depth_left _ c.requires.1.deep

pub bind_node-requires-in-Two-2 : goal.bind_node-requires-in-Two-2
bind_node-requires-in-Two-2 t c = (omega (arith, c.decreases, depth_left _ c.requires.1.deep), right_asks c.requires.1 (sym c.in-Two.ensures) _ _ c.in_ok-d-in-Two.ensures refl c.bind_node-in-Two.auto.out)

pub returns-in_err-e-in-Two : goal.returns-in_err-e-in-Two
returns-in_err-e-in-Two t c = λ s A. rw (at_err c.from_residual-in_err-e-in-Two.ensures.1) (right_refused A (sym c.in-Two.ensures) _ _ c.in_ok-d-in-Two.ensures refl c.bind_node-in-Two.auto.out c.bind_node-in-Two-2.new.out _ c.in_err-e-in-Two.ensures refl)

pub overflow_cast-out-in-Two : goal.overflow_cast-out-in-Two
overflow_cast-out-in-Two t c = let h = two_known c.requires.1 (sym c.in-Two.ensures) in search rules

pub bounds-out-e-in-Two : goal.bounds-out-e-in-Two
bounds-out-e-in-Two t c = two_room c.requires.1 (sym c.in-Two.ensures) _ _ c.in_ok-d-in-Two.ensures refl c.bind_node-in-Two.auto.out _ _ c.in_ok-e-in-Two.ensures refl c.bind_node-in-Two-2.auto.out

pub overflow_add-result-in-Two : goal.overflow_add-result-in-Two
overflow_add-result-in-Two t c = let h = two_room c.requires.1 (sym c.in-Two.ensures) _ _ c.in_ok-d-in-Two.ensures refl c.bind_node-in-Two.auto.out _ _ c.in_ok-e-in-Two.ensures refl c.bind_node-in-Two-2.auto.out in search rules

pub overflow_add-result-in-Two-2 : goal.overflow_add-result-in-Two-2
overflow_add-result-in-Two-2 t c = let h = two_next c.requires.1 (sym c.in-Two.ensures) _ _ c.in_ok-d-in-Two.ensures refl c.bind_node-in-Two.auto.out _ _ c.in_ok-e-in-Two.ensures refl c.bind_node-in-Two-2.auto.out in search rules

pub returns-in-Leaf : goal.returns-in-Leaf
returns-in-Leaf t c = λ s A. leaf_bound A (sym c.in-Leaf.ensures) _ _ c.bind_leaf.ensures

pub returns-in_ok-e-in-One : goal.returns-in_ok-e-in-One
returns-in_ok-e-in-One t c = λ s A. one_binds A (sym c.in-One.ensures) _ _ c.in_ok-e-in-One.ensures refl c.bind_node.auto.out

pub returns-in_ok-e-in-Two : goal.returns-in_ok-e-in-Two
returns-in_ok-e-in-Two t c = λ s A. two_binds A (sym c.in-Two.ensures) _ _ c.in_ok-d-in-Two.ensures refl c.bind_node-in-Two.auto.out _ _ c.in_ok-e-in-Two.ensures refl c.bind_node-in-Two-2.auto.out
