-- `spelling::print_node` and `spelling::print_operator` meet their contracts, by recursion with falling depth: the measures are 2 * depth + 1 and
-- 2 * depth. Each answer is one law of Walking. Assumes nothing.
use mathlib.Core.Path.{refl, sym, ◌∙◌}
use native.Mathlib.Omega.{arith}
use lib.Dec.{ltb}
use borrow.Author.Rules.{scaled_Fits}
use Rattle.signs.proofs.Lengths.{precedence_small}
use Rattle.conditions.proofs.Walk.{depth_left}
use Rattle.spelling.proofs.Walking.{leaf_asks, leaf_puts, one_below, one_room, one_asks, one_puts, two_below, open_room, left_asks, sign_room, right_asks, close_room, operator_puts}
use Rattle.spelling.proofs.+print_node_print_operator.Goals as goal

pub print_node-offset_bounds-nodes-k : goal.print_node-offset_bounds-nodes-k
print_node-offset_bounds-nodes-k t c = scaled_Fits _ _ 8 c.requires.1.inside c.well_formed.0.1

pub print_node-bounds-nodes-k : goal.print_node-bounds-nodes-k
print_node-bounds-nodes-k t c = c.requires.1.inside

pub print_node-put_leaf-requires : goal.print_node-put_leaf-requires
print_node-put_leaf-requires t c = leaf_asks c.requires.1 (sym c.node_of.ensures ∙ c.in-Leaf.is)

pub print_node-put_prefix-next-requires : goal.print_node-put_prefix-next-requires
print_node-put_prefix-next-requires t c = one_room c.requires.1 (sym c.node_of.ensures ∙ c.in-One.is)

pub print_node-overflow_sub-k : goal.print_node-overflow_sub-k
print_node-overflow_sub-k t c = one_below c.requires.1 (sym c.node_of.ensures ∙ c.in-One.is)

pub print_node-overflow_sub-depth : goal.print_node-overflow_sub-depth
print_node-overflow_sub-depth t c = depth_left _ c.requires.1.deep

pub print_node-print_node-requires : goal.print_node-print_node-requires
print_node-print_node-requires t c = (omega (arith, c.decreases, depth_left _ c.requires.1.deep), one_asks c.requires.1 (sym c.node_of.ensures ∙ c.in-One.is) c.put_prefix-next.ensures)

pub print_node-print_operator-requires : goal.print_node-print_operator-requires
print_node-print_operator-requires t c = (omega (arith, c.decreases), (c.requires.0, (sym c.node_of.ensures ∙ c.in-Two.is, c.requires.1)))

pub print_node-returns-in-Leaf : goal.print_node-returns-in-Leaf
print_node-returns-in-Leaf t c = λ t A. leaf_puts A (sym c.node_of.ensures ∙ c.in-Leaf.is) _ c.put_leaf.ensures

pub print_node-returns-in-One : goal.print_node-returns-in-One
print_node-returns-in-One t c = λ t A. one_puts A (sym c.node_of.ensures ∙ c.in-One.is) c.put_prefix-next.ensures _ c.print_node.ensures

pub print_node-returns-in-Two : goal.print_node-returns-in-Two
print_node-returns-in-Two t c = λ t A. c.print_operator.ensures t (sym c.node_of.ensures ∙ c.in-Two.is, A)

pub print_operator-put_if-from-requires : goal.print_operator-put_if-from-requires
print_operator-put_if-from-requires t c = open_room c.requires.1.1 c.requires.1.0

pub print_operator-overflow_sub-depth : goal.print_operator-overflow_sub-depth
print_operator-overflow_sub-depth t c = depth_left _ c.requires.1.1.deep

pub print_operator-print_node-middle-requires : goal.print_operator-print_node-middle-requires
print_operator-print_node-middle-requires t c = (omega (arith, c.decreases, depth_left _ c.requires.1.1.deep), left_asks c.requires.1.1 c.requires.1.0 (ltb c.precedence-own.result c.args.asked) c.put_if-from.ensures)

pub print_operator-put_sign-next-requires : goal.print_operator-put_sign-next-requires
print_operator-put_sign-next-requires t c = sign_room c.requires.1.1 c.requires.1.0 (ltb c.precedence-own.result c.args.asked) c.put_if-from.ensures _ c.print_node-middle.ensures

pub print_operator-overflow_sub-k : goal.print_operator-overflow_sub-k
print_operator-overflow_sub-k t c = two_below c.requires.1.1 c.requires.1.0

pub print_operator-overflow_sub-depth-2 : goal.print_operator-overflow_sub-depth-2
print_operator-overflow_sub-depth-2 t c = depth_left _ c.requires.1.1.deep

pub print_operator-overflow_add-own : goal.print_operator-overflow_add-own
print_operator-overflow_add-own t c = omega (arith, c.precedence-own.ensures, precedence_small c.args.op)

pub print_operator-print_node-end-requires : goal.print_operator-print_node-end-requires
print_operator-print_node-end-requires t c = (omega (arith, c.decreases, depth_left _ c.requires.1.1.deep), right_asks c.requires.1.1 c.requires.1.0 (ltb c.precedence-own.result c.args.asked) c.put_if-from.ensures _ c.print_node-middle.ensures c.put_sign-next.ensures)

pub print_operator-put_if-requires : goal.print_operator-put_if-requires
print_operator-put_if-requires t c = close_room c.requires.1.1 c.requires.1.0 (ltb c.precedence-own.result c.args.asked) c.put_if-from.ensures _ c.print_node-middle.ensures c.put_sign-next.ensures c.print_node-end.ensures

pub print_operator-returns : goal.print_operator-returns
print_operator-returns t c = λ t B. operator_puts B.1 B.0 (ltb c.precedence-own.result c.args.asked) c.put_if-from.ensures _ c.print_node-middle.ensures c.put_sign-next.ensures c.print_node-end.ensures _ c.precedence-own.ensures refl c.put_if.ensures
