-- `numbering::bind_leaf` meets its contract. Assumes nothing.
use mathlib.Core.Path.{refl}
use native.Mathlib.Omega.{arith}
use native.Mathlib.Nat.{add-sub_cancel_left}
use Rattle.cells.specs.Cell.{kind_of}
use Rattle.nodes.proofs.Bodies.{body_short}
use Rattle.numbering.proofs.Leaves.{leaf_space, other_binds, name_inside, name_missing, number_small, name_binds}
use borrow.Author.Rules.{rules}
use Rattle.numbering.proofs.bind_leaf.Goals as goal

pub overflow_add-next-then-kind-ne3 : goal.overflow_add-next-then-kind-ne3
overflow_add-next-then-kind-ne3 c = omega (arith, c.body_of.ensures, body_short (kind_of c.args.word), c.requires.early)

pub write_leaf-requires : goal.write_leaf-requires
write_leaf-requires c = leaf_space c.requires _

pub returns-then-kind-ne3 : goal.returns-then-kind-ne3
returns-then-kind-ne3 c = other_binds c.requires c.if-kind-ne3.true _ _ _ c.body_of.ensures c.write_leaf.ensures

pub slice_bounds-find_column-end : goal.slice_bounds-find_column-end
slice_bounds-find_column-end c = name_inside c.requires c.if-kind-ne3.false

pub returns-in_default : goal.returns-in_default
returns-in_default c = name_missing c.requires c.if-kind-ne3.false _ (rw add-sub_cancel_left at c.in_default.ensures) refl

pub overflow_add-bound : goal.overflow_add-bound
overflow_add-bound c = let h = number_small c.requires c.if-kind-ne3.false _ (rw add-sub_cancel_left at c.in-Some.ensures) _ refl in search rules

pub write_leaf-requires-2 : goal.write_leaf-requires-2
write_leaf-requires-2 c = leaf_space c.requires _

pub returns : goal.returns
returns c = name_binds c.requires c.if-kind-ne3.false _ (rw add-sub_cancel_left at c.in-Some.ensures) _ refl _ _ c.write_leaf-2.ensures
