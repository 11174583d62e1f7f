-- `values::compare` meets its contract. Assumes nothing.
use mathlib.Core.Path.{◌∙◌}
use native.Mathlib.Nat.{add-sub_cancel_left}
use lib.ListN.{length}
use Rattle.cells.specs.Cell.{Inside}
use Rattle.cells.specs.declared.ValueRef.TheVariants.{Str}
use Rattle.values.specs.Value.{to_value}
use Rattle.values.specs.Order.{order}
use Rattle.std.proofs.Common.{rules}
use Rattle.values.proofs.Ordered.{ints_held}
use Rattle.values.proofs.ByKind.{null_other, int_other, str_other, binary_other}
use native.Mathlib.Omega.{arith}
use Rattle.values.proofs.compare.Goals as goal

pub slice_bounds-compare_bytes-end : goal.slice_bounds-compare_bytes-end
unfolding Inside
slice_bounds-compare_bytes-end c = let h : Inside (length c.args.stored.now) (Str c.in-Str.start c.in-Str.length) = rw c.in-Str.is at c.requires.0 in
    omega arith

pub slice_bounds-compare_bytes-end-in-Str-b : goal.slice_bounds-compare_bytes-end-in-Str-b
unfolding Inside
slice_bounds-compare_bytes-end-in-Str-b c = let h : Inside (length c.args.stored.now) (Str c.in-Str-b.other c.in-Str-b.long) = rw c.in-Str-b.is at c.requires.1 in
    omega arith

pub returns-in-Null-b : goal.returns-in-Null-b
unfolding order to_value
returns-in-Null-b c = rw (c.in-Null.is, c.in-Null-b.is)

pub returns-in_default : goal.returns-in_default
unfolding to_value
returns-in_default c = rw c.in-Null.is (null_other c.args.stored.now c.args.b c.in_default.not-Null)

pub returns-in-Null-b-2 : goal.returns-in-Null-b-2
unfolding order to_value
returns-in-Null-b-2 c = rw (c.in-Int.is, c.in-Null-b-2.is)

pub returns-in-Int-b : goal.returns-in-Int-b
unfolding order to_value
returns-in-Int-b c = rw (c.in-Int.is, c.in-Int-b.is) (c.cmp.ensures ∙ ints_held c.in-Int.x c.in-Int-b.y (search rules) (search rules))

pub returns-in_default-b : goal.returns-in_default-b
unfolding to_value
returns-in_default-b c = rw c.in-Int.is (int_other c.args.stored.now _ c.args.b c.in_default-b.not-Null c.in_default-b.not-Int)

pub returns-in-Str-b : goal.returns-in-Str-b
unfolding order to_value
returns-in-Str-b c = rw (c.in-Str.is, c.in-Str-b.is) (c.compare_bytes.ensures ∙ rw (add-sub_cancel_left, add-sub_cancel_left))

pub returns-in-Binary-b : goal.returns-in-Binary-b
unfolding order to_value
returns-in-Binary-b c = rw (c.in-Str.is, c.in-Binary-b.is)

pub returns-in_default-b-2 : goal.returns-in_default-b-2
unfolding to_value
returns-in_default-b-2 c = rw c.in-Str.is (str_other c.args.stored.now _ c.args.b c.in_default-b-2.not-Str c.in_default-b-2.not-Binary)

pub returns-in-Binary-b-2 : goal.returns-in-Binary-b-2
unfolding order to_value
returns-in-Binary-b-2 c = rw (c.in-Binary.is, c.in-Binary-b-2.is)

pub returns-in_default-b-3 : goal.returns-in_default-b-3
unfolding to_value
returns-in_default-b-3 c = rw c.in-Binary.is (binary_other c.args.stored.now c.args.b c.in_default-b-3.not-Binary)
