-- `doubles::check_new` meets its contract. The loop's invariant: what stops the new rows is what stops those that are left. Assumes nothing.
use mathlib.Core.Path.{sym, ◌∙◌}
use native.Mathlib.Nat.{sub-zero}
use Prim.Native.Nat.{◌≤◌}
use native.Mathlib.Omega.{arith}
use Rattle.sorting.proofs.Reading.{row_ends}
use Rattle.doubles.proofs.Among.{new_end}
use Rattle.doubles.proofs.Stopping.{found_some, found_none, search_asks, taken, repeated, new_on}
use Rattle.doubles.proofs.check_new.Goals as goal

pub loop-k-init : goal.loop-k-init
loop-k-init c = rw sub-zero

pub overflow_mul-start : goal.overflow_mul-start
overflow_mul-start c = omega (arith, row_ends c.requires.1 c.loop-k.k c.loop-k-test.true)

pub overflow_add-row : goal.overflow_add-row
overflow_add-row c = omega (arith, row_ends c.requires.1 c.loop-k.k c.loop-k-test.true)

pub offset_bounds-new-start : goal.offset_bounds-new-start
offset_bounds-new-start c = omega (arith, row_ends c.requires.1 c.loop-k.k c.loop-k-test.true)

pub slice_bounds-row-end : goal.slice_bounds-row-end
slice_bounds-row-end c = omega (arith, row_ends c.requires.1 c.loop-k.k c.loop-k-test.true)

pub equal_row-requires : goal.equal_row-requires
equal_row-requires c = search_asks c.requires.0 c.requires.1 _ _ c.loop-k-test.true (omega arith)

pub returns-then-is_some : goal.returns-then-is_some
returns-then-is_some c =
    let f = found_some c.equal_row.result (sym c.is_some.ensures ∙ c.if-is_some.true) c.equal_row.ensures in
    sym (c.loop-k.invariant ∙ taken _ _ _ _ _ c.requires.0.whole _ _ c.loop-k-test.true f.0 f.1 f.2)

pub equal_row-requires-in-loop-k : goal.equal_row-requires-in-loop-k
equal_row-requires-in-loop-k c = search_asks c.requires.1 c.requires.1 _ _ c.loop-k-test.true (omega arith)

pub returns-then-is_some-2 : goal.returns-then-is_some-2
returns-then-is_some-2 c =
    let f = found_some c.equal_row-in-loop-k.result (sym c.is_some-in-loop-k.ensures ∙ c.if-is_some-2.true) c.equal_row-in-loop-k.ensures in
    sym (c.loop-k.invariant ∙ repeated _ _ _ _ _ c.requires.0.whole _ _ c.loop-k-test.true _ (found_none c.equal_row.result (sym c.is_some.ensures ∙ c.if-is_some.false) c.equal_row.ensures) (let z : c.args.m ≤ c.args.m = omega arith in z) f.0 f.1 f.2)

pub loop-k-preserved : goal.loop-k-preserved
loop-k-preserved c =
    c.loop-k.invariant ∙ new_on _ _ _ _ _ c.requires.0.whole _ _ c.loop-k-test.true
    _ (found_none c.equal_row.result (sym c.is_some.ensures ∙ c.if-is_some.false) c.equal_row.ensures) (let z : c.args.m ≤ c.args.m = omega arith in z)
    _ (found_none c.equal_row-in-loop-k.result (sym c.is_some-in-loop-k.ensures ∙ c.if-is_some-2.false) c.equal_row-in-loop-k.ensures) (let z : c.loop-k.k ≤ c.loop-k.k = omega arith in z)

pub returns : goal.returns
returns c = sym (c.loop-k.invariant ∙ new_end _ _ _ _ c.loop-k-test.false)
