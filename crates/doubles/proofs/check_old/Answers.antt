-- `doubles::check_old` meets its contract. The loop's invariant: what stops the rows is what stops those that are left. Assumes nothing.
use mathlib.Core.Path.{sym, ◌∙◌}
use native.Mathlib.Nat.{sub-zero}
use Prim.Native.Nat.{◌≤◌}
use native.Mathlib.Omega.{arith}
use Rattle.sorting.proofs.Reading.{row_ends}
use Rattle.sorting.proofs.Lawful.{rows_lawful}
use Rattle.sorting.proofs.Twice.{ascends_never}
use Rattle.doubles.proofs.Among.{double_end}
use Rattle.doubles.proofs.Stopping.{found_some, found_none, search_asks, old_twice, old_on}
use Rattle.doubles.proofs.check_old.Goals as goal

pub returns-then-is_ascending : goal.returns-then-is_ascending
returns-then-is_ascending c = sym (ascends_never _ _ (rows_lawful _ _ _ _ c.requires.whole) (sym c.is_ascending.ensures ∙ c.if-is_ascending.true))

pub loop-i-init : goal.loop-i-init
loop-i-init c = rw sub-zero

pub overflow_mul-start : goal.overflow_mul-start
overflow_mul-start c = omega (arith, row_ends c.requires c.loop-i.i c.loop-i-test.true)

pub overflow_add-start : goal.overflow_add-start
overflow_add-start c = omega (arith, row_ends c.requires c.loop-i.i c.loop-i-test.true)

pub offset_bounds-rows-start : goal.offset_bounds-rows-start
offset_bounds-rows-start c = omega (arith, row_ends c.requires c.loop-i.i c.loop-i-test.true)

pub slice_bounds-equal_row-end : goal.slice_bounds-equal_row-end
slice_bounds-equal_row-end c = omega (arith, row_ends c.requires c.loop-i.i c.loop-i-test.true)

pub equal_row-requires : goal.equal_row-requires
equal_row-requires c = search_asks c.requires c.requires _ _ c.loop-i-test.true (omega arith)

pub returns-then-is_some : goal.returns-then-is_some
returns-then-is_some c =
    let f = found_some c.equal_row.result (sym c.is_some.ensures ∙ c.if-is_some.true) c.equal_row.ensures in
    sym (c.loop-i.invariant ∙ old_twice _ _ _ _ _ c.loop-i-test.true f.0 f.1 f.2)

pub loop-i-preserved : goal.loop-i-preserved
loop-i-preserved c =
    c.loop-i.invariant ∙ old_on _ _ _ _ _ c.loop-i-test.true _ (found_none c.equal_row.result (sym c.is_some.ensures ∙ c.if-is_some.false) c.equal_row.ensures) (let z : c.loop-i.i ≤ c.loop-i.i = omega arith in z)

pub returns : goal.returns
returns c = sym (c.loop-i.invariant ∙ double_end _ _ _ c.loop-i-test.false)
