-- `tables::row` meets its contract. Assumes nothing.
use mathlib.Core.Path.{ap, ◌∙◌}
use Prim.Native.Nat.{◌*◌}
use native.Mathlib.Nat.{add-sub_cancel_left}
use Rattle.slices.specs.Splice.{piece}
use native.Mathlib.Omega.{arith}
use lib.ListN.{length}
use Rattle.tables.proofs.Reading.{no_width, wide, no_multiple, too_large, there, inside}
use Rattle.tables.proofs.row.Goals as goal

pub returns-then-width-lt1 : goal.returns-then-width-lt1
returns-then-width-lt1 c = no_width _ _ _ c.if-width-lt1.true

pub returns-then-width-gt32 : goal.returns-then-width-gt32
returns-then-width-gt32 c = wide _ _ _ c.if-width-lt1.false c.if-width-gt32.true

pub returns-then-rows-width-ne0 : goal.returns-then-rows-width-ne0
returns-then-rows-width-ne0 c = no_multiple _ _ _ c.if-width-lt1.false c.if-width-gt32.false c.if-rows-width-ne0.true

pub returns-then-rows-width : goal.returns-then-rows-width
returns-then-rows-width c = too_large _ _ _ c.if-width-lt1.false c.if-width-gt32.false c.if-rows-width-ne0.false c.if-rows-width.true

pub overflow_mul-start : goal.overflow_mul-start
overflow_mul-start c = omega (arith, inside (length c.args.rows.now) c.args.width c.args.number.0 c.if-width-lt1.false c.if-rows-width.false, c.well_formed.0)

pub overflow_add-result : goal.overflow_add-result
overflow_add-result c = omega (arith, inside (length c.args.rows.now) c.args.width c.args.number.0 c.if-width-lt1.false c.if-rows-width.false, c.well_formed.0)

pub offset_bounds-rows-start : goal.offset_bounds-rows-start
offset_bounds-rows-start c = omega (arith, inside (length c.args.rows.now) c.args.width c.args.number.0 c.if-width-lt1.false c.if-rows-width.false, c.well_formed.0)

pub slice_bounds-result-end-2 : goal.slice_bounds-result-end-2
slice_bounds-result-end-2 c = inside (length c.args.rows.now) c.args.width c.args.number.0 c.if-width-lt1.false c.if-rows-width.false

pub returns : goal.returns
returns c = ap (λ n. piece (c.args.number.0 * c.args.width) n c.args.rows.now) (add-sub_cancel_left (c.args.number.0 * c.args.width) c.args.width) ∙ there _ _ _ c.if-width-lt1.false c.if-width-gt32.false c.if-rows-width-ne0.false c.if-rows-width.false
