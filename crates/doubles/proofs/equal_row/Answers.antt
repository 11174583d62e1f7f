-- `doubles::equal_row` meets its contract. The outer loop's invariant: no row that was passed has the key. The inner one's: what is known of the row
-- is what is left of its columns. Assumes nothing.
use mathlib.Core.Path.{refl}
use native.Mathlib.Omega.{arith}
use borrow.Author.Count.{below_none}
use Rattle.doubles.proofs.Searching.{cell_there, all_equal, passed, next_column}
use Rattle.doubles.proofs.equal_row.Goals as goal

pub rows-init : goal.rows-init
rows-init c = (refl, below_none _)

pub loop-column-init : goal.loop-column-init
loop-column-init c = refl

pub overflow_mul-column : goal.overflow_mul-column
overflow_mul-column c = omega (arith, c.requires.paired)

pub overflow_add-column : goal.overflow_add-column
overflow_add-column c = omega (arith, c.requires.paired)

pub offset_bounds-columns-column : goal.offset_bounds-columns-column
offset_bounds-columns-column c = omega (arith, c.requires.paired)

pub bounds-columns-column : goal.bounds-columns-column
bounds-columns-column c = omega (arith, c.requires.paired)

pub overflow_mul-i : goal.overflow_mul-i
overflow_mul-i c = omega (arith, cell_there c.requires c.rows.i c.rows-test.true c.loop-column.column c.loop-column-test.true)

pub overflow_add-i : goal.overflow_add-i
overflow_add-i c = omega (arith, cell_there c.requires c.rows.i c.rows-test.true c.loop-column.column c.loop-column-test.true)

pub offset_bounds-rows-i : goal.offset_bounds-rows-i
offset_bounds-rows-i c = omega (arith, cell_there c.requires c.rows.i c.rows-test.true c.loop-column.column c.loop-column-test.true)

pub bounds-rows-i : goal.bounds-rows-i
bounds-rows-i c = omega (arith, cell_there c.requires c.rows.i c.rows-test.true c.loop-column.column c.loop-column-test.true)

pub offset_bounds-row-column : goal.offset_bounds-row-column
offset_bounds-row-column c = omega (arith, c.requires.full)

pub bounds-row-column : goal.bounds-row-column
bounds-row-column c = omega (arith, c.requires.full)

pub compare_column-requires : goal.compare_column-requires
compare_column-requires c = (
  c.requires.rows_sound.cells _ (cell_there c.requires _ c.rows-test.true _ c.loop-column-test.true),
  c.requires.row_sound.cells _ (omega (arith, c.requires.full)),
)

pub rows-preserved : goal.rows-preserved
rows-preserved c = (c.rows.invariant.0, passed _ _ _ _ c.requires c.rows-test.true c.loop-column-test.true c.loop-column.invariant _ c.compare_column.ensures c.in_default.not-Equal c.rows.invariant.1)

pub loop-column-preserved : goal.loop-column-preserved
loop-column-preserved c = next_column _ _ _ _ c.requires c.rows-test.true c.loop-column-test.true c.loop-column.invariant _ c.compare_column.ensures c.in-Equal.is

pub returns-after-rows : goal.returns-after-rows
returns-after-rows c = rw c.rows.invariant.0 (record { within = omega arith; none_before = λ k l. c.rows.invariant.1 k (omega (arith, c.rows-test.false)); equal = λ h. absurd (let z : ⊥ = omega arith in z) })

pub returns-after-loop-column : goal.returns-after-loop-column
returns-after-loop-column c = (
  record { within = omega arith; none_before = c.rows.invariant.1; equal = λ _. all_equal _ _ _ _ c.requires c.rows-test.true c.loop-column-test.false c.loop-column.invariant },
  c.rows-test.true,
)
