-- `evaluation::prepare` meets its contract: the checks in document 01's order. Assumes nothing.
use mathlib.Core.Path.{sym}
use Rattle.refusals.proofs.First.{at_err}
use Rattle.evaluation.proofs.Stopping.{row_short, row_long, row_right, at_count, at_cells, at_form, at_numbers, at_none}
use Rattle.evaluation.proofs.prepare.Goals as goal

pub returns-then-row-lt1 : goal.returns-then-row-lt1
returns-then-row-lt1 c = at_count c.args.condition.now _ _ _ (sym c.in_ok-check_room.ensures) (row_short _ c.if-row-lt1.true)

pub returns-then-row-gt32 : goal.returns-then-row-gt32
returns-then-row-gt32 c = at_count c.args.condition.now _ _ _ (sym c.in_ok-check_room.ensures) (row_long _ c.if-row-lt1.false c.if-row-gt32.true)

pub returns-in_err-check_cells : goal.returns-in_err-check_cells
returns-in_err-check_cells c = rw (at_err c.from_residual-in_err-check_cells.ensures.1)
    (at_cells c.args.condition.now _ _ _ (sym c.in_ok-check_room.ensures) (row_right _ c.if-row-lt1.false c.if-row-gt32.false) _ (sym c.in_err-check_cells.ensures))

pub returns-in_err-n : goal.returns-in_err-n
returns-in_err-n c = rw (at_err c.from_residual-in_err-n.ensures.1)
    (at_form _ _ _ _ (sym c.in_ok-check_room.ensures) (row_right _ c.if-row-lt1.false c.if-row-gt32.false) (sym c.in_ok-check_cells.ensures) _ _ c.in_err-n.ensures)

pub returns-in_err-check_numbers : goal.returns-in_err-check_numbers
returns-in_err-check_numbers c = rw (at_err c.from_residual-in_err-check_numbers.ensures.1)
    (at_numbers _ _ _ _ (sym c.in_ok-check_room.ensures) (row_right _ c.if-row-lt1.false c.if-row-gt32.false) (sym c.in_ok-check_cells.ensures)
    c.in_ok-n.ensures.0 c.in_ok-n.ensures.1 _ (sym c.in_err-check_numbers.ensures))

pub returns : goal.returns
returns c = (
  at_none _ _ _ _ (sym c.in_ok-check_room.ensures) (row_right _ c.if-row-lt1.false c.if-row-gt32.false) (sym c.in_ok-check_cells.ensures)
      c.in_ok-n.ensures.0 c.in_ok-n.ensures.1 (sym c.in_ok-check_numbers.ensures),
  c.in_ok-n.ensures,
)
