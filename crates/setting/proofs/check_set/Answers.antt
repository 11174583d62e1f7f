-- `setting::check_set` meets its contract. Assumes nothing.
use Rattle.refusals.specs.Stop.{checked_of}
use Rattle.refusals.proofs.First.{at_err}
use Rattle.std.proofs.Common.{ap, ◌∙◌}
use Rattle.setting.proofs.Setting.{set_column, set_cell, set_valid}
use Rattle.setting.proofs.check_set.Goals as goal

pub returns-then-columns-column : goal.returns-then-columns-column
returns-then-columns-column c = λ stored l. set_column _ stored _ _ _ _ c.if-columns-column.true

pub returns-in_err-check_cell : goal.returns-in_err-check_cell
returns-in_err-check_cell c = λ stored l. ap checked_of (at_err c.from_residual.ensures.1) ∙ set_cell _ stored _ _ _ _ c.if-columns-column.false _ c.in_err-check_cell.ensures

pub returns-then-not-is_valid_value : goal.returns-then-not-is_valid_value
returns-then-not-is_valid_value c = λ stored l. set_valid _ stored _ _ _ _ c.if-columns-column.false c.in_ok-check_cell.ensures l _ c.from.ensures _ c.if-not-is_valid_value.ensures

pub returns : goal.returns
returns c = λ stored l. set_valid _ stored _ _ _ _ c.if-columns-column.false c.in_ok-check_cell.ensures l _ c.from.ensures _ c.if-not-is_valid_value.ensures
