-- `tables::check_words` meets its contract. Assumes nothing.
use mathlib.Core.Path.{sym, ◌∙◌}
use Rattle.refusals.proofs.First.{handed_on, passed_by}
use Rattle.tables.proofs.Words.{words_are}
use Rattle.tables.proofs.check_words.Goals as goal

pub returns-in_err-check_columns : goal.returns-in_err-check_columns
returns-in_err-check_columns c = handed_on _ _ _ _ c.from_residual.ensures.1 c.in_err-check_columns.ensures
    ∙ sym (words_are c.args.used c.args.left.now c.args.right.now c.args.first.now c.args.second.now)

pub returns-in_err-check_columns-2 : goal.returns-in_err-check_columns-2
returns-in_err-check_columns-2 c = handed_on _ _ _ _ c.from_residual-in_err-check_columns-2.ensures.1 c.in_err-check_columns-2.ensures
    ∙ sym (words_are c.args.used c.args.left.now c.args.right.now c.args.first.now c.args.second.now ∙ passed_by _ _ c.in_ok-check_columns.ensures)

pub returns-in_err-check_cells : goal.returns-in_err-check_cells
returns-in_err-check_cells c = handed_on _ _ _ _ c.from_residual-in_err-check_cells.ensures.1 c.in_err-check_cells.ensures
    ∙ sym (words_are c.args.used c.args.left.now c.args.right.now c.args.first.now c.args.second.now ∙ passed_by _ _ c.in_ok-check_columns.ensures ∙ passed_by _ _ c.in_ok-check_columns-2.ensures)

pub returns : goal.returns
returns c = c.check_cells-2.ensures
    ∙ sym (words_are c.args.used c.args.left.now c.args.right.now c.args.first.now c.args.second.now ∙ passed_by _ _ c.in_ok-check_columns.ensures ∙ passed_by _ _ c.in_ok-check_columns-2.ensures ∙ passed_by _ _ c.in_ok-check_cells.ensures)
