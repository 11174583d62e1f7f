-- `straight::is_fine` meets its contract. Assumes nothing.
use mathlib.Core.Path.{sym, ◌∙◌}
use borrow.Author.Tests.{not-true}
use Rattle.cells.proofs.Stops.{stop_never}
use Rattle.straight.proofs.Reading.{int_fine}
use Rattle.straight.proofs.is_fine.Goals as goal

pub returns-then-word-eq16777216 : goal.returns-then-word-eq16777216
returns-then-word-eq16777216 c = λ e. int_fine c.args.used c.args.word c.if-word-eq16777216.true

pub returns-then-is_cell : goal.returns-then-is_cell
returns-then-is_cell c = λ e. stop_never _ _ 0 (sym c.is_cell.ensures ∙ c.if-is_cell.true) (sym c.reaches_beyond.ensures ∙ not-true _ e)
