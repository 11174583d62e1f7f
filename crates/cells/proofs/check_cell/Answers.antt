-- `cells::check_cell` meets its contract. Assumes nothing.
use mathlib.Core.Path.{sym, ◌∙◌}
use Rattle.cells.proofs.Stops.{int_never, stop_malformed, stop_beyond, stop_never}
use Rattle.cells.proofs.check_cell.Goals as goal

pub returns-then-word-eq16777216 : goal.returns-then-word-eq16777216
returns-then-word-eq16777216 c = sym (int_never _ _ _ c.if-word-eq16777216.true)

pub returns-then-not-is_cell : goal.returns-then-not-is_cell
returns-then-not-is_cell c = sym (stop_malformed _ _ _ (sym c.is_cell.ensures ∙ c.if-not-is_cell.true))

pub returns-then-reaches_beyond : goal.returns-then-reaches_beyond
returns-then-reaches_beyond c = sym (stop_beyond _ _ _ (sym c.is_cell.ensures ∙ c.if-not-is_cell.false) (sym c.reaches_beyond.ensures ∙ c.if-reaches_beyond.true))

pub returns : goal.returns
returns c = sym (stop_never _ _ _ (sym c.is_cell.ensures ∙ c.if-not-is_cell.false) (sym c.reaches_beyond.ensures ∙ c.if-reaches_beyond.false))
