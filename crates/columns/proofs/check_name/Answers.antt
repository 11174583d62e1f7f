-- `columns::check_name` meets its contract. Assumes nothing.
use mathlib.Core.Path.{sym, ◌∙◌}
use Rattle.columns.proofs.Stops.{name_no_cell, name_no_text, name_beyond, name_empty, name_long, name_never}
use Rattle.columns.proofs.check_name.Goals as goal

pub returns-then-not-is_cell : goal.returns-then-not-is_cell
returns-then-not-is_cell c = sym (name_no_cell _ _ _ (sym c.is_cell.ensures ∙ c.if-not-is_cell.true))

pub returns-then-word-ne2 : goal.returns-then-word-ne2
returns-then-word-ne2 c = sym (name_no_text _ _ _ (sym c.is_cell.ensures ∙ c.if-not-is_cell.false) c.if-word-ne2.true)

pub returns-then-reaches_beyond : goal.returns-then-reaches_beyond
returns-then-reaches_beyond c = sym (name_beyond _ _ _ (sym c.is_cell.ensures ∙ c.if-not-is_cell.false) c.if-word-ne2.false (sym c.reaches_beyond.ensures ∙ c.if-reaches_beyond.true))

pub returns-then-word-lt1 : goal.returns-then-word-lt1
returns-then-word-lt1 c = sym (name_empty _ _ _ (sym c.is_cell.ensures ∙ c.if-not-is_cell.false) c.if-word-ne2.false (sym c.reaches_beyond.ensures ∙ c.if-reaches_beyond.false) c.if-word-lt1.true)

pub returns-then-word-gt255 : goal.returns-then-word-gt255
returns-then-word-gt255 c = sym (name_long _ _ _ (sym c.is_cell.ensures ∙ c.if-not-is_cell.false) c.if-word-ne2.false (sym c.reaches_beyond.ensures ∙ c.if-reaches_beyond.false) c.if-word-lt1.false c.if-word-gt255.true)

pub returns : goal.returns
returns c = sym (name_never _ _ _ (sym c.is_cell.ensures ∙ c.if-not-is_cell.false) c.if-word-ne2.false (sym c.reaches_beyond.ensures ∙ c.if-reaches_beyond.false) c.if-word-lt1.false c.if-word-gt255.false)
