-- `tables::check_count` meets its contract. Assumes nothing.
use mathlib.Core.Path.{sym, ap, ◌∙◌}
use Rattle.tables.specs.Table.{count_stop}
use Rattle.tables.proofs.check_count.Goals as goal

pub returns-then-not-is_table : goal.returns-then-not-is_table
returns-then-not-is_table c = ap count_stop (sym c.if-not-is_table.true ∙ c.is_table.ensures)

pub returns : goal.returns
returns c = ap count_stop (sym c.if-not-is_table.false ∙ c.is_table.ensures)
