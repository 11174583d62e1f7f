-- `inserting::check_lent` meets its contract: what stops it in document 01's order. Assumes nothing.
use mathlib.Core.Path.{sym, ◌∙◌}
use Rattle.tables.proofs.Words.{table_counted}
use Rattle.inserting.proofs.check_lent.Goals as goal

pub are_rows-requires : goal.are_rows-requires
are_rows-requires c = (table_counted _ (sym c.is_table.ensures ∙ c.if-not-is_table.false)).some

pub are_rows-requires-2 : goal.are_rows-requires-2
are_rows-requires-2 c = (table_counted _ (sym c.is_table.ensures ∙ c.if-not-is_table.false)).some
