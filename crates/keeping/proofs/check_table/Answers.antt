-- `keeping::check_table` meets its contract: what stops it in document 01's order. Assumes nothing.
use mathlib.Core.Path.{sym}
use Rattle.tables.proofs.Words.{table_counted}
use Rattle.keeping.proofs.check_table.Goals as goal

pub are_rows-requires : goal.are_rows-requires
are_rows-requires c = (table_counted _ (sym c.if-not-is_table.ensures)).some
