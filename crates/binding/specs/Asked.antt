-- What is looked at before the condition's form. Assumes nothing: these are definitions.
use Rattle.std.specs.Prelude.{ℕ, List}
use Rattle.refusals.specs.Stop.{Stop, or_else}
use Rattle.columns.specs.Column.{columns_stop}
use Rattle.checks.specs.Check.{room_stop, output_stop}
use Rattle.tables.specs.Table.{is_table, count_stop}

-- what stops `bind` before the condition is looked at, in document 01's order
abbrev pub before_stop : List ℕ → ℕ → ℕ → ℕ → Stop
before_stop columns size used output =
    or_else (room_stop 32768 size used)
    (or_else (output_stop output) (or_else (count_stop (is_table columns)) (columns_stop used 0 columns)))
