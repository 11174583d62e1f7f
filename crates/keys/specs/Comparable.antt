-- What comparing two rows by their keys asks of them. Assumes nothing: these are definitions.
use Rattle.std.specs.Prelude.{ℕ, ◌*◌, ◌≡◌, List, length}
use Rattle.conditions.specs.Table.{RowSound}
use Rattle.tables.specs.Table.{column_count}

-- two rows of one column table, a cell for each column, every cell well formed below the mark
pub record Comparable (columns : List ℕ) (used : ℕ) (first second : List ℕ) : Type 0 where
  pub whole : length columns ≡ 2 * column_count columns
  pub first_full : length first ≡ column_count columns
  pub second_full : length second ≡ column_count columns
  pub first_sound : RowSound used first
  pub second_sound : RowSound used second
