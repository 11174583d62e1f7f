-- What is asked where old and new rows are written in key order. Assumes nothing: these are definitions.
use Rattle.std.specs.Prelude.{ℕ, ◌+◌, ◌*◌, ◌≤◌, ◌≡◌, List, length}
use Rattle.refusals.specs.Stop.{never}
use Rattle.tables.specs.Table.{column_count}
use Rattle.sorting.specs.Rows.{RowsSound}
use Rattle.inserting.specs.Insert.{keys_stop}

-- sound rows of different keys, and room for all
pub record SortAsks (columns stored old : List ℕ) (m : ℕ) (new : List ℕ) (n : ℕ) (out : List ℕ) : Type 0 where
  pub old_rows : RowsSound columns (length stored) m old
  pub new_rows : RowsSound columns (length stored) n new
  pub keys : keys_stop columns stored old m new n ≡ never
  pub room : (m + n) * column_count columns ≤ length out
