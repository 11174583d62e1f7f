-- New values that may not stand in their column, and rows of one key (document 01, refusals 11 to 14). Assumes nothing: these are definitions.
use Rattle.std.specs.Prelude.{Option, Some, None, ℕ, suc, ◌+◌, ◌*◌, ◌%◌, ◌≤◌, ◌<◌, ◌≡◌, not, List, [], ◌∷◌, length, get_or}
use Rattle.refusals.specs.Stop.{Stop, never, stop_if, or_else}
use Rattle.std.specs.declared.cmp.Ordering.TheVariants.{Equal}
use Rattle.values.specs.Value.{value_of}
use Rattle.rules.specs.Rule.{is_valid_value}
use Rattle.conditions.specs.Table.{RowSound}
use Rattle.tables.specs.Table.{column_count}
use Rattle.marking.specs.Marks.{part}
use Rattle.keys.specs.Key.{key_order}

-- 13 at the first cell that may not stand in its column, the first cell having this place among the new words
unfoldable pub values_stop : List ℕ → List ℕ → ℕ → List ℕ → Stop
values_stop columns stored place [] = never
values_stop columns stored place (cell ∷ cells) =
    or_else (stop_if (not (is_valid_value (get_or columns (2 * (place % column_count columns) + 1) 0) (value_of stored cell))) 13 place)
    (values_stop columns stored (suc place) cells)

-- what a search among the first n rows of a table asks: they are there, and the row searched for is full; every cell well formed below the mark
pub record SearchAsks (columns : List ℕ) (used n : ℕ) (rows row : List ℕ) : Type 0 where
  pub paired : length columns ≡ 2 * column_count columns
  pub there : n * column_count columns ≤ length rows
  pub full : length row ≡ column_count columns
  pub rows_sound : RowSound used rows
  pub row_sound : RowSound used row

-- r is the first of n rows that has the key of a row, or n where none has
pub record FirstEqual (columns stored rows : List ℕ) (n : ℕ) (row : List ℕ) (r : ℕ) : Type 0 where
  pub within : r ≤ n
  pub none_before : (i : ℕ) → i < r → key_order columns stored (part rows (column_count columns) i) row ≡ Equal → ⊥
  pub equal : r < n → key_order columns stored (part rows (column_count columns) r) row ≡ Equal

-- what a search finds: the number of that row, or nothing
abbrev pub FoundEqual : (columns stored rows : List ℕ) (n : ℕ) (row : List ℕ) → Option ℕ → Type 0
FoundEqual columns stored rows n row (Some r) = FirstEqual columns stored rows n row r × (r < n)
FoundEqual columns stored rows n row None = FirstEqual columns stored rows n row n
