-- What every call on one table looks at first (document 01, "Row calls"). Assumes nothing: these are definitions.
use Rattle.std.specs.Prelude.{ℕ, ◌/◌, Bool, List, [], ◌∷◌, length}
use Rattle.refusals.specs.Stop.{Stop, first_of}
use Rattle.slices.specs.Bytes.{both}
use Rattle.checks.specs.Check.{room_stop}
use Rattle.tables.specs.Table.{column_count, is_table, are_rows, count_stop, words_stop}
use Rattle.testing.specs.Test.{room_for}

-- how many rows a table has
abbrev pub row_count : List ℕ → List ℕ → ℕ
row_count columns rows = length rows / column_count columns

-- what every call on one table looks at first: 10, counts, words
abbrev pub table_stop : Bool → List ℕ → List ℕ → List ℕ → ℕ → ℕ → Stop
table_stop counts b columns rows size used =
    first_of
    (room_stop (room_for b) size used
    ∷ count_stop (both (both (is_table columns) (are_rows (column_count columns) rows)) counts)
    ∷ words_stop used (columns ∷ [] ∷ []) (rows ∷ [] ∷ [])
    ∷ [])
