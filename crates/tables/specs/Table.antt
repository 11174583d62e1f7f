-- What every call that is lent tables checks of them, and one row of a table (document 01, "Order" and "Reading one row"). Assumes nothing: these are definitions.
use Rattle.std.specs.Prelude.{ℕ, ◌+◌, ◌*◌, ◌/◌, ◌%◌, Bool, not, cond, List, [], ◌∷◌, length, ltb, leb, eqb}
use Rattle.refusals.specs.Stop.{Stop, never, stop_if, or_else}
use Rattle.slices.specs.Splice.{piece}
use Rattle.slices.specs.Bytes.{both}
use Rattle.columns.specs.Column.{columns_stop}
use Rattle.checks.specs.Check.{cells_stop}

-- how many columns a table's words make, two words each
abbrev pub column_count : List ℕ → ℕ
column_count columns = length columns / 2

-- 1 to 32 columns
abbrev pub is_column_count : ℕ → Bool
is_column_count n = both (leb 1 n) (leb n 32)

-- two words a column, 1 to 32 columns
unfoldable pub is_table : List ℕ → Bool
is_table columns = both (eqb (length columns % 2) 0) (is_column_count (column_count columns))

-- both sides of a join have at most 32 columns together
abbrev pub are_sides : List ℕ → List ℕ → Bool
are_sides left right = both (both (is_table left) (is_table right)) (leb (column_count left + column_count right) 32)

-- a whole number of rows, 0 to 4,096, of so many cells
unfoldable pub are_rows : ℕ → List ℕ → Bool
are_rows width rows = both (eqb (length rows % width) 0) (leb (length rows / width) 4096)

-- 8 at 0 where a count or a length is wrong
abbrev pub count_stop : Bool → Stop
count_stop right = stop_if (not right) 8 0

-- 8 and 3 over column words and then over cells, words counted through from the first column word
unfoldable pub column_words_stop : ℕ → ℕ → List (List ℕ) → Stop
column_words_stop used place [] = never
column_words_stop used place (columns ∷ tables) = or_else (columns_stop used place columns) (column_words_stop used (place + length columns) tables)

-- then the words of cells, counted through likewise
unfoldable pub cell_words_stop : ℕ → ℕ → List (List ℕ) → Stop
cell_words_stop used place [] = never
cell_words_stop used place (cells ∷ parts) = or_else (cells_stop used place cells) (cell_words_stop used (place + length cells) parts)

-- how many words the lists have together
abbrev pub total : List (List ℕ) → ℕ
total [] = 0
total (words ∷ lists) = length words + total lists

-- the first fault of all words given: the column tables, left then right, then the rows, left, then right or new
abbrev pub words_stop : ℕ → List (List ℕ) → List (List ℕ) → Stop
words_stop used tables parts = or_else (column_words_stop used 0 tables) (cell_words_stop used (total tables) parts)

-- the row of a number: the empty part if the number is too large, the column count not 1 to 32 or the length no multiple of it
unfoldable pub row_at : List ℕ → ℕ → ℕ → List ℕ
row_at rows width number =
    cond (both (is_column_count width) (both (eqb (length rows % width) 0) (ltb number (length rows / width)))) (piece (number * width) width rows) []
