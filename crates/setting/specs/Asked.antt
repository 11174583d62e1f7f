-- What one set is refused with, and what is asked where sets are applied and rows are written. Assumes nothing: these are definitions.
use Rattle.std.specs.Prelude.{ℕ, ◌+◌, ◌*◌, ◌≤◌, ◌<◌, ◌≡◌, true, not, cond, List, [], ◌∷◌, length, get_or, leb, eqb}
use Rattle.refusals.specs.Stop.{Stop, stop_if, first_of}
use Rattle.cells.specs.Cell.{cell_stop}
use Rattle.values.specs.Value.{value_of}
use Rattle.rules.specs.Rule.{is_valid_value}
use Rattle.tables.specs.Table.{column_count}
use Rattle.marking.specs.RowList.{kept_from, words_of}
use Rattle.marking.specs.Marks.{part}
use Rattle.setting.specs.Sets.{applied}

-- one set: 4 for its column, then 8 and 3 for its cell, then 13 for the cell in that column
unfoldable pub set_stop : ℕ → List ℕ → List ℕ → ℕ → ℕ → ℕ → Stop
set_stop used stored columns index c cell =
    first_of
    (stop_if (leb (column_count columns) c) 4 index
    ∷ cell_stop used cell index
    ∷ stop_if (not (is_valid_value (get_or columns (2 * c + 1) 0) (value_of stored cell))) 13 index
    ∷ [])

-- every set's column number is below the width
unfoldable pub Within : ℕ → List ℕ → Type 0
Within width [] = Unit {0}
Within width (c ∷ []) = Unit {0}
Within width (c ∷ cell ∷ sets) = (c < width) × Within width sets

-- a row as it is written: with the sets applied where its mark is 1
abbrev pub row_after : List ℕ → ℕ → List ℕ → List ℕ
row_after sets mark row = cond (eqb mark 1) (applied sets row) row

-- the words of all rows in order, each by its mark
abbrev pub all_words : List ℕ → List ℕ → ℕ → ℕ → List ℕ → List ℕ
all_words sets rows width n marks = words_of (λ i. row_after sets (get_or marks i 0) (part rows width i)) (kept_from (λ i. true) 0 n)

-- what is asked where all rows are written: sets of columns that are there, n whole rows, and a mark for each
pub record AllAsked (sets rows marks : List ℕ) (width n : ℕ) : Type 0 where
  pub within : Within width sets
  pub whole : length rows ≡ n * width
  pub marked : n ≤ length marks
