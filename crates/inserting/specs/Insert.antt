-- The call `insert` (document 01, "Row calls" and "Order"; Insert::exec of query.rs). Assumes nothing: these are definitions.
use Rattle.std.specs.Prelude.{ℕ, ◌+◌, ◌/◌, List, [], ◌∷◌, ◌++◌, length}
use Rattle.refusals.specs.Stop.{Stop, first_of}
use Rattle.slices.specs.Bytes.{both}
use Rattle.writing.specs.Writing.{WrittenIs}
use Rattle.checks.specs.Check.{room_stop, short_stop}
use Rattle.tables.specs.Table.{column_count, is_table, are_rows, count_stop, words_stop}
use Rattle.marking.specs.RowList.{words_of}
use Rattle.marking.specs.Marks.{part}
use Rattle.sorting.specs.Sorted.{in_key_order, double_stop, new_stop}
use Rattle.sorting.specs.Rows.{compare_rows}
use Rattle.doubles.specs.Doubles.{values_stop}
use Rattle.std.specs.Prelude.{Result}
use Rattle.refusals.specs.declared.Refusal.{Refusal}

-- how many rows a part of a table has
abbrev pub rows_in : List ℕ → List ℕ → ℕ
rows_in columns rows = length rows / column_count columns

-- the words of m old and n new rows in key order, the new rows numbered on after the old ones
abbrev pub sorted_words : List ℕ → List ℕ → List ℕ → ℕ → List ℕ → ℕ → List ℕ
sorted_words columns stored old m new n = words_of (part (old ++ new) (column_count columns)) (in_key_order (compare_rows columns stored (old ++ new)) (m + n))

-- what insert writes: old and new rows in key order
abbrev pub inserted : List ℕ → List ℕ → List ℕ → List ℕ → List ℕ
inserted columns stored old new = sorted_words columns stored old (rows_in columns old) new (rows_in columns new)

-- what is looked at first: 10, counts, words
abbrev pub lent_stop : List ℕ → List ℕ → List ℕ → ℕ → ℕ → Stop
lent_stop columns old new size used =
    first_of
    (room_stop 0 size used
    ∷ count_stop (both (is_table columns) (both (are_rows (column_count columns) old) (are_rows (column_count columns) new)))
    ∷ words_stop used (columns ∷ [] ∷ []) (old ∷ new ∷ [])
    ∷ [])

-- then 13 over new rows, 14, and for each new row 11 before 12
abbrev pub keys_stop : List ℕ → List ℕ → List ℕ → ℕ → List ℕ → ℕ → Stop
keys_stop columns stored old m new n =
    first_of
    (values_stop columns stored 0 new
    ∷ double_stop (compare_rows columns stored (old ++ new)) 0 m
    ∷ new_stop (compare_rows columns stored (old ++ new)) m 0 n
    ∷ [])

-- what stops it; 9 comes last, with the words that the whole result takes
abbrev pub insert_stop : List ℕ → List ℕ → List ℕ → List ℕ → ℕ → ℕ → ℕ → Stop
insert_stop columns stored old new size used output =
    first_of
    (lent_stop columns old new size used
    ∷ keys_stop columns stored old (rows_in columns old) new (rows_in columns new)
    ∷ short_stop output (length (inserted columns stored old new))
    ∷ [])

-- what `insert` answers and writes: all rows
abbrev pub InsertIs : List ℕ → List ℕ → List ℕ → List ℕ → ℕ → ℕ → List ℕ → List ℕ → Result ℕ Refusal → Type 0
InsertIs columns stored old new size used before after answer =
    WrittenIs before after answer (insert_stop columns stored old new size used (length before)) (rows_in columns old + rows_in columns new)
    (inserted columns stored old new)
