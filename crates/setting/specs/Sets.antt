-- The sets of an update (document 01, "Row calls"; Update::set of query.rs). Assumes nothing: these are definitions.
use Rattle.std.specs.Prelude.{ℕ, suc, ◌+◌, ◌*◌, ◌/◌, ◌%◌, Bool, not, List, [], ◌∷◌, length, get_or, set, leb, eqb}
use Rattle.refusals.specs.Stop.{Stop, never, stop_if, first_of}
use Rattle.slices.specs.Bytes.{both}
use Rattle.cells.specs.Cell.{cell_stop}
use Rattle.values.specs.Value.{value_of}
use Rattle.rules.specs.Rule.{is_valid_value}
use Rattle.tables.specs.Table.{column_count}

-- a column number and a cell a set, at most 64 sets
abbrev pub are_sets : List ℕ → Bool
are_sets sets = both (eqb (length sets % 2) 0) (leb (length sets / 2) 64)

-- each set in order: 4 for its column, then 8 and 3 for its cell, then 13 for the cell in that column; the place is the set's index
unfoldable pub sets_stop : ℕ → List ℕ → List ℕ → ℕ → List ℕ → Stop
sets_stop used stored columns index [] = never
sets_stop used stored columns index (c ∷ []) = never
sets_stop used stored columns index (c ∷ cell ∷ sets) =
    first_of
    (stop_if (leb (column_count columns) c) 4 index
    ∷ cell_stop used cell index
    ∷ stop_if (not (is_valid_value (get_or columns (2 * c + 1) 0) (value_of stored cell))) 13 index
    ∷ sets_stop used stored columns (suc index) sets
    ∷ [])

-- the sets applied to a row in order
unfoldable pub applied : List ℕ → List ℕ → List ℕ
applied [] row = row
applied (c ∷ []) row = row
applied (c ∷ cell ∷ sets) row = applied sets (set row c cell)
