-- A table's columns: two words each, a name and a rule (document 01, "Words and bytes" and "Refusals by number").
-- Assumes nothing: these are definitions.
use Rattle.std.specs.Prelude.{ℕ, suc, ◌+◌, Bool, false, not, cond, List, [], ◌∷◌, leb, eqb}
use Rattle.refusals.specs.Stop.{Stop, never, stop_if, or_else, first_of}
use Rattle.slices.specs.Splice.{piece}
use Rattle.slices.specs.Bytes.{same_bytes}
use Rattle.cells.specs.Cell.{kind_of, start_of, length_of, is_cell, reaches_beyond}
use Rattle.rules.specs.Rule.{is_rule}
use Rattle.std.specs.Prelude.{Option, Some, None}
use Rattle.columns.specs.declared.ColumnNumber.{ColumnNumber}

-- a text cell; another kind is malformed
unfoldable pub is_text : ℕ → Bool
is_text word = cond (is_cell word) (eqb (kind_of word) 2) false

-- a column name has 1 to 255 bytes
abbrev pub is_name_length : ℕ → Bool
is_name_length size = cond (leb 1 size) (leb size 255) false

-- what a name word is refused with
unfoldable pub name_stop : ℕ → ℕ → ℕ → Stop
name_stop used word place =
    first_of
    (stop_if (not (is_text word)) 8 place
    ∷ stop_if (reaches_beyond used word) 3 place
    ∷ stop_if (not (is_name_length (length_of word))) 3 place
    ∷ [])

-- a column's two words: the name first, then the rule
unfoldable pub column_stop : ℕ → ℕ → ℕ → ℕ → Stop
column_stop used name rule place = or_else (name_stop used name place) (stop_if (not (is_rule rule)) 8 (place + 1))

-- the columns in order, the first word having this place
unfoldable pub columns_stop : ℕ → ℕ → List ℕ → Stop
columns_stop used place [] = never
columns_stop used place (name ∷ []) = never
columns_stop used place (name ∷ rule ∷ rest) = or_else (column_stop used name rule place) (columns_stop used (place + 2) rest)

-- the names, in the stored text
unfoldable pub names : List ℕ → List ℕ → List (List ℕ)
names stored [] = []
names stored (name ∷ []) = []
names stored (name ∷ rule ∷ rest) = piece (start_of name) (length_of name) stored ∷ names stored rest

-- where something is found: at a number, or nowhere
pub data Where : Type 0 where
  nowhere : Where
  found : ℕ → Where

-- what is found, or else what comes next
abbrev pub or_next : Where → Where → Where
or_next nowhere next = next
or_next (found n) next = found n

-- the first element that passes a test, the first one having this number
unfoldable pub first_from : {A : Type 0} → (A → Bool) → ℕ → List A → Where
first_from test n [] = nowhere
first_from test n (x ∷ xs) = or_next (cond (test x) (found n) nowhere) (first_from test (suc n) xs)

-- the column of a name; of equal names the first (added)
abbrev pub column_named : List ℕ → List ℕ → List ℕ → Where
column_named stored columns name = first_from (λ other. same_bytes other name) 0 (names stored columns)

-- what an answer of the search tells
abbrev pub found_of : Option ColumnNumber → Where
found_of (Some number) = found number.0
found_of None = nowhere
