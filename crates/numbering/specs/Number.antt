-- A column name gives way to a column number, leaf by leaf (document 01, "Binding replaces names by numbers"). Assumes nothing: these are definitions.
use Rattle.std.specs.Prelude.{ℕ, ◌+◌, ◌*◌, ◌^◌, Bool, true, false, cond, List, eqb}
use Rattle.refusals.specs.Stop.{Stop, stop_if, or_else}
use Rattle.slices.specs.Splice.{piece}
use Rattle.slices.specs.Bytes.{both}
use Rattle.cells.specs.Cell.{kind_of, start_of, length_of}
use Rattle.columns.specs.Column.{Where, nowhere, found, column_named}
use Rattle.conditions.specs.Ast.{Tree, leaf, unary, binary}
use Rattle.postfix.specs.Postfix.{width}

-- the column that a name's word means
abbrev pub column_of : List ℕ → List ℕ → ℕ → Where
column_of stored columns w = column_named stored columns (piece (start_of w) (length_of w) stored)

-- a column by its number (kind 4) for one by its name
abbrev pub numbered : ℕ → Where → ℕ
numbered w (found number) = 4 * 2 ^ 56 + number
numbered w nowhere = w

-- a leaf bound: a name (kind 3) gives way to the number of the first column of that name, any other leaf stays
unfoldable pub bind_leaf : List ℕ → List ℕ → ℕ → ℕ
bind_leaf stored columns w = cond (eqb (kind_of w) 3) (numbered w (column_of stored columns w)) w

-- no column has the name
abbrev pub is_nowhere : Where → Bool
is_nowhere nowhere = true
is_nowhere (found number) = false

-- 4 over the names in byte order, at the node's offset; the tree's bytes begin at this offset
unfoldable pub names_stop : List ℕ → List ℕ → ℕ → Tree ℕ → Stop
names_stop stored columns at (leaf w) = stop_if (both (eqb (kind_of w) 3) (is_nowhere (column_of stored columns w))) 4 at
names_stop stored columns at (unary op a) = names_stop stored columns at a
names_stop stored columns at (binary op a b) = or_else (names_stop stored columns at a) (names_stop stored columns (at + width a) b)
