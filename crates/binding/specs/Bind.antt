-- The call `bind`: column names give way to column numbers (document 01, "Binding replaces names by numbers"). Assumes nothing: these are definitions.
use Rattle.std.specs.Prelude.{ℕ, List, [], ◌∷◌, length, get_or}
use Rattle.refusals.specs.Stop.{Stop, never, first_of}
use Rattle.slices.specs.Bytes.{same_bytes}
use Rattle.writing.specs.Writing.{WrittenIs}
use Rattle.values.specs.Value.{Value, null}
use Rattle.columns.specs.Column.{columns_stop, Where, nowhere, found, first_from}
use Rattle.checks.specs.Check.{room_stop, output_stop}
use Rattle.tables.specs.Table.{is_table, count_stop}
use Rattle.nodes.specs.declared.Allowed.TheVariants.{Named}
use Rattle.conditions.specs.Ast.{Atom, literal, column, named, map_tree}
use Rattle.forms.specs.Form.{Parsed, tree, refusal, parsed, form_stop, of_tree}
use Rattle.postfix.specs.Postfix.{bytes_of}
use Rattle.numbering.specs.Number.{bind_leaf, names_stop}
use Rattle.std.specs.Prelude.{Result}
use Rattle.refusals.specs.declared.Refusal.{Refusal}

-- all that stops `bind`, in document 01's order
abbrev pub bind_stop : List ℕ → List ℕ → List ℕ → ℕ → ℕ → ℕ → Stop
bind_stop b columns stored size used output =
    first_of
    (room_stop 32768 size used
    ∷ output_stop output
    ∷ count_stop (is_table columns)
    ∷ columns_stop used 0 columns
    ∷ form_stop (parsed Named used b)
    ∷ of_tree (names_stop stored columns 0) (λ number place. never) (parsed Named used b)
    ∷ [])

-- the bound condition's bytes
abbrev pub bound_bytes : List ℕ → List ℕ → Parsed → List ℕ
bound_bytes stored columns (tree t) = bytes_of (map_tree (bind_leaf stored columns) t)
bound_bytes stored columns (refusal number place) = []

-- what `bind` answers and writes
abbrev pub BindIs : List ℕ → List ℕ → List ℕ → ℕ → ℕ → List ℕ → List ℕ → Result ℕ Refusal → Type 0
BindIs b columns stored size used before after answer =
    WrittenIs before after answer (bind_stop b columns stored size used (length before)) (length (bound_bytes stored columns (parsed Named used b)))
    (bound_bytes stored columns (parsed Named used b))

-- what a column's name means on a row: the cell of the first column of that name
abbrev pub value_at : List Value → Where → Value
value_at row (found number) = get_or row number null
value_at row nowhere = null

-- a leaf that stands by its name, replaced by the row's value in the first column of that name
unfoldable pub by_name : List (List ℕ) → List Value → Atom → Atom
by_name names row (literal v) = literal v
by_name names row (column c) = column c
by_name names row (named name) = literal (value_at row (first_from (λ other. same_bytes other name) 0 names))
