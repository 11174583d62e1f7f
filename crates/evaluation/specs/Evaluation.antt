-- The call `evaluate`: its refusals in document 01's order, and what it comes to. Assumes nothing: these are definitions.
use Rattle.std.specs.Prelude.{ℕ, ◌≤◌, ◌<◌, ◌≡◌, Bool, not, List, [], ◌∷◌, length, take, get_or, leb}
use Rattle.refusals.specs.Told.{told}
use Rattle.refusals.specs.Stop.{Stop, never, stop_if, first_of, stop_of, unless_stopped}
use Rattle.slices.specs.Bytes.{both}
use Rattle.cells.specs.Cell.{WellFormed, kind_of, start_of}
use Rattle.values.specs.Value.{Value, value_of}
use Rattle.checks.specs.Check.{room_stop, cells_stop}
use Rattle.integers.specs.Outcome.{Outcome, value}
use Rattle.operators.specs.declared.Rules.{Rules}
use Rattle.conditions.specs.Ast.{Tree, map_tree, eval, size}
use Rattle.conditions.specs.Table.{leaf_of, row_of, leaf_cell}
use Rattle.nodes.specs.Kind.{leaf_word}
use Rattle.nodes.specs.declared.Allowed.TheVariants.{Bound}
use Rattle.forms.specs.Form.{tree, parsed, form_stop, of_tree}
use Rattle.forms.specs.Number.{numbers_stop}
use Rattle.forms.specs.Held.{ScanIs}
use Rattle.std.specs.Prelude.{Result, Ok, Err}
use Rattle.refusals.specs.declared.Refusal.{Refusal}

-- one row has 1 to 32 cells
unfoldable pub is_row_length : ℕ → Bool
is_row_length n = both (leb 1 n) (leb n 32)

-- all that is looked at before evaluation, in document 01's order; size is the text buffer's
abbrev pub stops : List ℕ → List ℕ → ℕ → ℕ → Stop
stops b row size used =
    first_of
    (room_stop 32768 size used
    ∷ stop_if (not (is_row_length (length row))) 8 0
    ∷ cells_stop used 0 row
    ∷ form_stop (parsed Bound used b)
    ∷ numbers_stop (length row) b 64 0
    ∷ [])

-- a value, or a refusal's number and place
pub data Report : Type 0 where
  gave : Value → Report
  refused : ℕ → ℕ → Report

-- one evaluation's refusals have the place 0
abbrev pub at_zero : Outcome → Report
at_zero (value v) = gave v
at_zero (Outcome.refused number) = Report.refused number 0

-- a condition's bytes on a row, both read in the stored text
unfoldable pub evaluation : Rules → List ℕ → List ℕ → List ℕ → ℕ → ℕ → Report
evaluation R b row stored size used =
    unless_stopped Report.refused (stops b row size used) (of_tree (λ t. at_zero (eval R (row_of stored row) (map_tree (leaf_of stored) t))) Report.refused (parsed Bound used b))

-- where a returned cell lies: of a condition of one leaf it is the leaf's own word; a text of any other was computed, and lies above the mark
pub record LiesIn (b row : List ℕ) (used nodes w : ℕ) : Type 0 where
  pub own : nodes ≡ 1 → w ≡ leaf_cell row (leaf_word b 0 (get_or b 0 0))
  pub above : 1 < nodes → kind_of w ≡ 2 → used ≤ start_of w

-- document 01's numbers and values for the cases of the answer
abbrev pub Says : List ℕ → List ℕ → List ℕ → ℕ → Result ℕ Refusal → Report → Type 0
Says b row after used (Ok w) o =
    (o ≡ gave (value_of after w)) × WellFormed (length after) w × ((t : Tree ℕ) → parsed Bound used b ≡ tree t → LiesIn b row used (size t) w)
Says b row after used (Err r) o = o ≡ Report.refused (told r).number (told r).place

-- what `evaluate` answers, and that the text below the mark is as it was
pub record EvaluatedIs (R : Rules) (b row before after : List ℕ) (used : ℕ) (r : Result ℕ Refusal) : Type 0 where
  pub kept : take used after ≡ take used before
  pub says : Says b row after used r (evaluation R b row (take used before) (length before) used)

-- what is prepared for an evaluation: nothing stops it and the table holds the tree, or what stops it
abbrev pub PreparedIs : List ℕ → List ℕ → ℕ → ℕ → List ℕ → Result ℕ Refusal → Type 0
PreparedIs b row size used nodes (Ok n) = (stops b row size used ≡ never) × ScanIs used b nodes (Ok n) (parsed Bound used b)
PreparedIs b row size used nodes (Err r) = stops b row size used ≡ stop_of r
