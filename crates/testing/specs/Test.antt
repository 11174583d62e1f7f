-- A condition as a test of rows: select, delete, update and the joins ask it of each row or pair. Assumes nothing: these are definitions.
use Rattle.std.specs.Prelude.{ℕ, ◌<◌, ◌≡◌, Bool, true, List, [], ◌∷◌, length, take, get_or}
use Rattle.refusals.specs.Told.{told}
use Rattle.refusals.specs.Stop.{Stop, never, stop_of, or_else}
use Rattle.values.specs.Value.{to_bool}
use Rattle.checks.specs.Check.{room_stop, cells_stop}
use Rattle.integers.specs.Outcome.{Outcome, value}
use Rattle.operators.specs.declared.Rules.{Rules}
use Rattle.conditions.specs.Ast.{map_tree, eval}
use Rattle.conditions.specs.Table.{leaf_of, row_of}
use Rattle.nodes.specs.declared.Allowed.TheVariants.{Bound}
use Rattle.forms.specs.Form.{parsed, form_stop, of_tree}
use Rattle.forms.specs.Held.{ScanIs}
use Rattle.forms.specs.Number.{numbers_stop}
use Rattle.evaluation.specs.Evaluation.{is_row_length}
use Rattle.std.specs.Prelude.{Result, Ok, Err, Option, Some, None}
use Rattle.refusals.specs.declared.Refusal.{Refusal}

-- what a test finds: whether the condition is true, or a refusal's number; the place is the caller's to tell
pub data Tested : Type 0 where
  is : Bool → Tested
  refuses : ℕ → Tested

-- the truth of what a condition comes to
abbrev pub tested_of : Outcome → Tested
tested_of (value v) = is (to_bool v)
tested_of (Outcome.refused number) = refuses number

-- a condition on a row, both read in the stored text; no condition counts as true
unfoldable pub test : Rules → List ℕ → ℕ → List ℕ → List ℕ → Tested
test R [] used stored row = is true
test R (x ∷ b) used stored row =
    of_tree (λ t. tested_of (eval R (row_of stored row) (map_tree (leaf_of stored) t))) (λ number place. refuses number) (parsed Bound used (x ∷ b))

-- the form of a condition, then 4 over its columns; no condition has neither
abbrev pub condition_stop : ℕ → ℕ → List ℕ → Stop
condition_stop used width [] = never
condition_stop used width (x ∷ b) = or_else (form_stop (parsed Bound used (x ∷ b))) (numbers_stop width (x ∷ b) 64 0)

-- the room above the mark that a condition needs
abbrev pub room_for : List ℕ → ℕ
room_for [] = 0
room_for (x ∷ b) = 32768

-- what a verdict tells, of the row that has this place
abbrev pub VerdictIs : ℕ → Result Bool Refusal → Tested → Type 0
VerdictIs place (Ok holds) t = t ≡ is holds
VerdictIs place (Err r) t = (t ≡ refuses (told r).number) × ((told r).place ≡ place)

-- what a try by one word tells: the truth, or nothing
abbrev pub TriedIs : Option Bool → Tested → Type 0
TriedIs (Some holds) t = t ≡ is holds
TriedIs None t = Unit {0}

-- a test's verdict, and that the text below the mark is as it was
pub record TestIs (used place : ℕ) (before after : List ℕ) (v : Result Bool Refusal) (t : Tested) : Type 0 where
  pub kept : take used after ≡ take used before
  pub says : VerdictIs place v t

-- a condition prepared for rows of so many cells: its table has n nodes; no condition has none
abbrev pub Ready : ℕ → ℕ → List ℕ → ℕ → List ℕ → Type 0
Ready used width nodes n [] = n ≡ 0
Ready used width nodes n (x ∷ b) = (condition_stop used width (x ∷ b) ≡ never) × ScanIs used (x ∷ b) nodes (Ok n) (parsed Bound used (x ∷ b))

-- the prepared table, or what stops it
abbrev pub PreparedIs : ℕ → ℕ → List ℕ → List ℕ → Result ℕ Refusal → Type 0
PreparedIs used width b nodes (Ok n) = (condition_stop used width b ≡ never) × Ready used width nodes n b
PreparedIs used width b nodes (Err r) = condition_stop used width b ≡ stop_of r

-- what a test asks: a prepared condition, room for it, and a sound row
pub record TestAsks (b : List ℕ) (used n : ℕ) (nodes row text : List ℕ) : Type 0 where
  pub bytes : (i : ℕ) → get_or b i 0 < 256
  pub long : length nodes ≡ 64
  pub ready : Ready used (length row) nodes n b
  pub room : room_stop (room_for b) (length text) used ≡ never
  pub width : is_row_length (length row) ≡ true
  pub cells : cells_stop used 0 row ≡ never
