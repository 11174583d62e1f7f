-- What is prepared for printing, and what the loop over the bytes asks. Assumes nothing: these are definitions.
use Rattle.std.specs.Prelude.{ℕ, ◌+◌, ◌≤◌, ◌≡◌, List, [], ◌∷◌, length, get_or}
use Rattle.refusals.specs.Stop.{Stop, never, first_of, stop_of}
use Rattle.checks.specs.Check.{room_stop}
use Rattle.nodes.specs.Kind.{two, four}
use Rattle.nodes.specs.declared.Allowed.TheVariants.{Named}
use Rattle.forms.specs.Form.{parsed, form_stop}
use Rattle.forms.specs.Held.{ScanIs}
use Rattle.printing.specs.Print.{texts_stop}
use Rattle.std.specs.Prelude.{Result, Ok, Err}
use Rattle.refusals.specs.declared.Refusal.{Refusal}

-- all that is looked at before the output, in document 01's order
abbrev pub before_stop : List ℕ → List ℕ → ℕ → ℕ → Stop
before_stop b stored size used = first_of (room_stop 0 size used ∷ form_stop (parsed Named used b) ∷ texts_stop stored b 64 0 ∷ [])

-- what is prepared: nothing stops so far and the table holds the tree, or what stops
abbrev pub PreparedIs : List ℕ → List ℕ → ℕ → ℕ → List ℕ → Result ℕ Refusal → Type 0
PreparedIs b stored size used nodes (Ok n) = (before_stop b stored size used ≡ never) × ScanIs used b nodes (Ok n) (parsed Named used b)
PreparedIs b stored size used nodes (Err r) = before_stop b stored size used ≡ stop_of r

-- where a text literal stands at an offset, its body lies inside the bytes and its text inside the stored one
abbrev pub TextInside : (stored b : List ℕ) → ℕ → Type 0
TextInside stored b at = get_or b at 0 ≡ 2 → (at + 7 ≤ length b) × (four b (at + 1) + two b (at + 5) ≤ length stored)
