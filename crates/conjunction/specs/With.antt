-- The call `with`: AND of an old and a new condition (document 01, "Joining two conditions"; Select::with of query.rs). Assumes nothing: these are definitions.
use Rattle.std.specs.Prelude.{ℕ, List, [], ◌∷◌, ◌++◌, length}
use Rattle.refusals.specs.Stop.{Stop, never, counted_from, or_else, first_of}
use Rattle.writing.specs.Writing.{WrittenIs}
use Rattle.checks.specs.Check.{room_stop, output_stop}
use Rattle.nodes.specs.declared.Allowed.TheVariants.{Mixed}
use Rattle.forms.specs.Form.{parsed, form_stop}
use Rattle.std.specs.Prelude.{Result}
use Rattle.refusals.specs.declared.Refusal.{Refusal}

-- AND (48) of the old and the new one, or the new one where the old is empty
abbrev pub conjunction : List ℕ → List ℕ → List ℕ
conjunction [] new = new
conjunction (b ∷ old) new = (b ∷ old) ++ (new ++ (48 ∷ []))

-- the form of the old condition, which may be empty
abbrev pub old_stop : ℕ → List ℕ → Stop
old_stop used [] = never
old_stop used (b ∷ old) = form_stop (parsed Mixed used (b ∷ old))

-- the text and the output, then each condition alone, the old first; places are offsets in the joined bytes
abbrev pub each_stop : ℕ → ℕ → ℕ → List ℕ → List ℕ → Stop
each_stop size used output old new =
    first_of (room_stop 0 size used ∷ output_stop output ∷ old_stop used old ∷ counted_from (length old) (form_stop (parsed Mixed used new)) ∷ [])

-- then the whole, which can only be too large: `whole_is` (proofs/Whole.antt)
abbrev pub with_stop : ℕ → ℕ → ℕ → List ℕ → List ℕ → Stop
with_stop size used output old new = or_else (each_stop size used output old new) (form_stop (parsed Mixed used (conjunction old new)))

-- what `with` answers and writes
abbrev pub WithIs : ℕ → ℕ → List ℕ → List ℕ → List ℕ → List ℕ → Result ℕ Refusal → Type 0
WithIs size used old new before after answer =
    WrittenIs before after answer (with_stop size used (length before) old new) (length (conjunction old new)) (conjunction old new)
