-- Two answers of `with` to the same question are the same, and so are the two outputs. Assumes nothing.
use mathlib.Core.Path.{◌≡◌}
use mathlib.Core.List.{List}
use Prim.Native.Nat.{ℕ}
use Rattle.writing.proofs.Unique.{one_writing}
use Rattle.conjunction.specs.With.{WithIs}
use Rattle.std.specs.Prelude.{Result}
use Rattle.refusals.specs.declared.Refusal.{Refusal}

-- two answers, two outputs
pub one_with : (size used : ℕ) (old new before after after' : List ℕ) (a b : Result ℕ Refusal)
    → WithIs size used old new before after a → WithIs size used old new before after' b → (a ≡ b) × (after ≡ after')
one_with size used old new before after after' a b h k = one_writing before after after' a b _ _ _ h k
