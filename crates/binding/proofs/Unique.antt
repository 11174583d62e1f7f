-- Two answers of `bind` to the same question are the same, and so are the two outputs. Assumes nothing.
use mathlib.Core.Path.{◌≡◌}
use mathlib.Core.List.{List}
use Prim.Native.Nat.{ℕ}
use Rattle.writing.proofs.Unique.{one_writing}
use Rattle.binding.specs.Bind.{BindIs}
use Rattle.std.specs.Prelude.{Result}
use Rattle.refusals.specs.declared.Refusal.{Refusal}

-- two answers, two outputs
pub one_bind : (condition columns stored : List ℕ) (size used : ℕ) (before after after' : List ℕ) (a b : Result ℕ Refusal)
    → BindIs condition columns stored size used before after a → BindIs condition columns stored size used before after' b → (a ≡ b) × (after ≡ after')
one_bind condition columns stored size used before after after' a b h k = one_writing before after after' a b _ _ _ h k
