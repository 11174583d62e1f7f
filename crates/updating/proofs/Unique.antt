-- Two answers of `update` to the same question are the same, and so are the two outputs. Assumes nothing.
use mathlib.Core.Path.{◌≡◌}
use mathlib.Core.List.{List}
use Prim.Native.Nat.{ℕ}
use Rattle.operators.specs.declared.Rules.{Rules}
use Rattle.writing.proofs.Unique.{one_writing}
use Rattle.updating.specs.Update.{UpdateIs}
use Rattle.std.specs.Prelude.{Result}
use Rattle.refusals.specs.declared.Refusal.{Refusal}

-- two answers, two outputs
pub one_update : (R : Rules) (columns rows sets condition stored : List ℕ) (size used : ℕ) (before after after' : List ℕ) (a b : Result ℕ Refusal)
    → UpdateIs R columns rows sets condition stored size used before after a → UpdateIs R columns rows sets condition stored size used before after' b
    → (a ≡ b) × (after ≡ after')
one_update R columns rows sets condition stored size used before after after' a b h k = one_writing before after after' a b _ _ _ h k
