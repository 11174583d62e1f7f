-- Two answers of `insert` to the same question are the same, and so are the two outputs. Assumes nothing.
use mathlib.Core.Path.{◌≡◌}
use mathlib.Core.List.{List}
use Prim.Native.Nat.{ℕ}
use Rattle.writing.proofs.Unique.{one_writing}
use Rattle.inserting.specs.Insert.{InsertIs}
use Rattle.std.specs.Prelude.{Result}
use Rattle.refusals.specs.declared.Refusal.{Refusal}

-- two answers, two outputs
pub one_insert : (columns stored old new : List ℕ) (size used : ℕ) (before after after' : List ℕ) (a b : Result ℕ Refusal)
    → InsertIs columns stored old new size used before after a → InsertIs columns stored old new size used before after' b → (a ≡ b) × (after ≡ after')
one_insert columns stored old new size used before after after' a b h k = one_writing before after after' a b _ _ _ h k
