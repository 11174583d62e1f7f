-- Two answers of `select` to the same question are the same, and so are the two outputs; `delete` likewise. Assumes nothing.
use mathlib.Core.Path.{◌≡◌}
use mathlib.Core.List.{List}
use Prim.Native.Nat.{ℕ}
use Rattle.operators.specs.declared.Rules.{Rules}
use Rattle.writing.proofs.Unique.{one_writing}
use Rattle.selecting.specs.Select.{SelectIs, DeleteIs}
use Rattle.std.specs.Prelude.{Result}
use Rattle.refusals.specs.declared.Refusal.{Refusal}

module _ (R : Rules) (columns rows condition stored : List ℕ) (size used : ℕ) (before after after' : List ℕ) (a b : Result ℕ Refusal) where
  pub one_select : (list : List ℕ) → SelectIs R columns rows list condition stored size used before after a
      → SelectIs R columns rows list condition stored size used before after' b → (a ≡ b) × (after ≡ after')
  one_select list h k = one_writing before after after' a b _ _ _ h k

  pub one_delete : DeleteIs R columns rows condition stored size used before after a
      → DeleteIs R columns rows condition stored size used before after' b → (a ≡ b) × (after ≡ after')
  one_delete h k = one_writing before after after' a b _ _ _ h k
