-- Two answers of check_set, and of check_sets, are equal; the other contracts of this crate are equations already. Assumes nothing.
use mathlib.Core.Path.{◌≡◌, sym, ◌∙◌}
use mathlib.Core.List.{List}
use Prim.Native.Nat.{ℕ}
use lib.ListN.{length, replicate, length-replicate}
use Rattle.refusals.specs.Stop.{Stop, checked_of}
use Rattle.refusals.proofs.Unique.{one_answer}
use Rattle.std.specs.Prelude.{Result, ⊤}
use Rattle.refusals.specs.declared.Refusal.{Refusal}

-- whatever is stopped by: there is a text of every length
pub one_check : (used : ℕ) (by : List ℕ → Stop) (r s : Result ⊤ Refusal) → ((stored : List ℕ) → length stored ≡ used → checked_of r ≡ by stored)
    → ((stored : List ℕ) → length stored ≡ used → checked_of s ≡ by stored) → r ≡ s
one_check used by r s f g = one_answer r s (f (replicate used 0) (length-replicate used 0) ∙ sym (g (replicate used 0) (length-replicate used 0)))
