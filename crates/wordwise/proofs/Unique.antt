-- Two words that are told of one operator and its operands are the same. Assumes nothing.
use mathlib.Core.Path.{◌≡◌, refl, sym, ◌∙◌}
use Prim.Native.Nat.{ℕ}
use Rattle.std.specs.Prelude.{Some}
use Rattle.integers.specs.Outcome.{Outcome}
use Rattle.integers.proofs.Unique.{one_gave}
use Rattle.wordwise.specs.Settled.{Settled}

-- whether a word is told is left open (docs/EXCEPTIONS.md)
pub one_word : (o : Outcome) (r s : ℕ) → Settled (Some r) o → Settled (Some s) o → r ≡ s
one_word o r s h k = one_gave (h.told r refl 0 ∙ sym (k.told s refl 0))
