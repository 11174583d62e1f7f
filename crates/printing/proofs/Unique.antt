-- Two answers of `print` to the same question are the same, and so are the two outputs. Assumes nothing.
use mathlib.Core.Path.{◌≡◌}
use mathlib.Core.List.{List}
use Prim.Native.Nat.{ℕ}
use Rattle.writing.proofs.Unique.{one_writing}
use Rattle.printing.specs.Print.{PrintIs}
use Rattle.std.specs.Prelude.{Result}
use Rattle.refusals.specs.declared.Refusal.{Refusal}

-- print
pub one_print : (b stored : List ℕ) (size used : ℕ) (before after after' : List ℕ) (x y : Result ℕ Refusal)
    → PrintIs b stored size used before after x → PrintIs b stored size used before after' y → (x ≡ y) × (after ≡ after')
one_print b stored size used before after after' x y h k = one_writing before after after' x y _ _ _ h k
