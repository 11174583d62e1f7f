-- Laws of truth. Assumes nothing.
use mathlib.Core.Path.{◌≡◌, refl, sym, ap, ◌∙◌}
use mathlib.Core.List.{List, [], ◌∷◌}
use mathlib.Core.Bool.{not}
use Prim.Native.Nat.{ℕ, zero, suc, ◌+◌, ◌-◌, ◌^◌, ◌≤◌, ◌<◌}
use native.Mathlib.Omega.{arith}
use lib.ListN.{length}
use lib.IntN.{ℤ, pos, negsuc}
use lib.Signed.{mag}
use lib.Dec.{eqb}
use borrow.Author.Tests.{ne_eqb}
use mir.Syntax.{w32}
use mir.Val.{of_z}
use Rattle.slices.specs.Splice.{piece}
use Rattle.slices.proofs.Pieces.{piece_length}
use Rattle.values.specs.Value.{nonzero, nonempty}

-- a 32-bit number is not 0 exactly if its bits are not
pub nonzero_bits : (z : ℤ) → mag z < 2 ^ 31 → not (eqb (of_z w32 z) 0) ≡ nonzero z
nonzero_bits (pos zero) h = refl
nonzero_bits (pos (suc n)) h = rw (ne_eqb (suc n) 0 (omega arith))
nonzero_bits (negsuc n) h = rw (ne_eqb (2 ^ 32 - suc n) 0 (omega arith))

nonempty_length : (l : List ℕ) → not (eqb (length l) 0) ≡ nonempty l
nonempty_length [] = refl
nonempty_length (b ∷ l) = rw (ne_eqb (suc (length l)) 0 (omega arith))

-- a text inside the stored one is not empty exactly if its length is not 0
pub nonempty_piece : (t : List ℕ) (s n : ℕ) → s + n ≤ length t → not (eqb n 0) ≡ nonempty (piece s n t)
nonempty_piece t s n h = ap (λ k. not (eqb k 0)) (sym (piece_length s n t h)) ∙ nonempty_length (piece s n t)
