-- Shift amounts, as the code tests them, and shifts. Assumes nothing.
use mathlib.Core.Path.{◌≡◌, refl, sym, ap, ◌∙◌}
use mathlib.Core.Bool.{true, false}
use Prim.Native.Nat.{ℕ, ◌+◌, ◌*◌, ◌%◌, ◌^◌, ◌≤◌, ◌<◌}
use native.Mathlib.Omega.{arith}
use lib.Dec.{T}
use lib.IntN.{ℤ, pos, negsuc, nat_abs}
use lib.Signed.{mag, lt_z, shr_z, mag_shr, non_neg}
use borrow.Author.Tests.{le-ltb, lt-leb, le-leb, ltb-true, ltb-false}
use mir.Syntax.{w32, w64}
use mir.Val.{Fits, SFits, of_z}
use mir.Facts.{of_z-to_z}
use Rattle.refusals.proofs.Bools.{true_false}
use Rattle.integers.specs.Outcome.{gave, placed}
use Rattle.integers.specs.Integer.{int_of, is_amount, shifted_left, shifted_right, fitted}
use Rattle.integers.proofs.Placing.{placed_bits, fitted_in}
use Rattle.integers.proofs.Ranges.{held, held_is, small_in}

negative : (y : ℤ) → lt_z y (pos 0) ≡ true → is_amount y ≡ false
negative (pos n) e = true_false (sym e ∙ le-ltb n 0 (omega arith))
negative (negsuc n) e = refl

large : (y : ℤ) → lt_z (pos 31) y ≡ true → is_amount y ≡ false
large (pos n) e = rw (le-leb 0 n (omega arith), lt-leb n 31 (ltb-true 31 n e))
large (negsuc n) e = refl

right : (y : ℤ) → lt_z y (pos 0) ≡ false → lt_z (pos 31) y ≡ false → (is_amount y ≡ true) × (y ≡ pos (nat_abs y)) × (nat_abs y < 32)
right (pos n) e f = let l : n ≤ 31 = ltb-false 31 n f in (rw (le-leb 0 n (omega arith), le-leb n 31 l), refl, omega arith)
right (negsuc n) e f = true_false e

-- a 32-bit number shifted right fits 64 bits
pub shr_fits : (x : ℤ) (m : ℕ) → mag x < 2 ^ 31 → SFits w64 (shr_z x m)
shr_fits x m l = record { sfits = omega (arith, mag_shr x m) }

module _ (y : ℤ) (h : SFits w64 y) where
  pub amount_negative : lt_z (held y) (pos 0) ≡ true → is_amount y ≡ false
  amount_negative e = negative y (rw (held_is y h) at e)

  pub amount_large : lt_z (pos 31) (held y) ≡ true → is_amount y ≡ false
  amount_large e = large y (rw (held_is y h) at e)

  module _ (e : lt_z (held y) (pos 0) ≡ false) (f : lt_z (pos 31) (held y) ≡ false) where
    parts : (is_amount y ≡ true) × (y ≡ pos (nat_abs y)) × (nat_abs y < 32)
    parts = right y (rw (held_is y h) at e) (rw (held_is y h) at f)

    pub amount_right : is_amount y ≡ true
    amount_right = parts.0

    pub amount_is : nat_abs (held y) ≡ nat_abs y
    amount_is = ap nat_abs (held_is y h)

    pub amount_below : nat_abs (held y) < 64
    amount_below = omega (arith, parts.2, amount_is)

    pub amount_cast : T (non_neg (held y)) × Fits w64 (nat_abs (held y))
    amount_cast = let g : held y ≡ pos (nat_abs y) = held_is y h ∙ parts.1 in rw g (tt, record { fits = omega (arith, parts.2) })

    pub amount_signed : SFits w64 (pos (nat_abs (held y)))
    amount_signed = record { sfits = omega (arith, amount_below) }

    -- `<<` of a word's 32 bits
    pub left_is : (a top : ℕ) → gave (2 ^ 56 + a % 2 ^ 32 * 2 ^ nat_abs (held y) % 2 ^ 64 % 2 ^ 32) top ≡ placed top (shifted_left (int_of a) y)
    left_is a top =
        let b : of_z w32 (int_of a) ≡ a % 2 ^ 32 = of_z-to_z {w = w32} {n = a % 2 ^ 32} (record { fits = omega arith }) in
        let m : (n : ℕ) → n % 2 ^ 64 % 2 ^ 32 ≡ n % 2 ^ 32 = λ n. omega arith in
        rw (amount_right, amount_is, b, m (a % 2 ^ 32 * 2 ^ nat_abs y)) (sym (placed_bits top (a % 2 ^ 32 * 2 ^ nat_abs y % 2 ^ 32) (omega arith)))

    -- `>>` of an Int stays an Int
    pub right_is : (x : ℤ) → mag x < 2 ^ 31 → shifted_right x y ≡ fitted (shr_z x (2 ^ nat_abs (held y)))
    right_is x l =
        rw (amount_right, amount_is) (sym (fitted_in (shr_z x (2 ^ nat_abs y)) (small_in (shr_z x (2 ^ nat_abs y)) (omega (arith, mag_shr x (2 ^ nat_abs y))))))
