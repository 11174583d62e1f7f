-- Ranges of numbers, as the code tests them and as 64 bits hold them. Assumes nothing.
use mathlib.Core.Path.{◌≡◌, refl, sym, ap, ap₂, ◌∙◌}
use mathlib.Core.Bool.{Bool, true, false, cond}
use Prim.Native.Nat.{ℕ, zero, suc, ◌-◌, ◌*◌, ◌/◌, ◌%◌, ◌^◌, ◌≤◌, ◌<◌}
use native.Mathlib.Omega.{arith}
use native.Mathlib.Nat.{mul-le-mul_left, mul-le-mul_right, le_trans, div-le_self}
use lib.Dec.{ltb}
use lib.IntN.{ℤ, pos, negsuc, neg_ℤ, ◌+ℤ◌, ◌-ℤ◌, ◌*ℤ◌}
use lib.Signed.{mag, lt_z, quot_z}
use borrow.Author.Tests.{lt-leb, le-leb, ltb-true, ltb-false}
use borrow.Author.Rules.{sfits_of}
use mir.Syntax.{w32, w64}
use mir.Val.{SFits, to_z, of_z}
use mir.Facts.{to_z-of_z, sfits_to_z}
use Rattle.refusals.proofs.Bools.{true_false}
use Rattle.integers.specs.Integer.{int_of, is_int32, is_zero}

-- a number as the code holds it
abbrev pub held : ℤ → ℤ
held z = to_z w64 (of_z w64 z)

-- a number that fits 64 bits is held as it is
pub held_is : (z : ℤ) → SFits w64 z → held z ≡ z
held_is z h = to_z-of_z h

-- an operation of two held numbers, whose result is held again
pub held_op : (f : ℤ → ℤ → ℤ) (x y : ℤ) → SFits w64 x → SFits w64 y → SFits w64 (f x y) → held (f (held x) (held y)) ≡ f x y
held_op f x y h k l = ap held (ap₂ f (held_is x h) (held_is y k)) ∙ held_is (f x y) l

-- an operation of two held numbers fits 64 bits where that of the numbers does
pub held_fits : (f : ℤ → ℤ → ℤ) (x y : ℤ) → SFits w64 x → SFits w64 y → SFits w64 (f x y) → SFits w64 (f (held x) (held y))
held_fits f x y h k l = rw (held_is x h, held_is y k) l

-- ---- 32 bits

below : (z : ℤ) → lt_z z (negsuc 2147483647) ≡ true → is_int32 z ≡ false
below (pos n) e = true_false (sym e)
below (negsuc n) e = rw (lt-leb n 2147483647 (ltb-true 2147483647 n e))

above : (z : ℤ) → lt_z (pos 2147483647) z ≡ true → is_int32 z ≡ false
above (pos n) e = rw (lt-leb n 2147483647 (ltb-true 2147483647 n e))
above (negsuc n) e = true_false (sym e)

between : (z : ℤ) → lt_z z (negsuc 2147483647) ≡ false → lt_z (pos 2147483647) z ≡ false → (is_int32 z ≡ true) × (mag z < 2 ^ 31)
between (pos n) e f = (rw (le-leb n 2147483647 (ltb-false 2147483647 n f)), omega (arith, ltb-false 2147483647 n f))
between (negsuc n) e f = (rw (le-leb n 2147483647 (ltb-false 2147483647 n e)), omega (arith, ltb-false 2147483647 n e))

-- a number whose magnitude is below 2^31 has 32 bits
pub small_in : (z : ℤ) → mag z < 2 ^ 31 → is_int32 z ≡ true
small_in (pos n) h = rw (le-leb n 2147483647 (omega arith))
small_in (negsuc n) h = rw (le-leb n 2147483647 (omega arith))

module _ (z : ℤ) (h : SFits w64 z) where
  pub held_below : lt_z (held z) (negsuc 2147483647) ≡ true → is_int32 z ≡ false
  held_below e = below z (rw (held_is z h) at e)

  pub held_above : lt_z (pos 2147483647) (held z) ≡ true → is_int32 z ≡ false
  held_above e = above z (rw (held_is z h) at e)

  pub held_between : lt_z (held z) (negsuc 2147483647) ≡ false → lt_z (pos 2147483647) (held z) ≡ false → (is_int32 z ≡ true) × (mag z < 2 ^ 31)
  held_between e f = between z (rw (held_is z h) at e) (rw (held_is z h) at f)

-- an Int of a word has 32 bits
pub mag_int : (w : ℕ) → mag (int_of w) < 2 ^ 31
mag_int w = (sfits_to_z {w = w32} {n = w % 2 ^ 32} (record { fits = omega arith })).sfits

-- so it fits 64 bits, too
pub int_fits : (w : ℕ) → SFits w64 (int_of w)
int_fits w = sfits_of (omega (arith, mag_int w))

-- ---- sums, differences, products and quotients of 32-bit numbers fit 64

mag_sub : (t : Bool) (a b : ℕ) → a ≤ 2147483649 → b ≤ 2147483649 → mag (cond t (negsuc (b - suc a)) (pos (a - b))) < 9223372036854775808
mag_sub true a b h k = omega arith
mag_sub false a b h k = omega arith

mag_neg : (n : ℕ) → mag (neg_ℤ (pos n)) ≤ n
mag_neg zero = omega arith
mag_neg (suc n) = omega arith

sum : (x y : ℤ) → mag x < 2147483648 → mag y ≤ 2147483648 → mag (x +ℤ y) < 9223372036854775808
sum (pos a) (pos b) h k = omega arith
sum (pos a) (negsuc b) h k = mag_sub (ltb a (suc b)) a (suc b) (omega arith) (omega arith)
sum (negsuc a) (pos b) h k = mag_sub (ltb b (suc a)) b (suc a) (omega arith) (omega arith)
sum (negsuc a) (negsuc b) h k = omega arith

opposite : (y : ℤ) → mag y < 2147483648 → mag (neg_ℤ y) ≤ 2147483648
opposite (pos n) h = omega (arith, mag_neg n)
opposite (negsuc n) h = omega arith

times : (a b : ℕ) → a ≤ 2147483648 → b ≤ 2147483648 → a * b ≤ 4611686018427387904
times a b h k = le_trans (mul-le-mul_left a k) (mul-le-mul_right 2147483648 h)

product : (x y : ℤ) → mag x < 2147483648 → mag y < 2147483648 → mag (x *ℤ y) < 9223372036854775808
product (pos a) (pos b) h k = omega (arith, times a b (omega arith) (omega arith))
product (pos a) (negsuc b) h k = omega (arith, times a (suc b) (omega arith) (omega arith), mag_neg (a * suc b))
product (negsuc a) (pos b) h k = omega (arith, times (suc a) b (omega arith) (omega arith), mag_neg (suc a * b))
product (negsuc a) (negsuc b) h k = omega (arith, times (suc a) (suc b) (omega arith) (omega arith))

quotient : (x y : ℤ) → mag x < 2147483648 → mag (quot_z x y) < 9223372036854775808
quotient (pos a) (pos b) h = omega (arith, div-le_self a b)
quotient (pos a) (negsuc b) h = omega (arith, div-le_self a (suc b), mag_neg (a / suc b))
quotient (negsuc a) (pos b) h = omega (arith, div-le_self (suc a) b, mag_neg (suc a / b))
quotient (negsuc a) (negsuc b) h = omega (arith, div-le_self (suc a) (suc b))

module _ (x y : ℤ) (h : mag x < 2 ^ 31) (k : mag y < 2 ^ 31) where
  pub sum_fits : SFits w64 (x +ℤ y)
  sum_fits = record { sfits = sum x y h (omega arith) }

  pub difference_fits : SFits w64 (x -ℤ y)
  difference_fits = record { sfits = sum x (neg_ℤ y) h (opposite y k) }

  pub product_fits : SFits w64 (x *ℤ y)
  product_fits = record { sfits = product x y h k }

  pub quotient_fits : SFits w64 (quot_z x y)
  quotient_fits = record { sfits = quotient x y h }

-- the opposite of a 32-bit number fits 64 bits
pub negative_fits : (x : ℤ) → mag x < 2 ^ 31 → SFits w64 (neg_ℤ x)
negative_fits x h = record { sfits = omega (arith, opposite x h) }

-- ---- zero

-- a 32-bit number whose 64 bits are 0 is zero
pub zero_bits : (y : ℤ) → mag y < 2 ^ 31 → of_z w64 y ≡ 0 → is_zero y ≡ true
zero_bits (pos zero) h e = refl
zero_bits (pos (suc n)) h e = absurd (let z : ⊥ = omega arith in z)
zero_bits (negsuc n) h e = absurd (let z : ⊥ = omega arith in z)

-- a number whose 64 bits are not 0 is not zero
pub nonzero_bits : (y : ℤ) → (of_z w64 y ≡ 0 → ⊥) → is_zero y ≡ false
nonzero_bits (pos zero) n = absurd (n refl)
nonzero_bits (pos (suc m)) n = refl
nonzero_bits (negsuc m) n = refl
