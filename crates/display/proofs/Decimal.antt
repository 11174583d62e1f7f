-- Decimal digits: at most so many, they read back as the number, and none of them leads with 0. Assumes nothing.
use mathlib.Core.Path.{◌≡◌, refl, ap, ◌∙◌}
use mathlib.Core.Bool.{Bool, true, false, cond}
use mathlib.Core.List.{List, [], ◌∷◌, ◌++◌}
use Prim.Native.Nat.{ℕ, zero, suc, ◌+◌, ◌-◌, ◌*◌, ◌^◌, ◌/◌, ◌%◌, ◌≤◌, ◌<◌}
use native.Mathlib.Nat.{pow-succ'}
use native.Mathlib.Omega.{arith}
use lib.ListN.{length, get_or, length-append}
use lib.IntN.{ℤ, pos, negsuc}
use lib.Dec.{ltb}
use borrow.Author.Tests.{lt-ltb, le-ltb, ltb-false}
use mir.Syntax.{w32}
use mir.Val.{to_z}
use Rattle.display.specs.Display.{digits, decimal}

-- ---- a step

-- none where none may be put
pub digits_none : (most n : ℕ) → most ≡ 0 → digits most n ≡ []
unfolding digits
digits_none most n e = rw e

module _ (most n : ℕ) (e : most ≡ 0 → ⊥) where
  -- one digit may be put, and then the others
  one_more : most ≡ suc (most - 1)
  one_more = omega arith

  -- a number below 10 is its digit
  pub digits_one : n < 10 → digits most n ≡ (48 + n) ∷ []
  unfolding digits
  digits_one h = ap (λ f. digits f n) one_more ∙ rw (lt-ltb n 10 h)

  -- any other has the digits of a tenth of it before its last one
  pub digits_more : 10 ≤ n → digits most n ≡ digits (most - 1) (n / 10) ++ ((48 + n % 10) ∷ [])
  unfolding digits
  digits_more h = ap (λ f. digits f n) one_more ∙ rw (le-ltb n 10 h)

-- at most so many
pub digits_short : (most n : ℕ) → length (digits most n) ≤ most
unfolding digits
digits_short zero n = omega arith
digits_short (suc f) n = by (ltb n 10) (digits_short f (n / 10))
  where
    by : (x : Bool) → length (digits f (n / 10)) ≤ f → length (cond x ((48 + n) ∷ []) (digits f (n / 10) ++ ((48 + n % 10) ∷ []))) ≤ suc f
    by true h = omega arith
    by false h = rw length-append (omega arith)

-- ---- a number of 32 bits

module _ (b : ℕ) where
  -- a number that is not negative
  pub decimal_low : b < 2 ^ 31 → decimal (to_z w32 b) ≡ digits 10 b
  unfolding decimal
  decimal_low h = rw (lt-ltb b (2 ^ 31) h)

  -- a negative one: a minus, and its bits' distance from 2^32
  pub decimal_high : 2 ^ 31 ≤ b → b < 2 ^ 32 → decimal (to_z w32 b) ≡ (45 ∷ []) ++ digits 10 (2 ^ 32 - b)
  unfolding decimal
  decimal_high h k = let e : suc (2 ^ 32 - suc b) ≡ 2 ^ 32 - b = omega arith in rw (le-ltb b (2 ^ 31) h, e)

-- ten digits and a minus at most
pub decimal_short : (z : ℤ) → length (decimal z) ≤ 11
unfolding decimal
decimal_short (pos n) = omega (arith, digits_short 10 n)
decimal_short (negsuc n) = omega (arith, digits_short 10 (suc n))

-- ---- what the digits say

-- the number that digits say, after one that was read before them
pub reading : ℕ → List ℕ → ℕ
reading before [] = before
reading before (b ∷ s) = reading (before * 10 + (b - 48)) s

-- one digit more
reading_last : (before : ℕ) (s : List ℕ) (d : ℕ) → reading before (s ++ ((48 + d) ∷ [])) ≡ reading before s * 10 + d
unfolding reading
reading_last before [] d = omega arith
reading_last before (b ∷ s) d = reading_last (before * 10 + (b - 48)) s d

-- the digits read back as the number
digits_read : (most n : ℕ) → n < 10 ^ most → reading 0 (digits most n) ≡ n
unfolding digits reading
digits_read zero n h = omega arith
digits_read (suc f) n h = by (ltb n 10) refl (digits_read f (n / 10))
  where
    by : (x : Bool) → ltb n 10 ≡ x → (n / 10 < 10 ^ f → reading 0 (digits f (n / 10)) ≡ n / 10)
        → reading 0 (cond x ((48 + n) ∷ []) (digits f (n / 10) ++ ((48 + n % 10) ∷ []))) ≡ n
    by true e r = omega arith
    by false e r = rw (reading_last 0 (digits f (n / 10)) (n % 10)) (omega (arith, r (omega (arith, pow-succ' 10 f))))

-- of a number below 10^10
pub read_back : (n : ℕ) → n < 10 ^ 10 → reading 0 (digits 10 n) ≡ n
read_back n h = digits_read 10 n h

-- a first byte that is not 0 (48) stays the first
first_of : (s t : List ℕ) → (get_or s 0 48 ≡ 48 → ⊥) → get_or (s ++ t) 0 48 ≡ 48 → ⊥
first_of [] t n e = n refl
first_of (b ∷ s) t n e = n e

-- of a number that is not 0 the first digit is not 0, and there is one
digits_lead : (most n : ℕ) → 0 < n → n < 10 ^ most → get_or (digits most n) 0 48 ≡ 48 → ⊥
unfolding digits
digits_lead zero n p h = λ e. omega arith
digits_lead (suc f) n p h = by (ltb n 10) refl (digits_lead f (n / 10))
  where
    by : (x : Bool) → ltb n 10 ≡ x → (0 < n / 10 → n / 10 < 10 ^ f → get_or (digits f (n / 10)) 0 48 ≡ 48 → ⊥)
        → get_or (cond x ((48 + n) ∷ []) (digits f (n / 10) ++ ((48 + n % 10) ∷ []))) 0 48 ≡ 48 → ⊥
    by true t r e = omega arith
    by false t r e = first_of (digits f (n / 10)) ((48 + n % 10) ∷ []) (r (omega (arith, ltb-false n 10 t)) (omega (arith, pow-succ' 10 f))) e

-- of a number below 10^10 that is not 0
pub no_leading_zero : (n : ℕ) → 0 < n → n < 10 ^ 10 → get_or (digits 10 n) 0 48 ≡ 48 → ⊥
no_leading_zero n p h = digits_lead 10 n p h

-- 0 is one digit
pub zero_digit : digits 10 0 ≡ 48 ∷ []
unfolding digits
zero_digit = refl
