-- The operators on two Ints and on one (document 01, "Values and operators"; the Rust Reference for i32). Assumes nothing: these are definitions.
use Rattle.std.specs.Prelude.{ℕ, zero, suc, ◌-◌, ◌*◌, ◌^◌, ◌%◌, Bool, true, false, cond, eqb, ℤ, pos, negsuc, neg_ℤ, nat_abs, ◌+ℤ◌, ◌-ℤ◌, ◌*ℤ◌}
use Rattle.std.specs.Int.Bits.{bit_and, bit_or, bit_xor}
use Rattle.std.specs.Int.Signed.{le_z, quot_z, shr_z}
use Rattle.std.specs.Int.{w32}
use Rattle.std.proofs.Common.{to_z, of_z}
use Rattle.slices.specs.Bytes.{both}
use Rattle.values.specs.Value.{null, int}
use Rattle.integers.specs.Outcome.{Outcome, value, refused}

-- the number of an Int's word: its low 32 bits in two's complement
abbrev pub int_of : ℕ → ℤ
int_of word = to_z w32 (word % 2 ^ 32)

-- −2147483648 to 2147483647
abbrev pub is_int32 : ℤ → Bool
is_int32 z = both (le_z (negsuc 2147483647) z) (le_z z (pos 2147483647))

-- an Int, or 5 outside 32 bits
unfoldable pub fitted : ℤ → Outcome
fitted z = cond (is_int32 z) (value (int z)) (refused 5)

-- on the 32 bits
abbrev pub on_bits : (ℕ → ℕ → ℕ) → ℤ → ℤ → Outcome
on_bits f x y = value (int (to_z w32 (f (of_z w32 x) (of_z w32 y))))

-- the number 0
abbrev pub is_zero : ℤ → Bool
is_zero (pos zero) = true
is_zero (pos (suc n)) = false
is_zero (negsuc n) = false

-- by 0 is Null; division goes toward zero
abbrev pub divided : ℤ → ℤ → Outcome
divided x y = cond (is_zero y) (value null) (fitted (quot_z x y))

-- a shift amount is 0 to 31, else 6
abbrev pub is_amount : ℤ → Bool
is_amount y = both (le_z (pos 0) y) (le_z y (pos 31))

-- `<<` drops high bits
abbrev pub shifted_left : ℤ → ℤ → Outcome
shifted_left x y = cond (is_amount y) (value (int (to_z w32 (of_z w32 x * 2 ^ nat_abs y % 2 ^ 32)))) (refused 6)

-- `>>` keeps the sign
abbrev pub shifted_right : ℤ → ℤ → Outcome
shifted_right x y = cond (is_amount y) (value (int (shr_z x (2 ^ nat_abs y)))) (refused 6)

-- 38 to 46, in this order: + - * / & | ^ << >>
unfoldable pub on_ints : ℕ → ℤ → ℤ → Outcome
on_ints op x y =
    cond (eqb op 38) (fitted (x +ℤ y))
    (cond (eqb op 39) (fitted (x -ℤ y))
    (cond (eqb op 40) (fitted (x *ℤ y))
    (cond (eqb op 41) (divided x y)
    (cond (eqb op 42) (on_bits bit_and x y)
    (cond (eqb op 43) (on_bits bit_or x y)
    (cond (eqb op 44) (on_bits bit_xor x y)
    (cond (eqb op 45) (shifted_left x y)
    (cond (eqb op 46) (shifted_right x y) (value null)))))))))

-- unary `-`
abbrev pub negated : ℤ → Outcome
negated x = fitted (neg_ℤ x)

-- `~`: each of the 32 bits turned over
abbrev pub inverted : ℤ → Outcome
inverted x = value (int (to_z w32 (2 ^ 32 - 1 - of_z w32 x)))
