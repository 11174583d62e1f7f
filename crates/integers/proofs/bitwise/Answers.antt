-- `integers::bitwise` meets its contract. Assumes nothing.
use mathlib.Core.Path.{◌≡◌, sym, ap, ap₂, ◌∙◌}
use Prim.Native.Nat.{ℕ, ◌+◌, ◌%◌, ◌<◌, ◌^◌}
use lib.Bits.{bit_and, bit_or, bit_xor, and_lt, or_lt, xor_lt}
use mir.Syntax.{w32}
use mir.Val.{of_z, to_z}
use mir.Facts.{of_z-to_z}
use Rattle.values.specs.Value.{int}
use Rattle.integers.specs.Outcome.{gave, value, placed}
use Rattle.integers.specs.Integer.{int_of, on_bits, on_ints}
use Rattle.integers.proofs.Placing.{placed_bits}
use native.Mathlib.Omega.{arith}
use Rattle.integers.proofs.bitwise.Goals as goal

-- an operation on the bits of two words
module _ (f : ℕ → ℕ → ℕ) (small : (k a b : ℕ) → a < 2 ^ k → b < 2 ^ k → f a b < 2 ^ k) (a b top : ℕ) where
  bits_fit : f (a % 2 ^ 32) (b % 2 ^ 32) < 2 ^ 32
  bits_fit = small 32 (a % 2 ^ 32) (b % 2 ^ 32) (omega arith) (omega arith)

  bits_of : (w : ℕ) → of_z w32 (int_of w) ≡ w % 2 ^ 32
  bits_of w = of_z-to_z {w = w32} {n = w % 2 ^ 32} (record { fits = omega arith })

  on_bits_lem : gave (2 ^ 56 + f (a % 2 ^ 32) (b % 2 ^ 32)) top ≡ placed top (on_bits f (int_of a) (int_of b))
  on_bits_lem = sym (ap (λ n. placed top (value (int (to_z w32 n)))) (ap₂ f (bits_of a) (bits_of b)) ∙ placed_bits top (f (a % 2 ^ 32) (b % 2 ^ 32)) bits_fit)

pub overflow_add-result : goal.overflow_add-result
overflow_add-result c = omega (arith, bits_fit bit_and and_lt c.args.a c.args.b 0)

pub returns-then-op-eq42 : goal.returns-then-op-eq42
unfolding on_ints
returns-then-op-eq42 c = rw c.if-op-eq42.true (on_bits_lem bit_and and_lt c.args.a c.args.b _)

pub overflow_add-result-then-op-eq43 : goal.overflow_add-result-then-op-eq43
overflow_add-result-then-op-eq43 c = omega (arith, bits_fit bit_or or_lt c.args.a c.args.b 0)

pub returns-then-op-eq43 : goal.returns-then-op-eq43
unfolding on_ints
returns-then-op-eq43 c = rw c.if-op-eq43.true (on_bits_lem bit_or or_lt c.args.a c.args.b _)

pub overflow_add-result-2 : goal.overflow_add-result-2
overflow_add-result-2 c = omega (arith, bits_fit bit_xor xor_lt c.args.a c.args.b 0)

pub returns : goal.returns
unfolding on_ints
returns c = let e : c.args.op ≡ 44 = omega arith in rw e (on_bits_lem bit_xor xor_lt c.args.a c.args.b _)
