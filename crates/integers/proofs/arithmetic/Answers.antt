-- `integers::arithmetic` meets its contract. Assumes nothing.
use mathlib.Core.Path.{◌≡◌, sym, ap, ◌∙◌}
use mathlib.Core.Bool.{true, false}
use Prim.Native.Nat.{ℕ, ◌<◌, ◌^◌}
use lib.IntN.{ℤ, ◌+ℤ◌, ◌-ℤ◌, ◌*ℤ◌}
use lib.Signed.{mag, quot_z}
use mir.Syntax.{w64}
use mir.Val.{SFits, of_z}
use Rattle.integers.specs.Outcome.{Reply, placed}
use Rattle.integers.specs.Integer.{fitted, on_ints, is_zero}
use Rattle.integers.proofs.Placing.{placed_null}
use Rattle.integers.proofs.Ranges.{held, held_op, held_fits, sum_fits, difference_fits, product_fits, quotient_fits, zero_bits, nonzero_bits}
use native.Mathlib.Omega.{arith}
use Rattle.integers.proofs.arithmetic.Goals as goal

-- two numbers of 32 bits, held in 64, and an operation whose result 64 bits hold too
record Two (x y : ℤ) : Type 0 where
  first : SFits w64 x
  second : SFits w64 y
  small-first : mag x < 2 ^ 31
  small-second : mag y < 2 ^ 31

module _ (f : ℤ → ℤ → ℤ) (fits : (x y : ℤ) → mag x < 2 ^ 31 → mag y < 2 ^ 31 → SFits w64 (f x y)) {x y : ℤ} (t : Two x y) where
  asked : SFits w64 (f (held x) (held y))
  asked = held_fits f x y t.first t.second (fits x y t.small-first t.small-second)

  came : (r : Reply) (top : ℕ) → r ≡ placed top (fitted (held (f (held x) (held y)))) → r ≡ placed top (fitted (f x y))
  came r top e = e ∙ ap (λ z. placed top (fitted z)) (held_op f x y t.first t.second (fits x y t.small-first t.small-second))

pub overflow_add-x : goal.overflow_add-x
overflow_add-x c =
    let two : Two c.args.x c.args.y = record { first = c.ranges.x; second = c.ranges.y; small-first = c.requires.2; small-second = c.requires.3 } in
    asked ◌+ℤ◌ sum_fits two

pub returns-then-op-eq38 : goal.returns-then-op-eq38
unfolding on_ints
returns-then-op-eq38 c =
    let two : Two c.args.x c.args.y = record { first = c.ranges.x; second = c.ranges.y; small-first = c.requires.2; small-second = c.requires.3 } in
    rw c.if-op-eq38.true (came ◌+ℤ◌ sum_fits two _ _ c.narrow.ensures)

pub overflow_sub-x : goal.overflow_sub-x
overflow_sub-x c =
    let two : Two c.args.x c.args.y = record { first = c.ranges.x; second = c.ranges.y; small-first = c.requires.2; small-second = c.requires.3 } in
    asked ◌-ℤ◌ difference_fits two

pub returns-then-op-eq39 : goal.returns-then-op-eq39
unfolding on_ints
returns-then-op-eq39 c =
    let two : Two c.args.x c.args.y = record { first = c.ranges.x; second = c.ranges.y; small-first = c.requires.2; small-second = c.requires.3 } in
    rw c.if-op-eq39.true (came ◌-ℤ◌ difference_fits two _ _ c.narrow-then-op-eq39.ensures)

pub overflow_mul-x : goal.overflow_mul-x
overflow_mul-x c =
    let two : Two c.args.x c.args.y = record { first = c.ranges.x; second = c.ranges.y; small-first = c.requires.2; small-second = c.requires.3 } in
    asked ◌*ℤ◌ product_fits two

pub returns-then-op-eq40 : goal.returns-then-op-eq40
unfolding on_ints
returns-then-op-eq40 c =
    let two : Two c.args.x c.args.y = record { first = c.ranges.x; second = c.ranges.y; small-first = c.requires.2; small-second = c.requires.3 } in
    rw c.if-op-eq40.true (came ◌*ℤ◌ product_fits two _ _ c.narrow-then-op-eq40.ensures)

pub returns-then-y-eq0 : goal.returns-then-y-eq0
unfolding on_ints
returns-then-y-eq0 c = let e : c.args.op ≡ 41 = omega arith in
    let z : is_zero c.args.y ≡ true = zero_bits c.args.y c.requires.3 c.if-y-eq0.true in
    rw (e, z) (sym (placed_null _))

pub nonzero_div-x : goal.nonzero_div-x
nonzero_div-x c =
    let two : Two c.args.x c.args.y = record { first = c.ranges.x; second = c.ranges.y; small-first = c.requires.2; small-second = c.requires.3 } in
    let n : of_z w64 c.args.y ≡ 0 → ⊥ = c.if-y-eq0.false in (omega arith, asked quot_z quotient_fits two)

pub returns : goal.returns
unfolding on_ints
returns c =
    let two : Two c.args.x c.args.y = record { first = c.ranges.x; second = c.ranges.y; small-first = c.requires.2; small-second = c.requires.3 } in
    let e : c.args.op ≡ 41 = omega arith in
    let z : is_zero c.args.y ≡ false = nonzero_bits c.args.y c.if-y-eq0.false in
    rw (e, z) (came quot_z quotient_fits two _ _ c.narrow-2.ensures)
