-- `integers::on_ints` meets its contract. Assumes nothing.
use mathlib.Core.Path.{◌≡◌, ap, ap₂, ◌∙◌}
use Prim.Native.Nat.{ℕ, ◌<◌, ◌^◌}
use lib.IntN.{ℤ}
use lib.Signed.{mag}
use Rattle.integers.specs.Outcome.{placed}
use Rattle.integers.specs.Integer.{int_of, on_ints}
use Rattle.integers.proofs.Ranges.{held, held_is, int_fits, mag_int}
use Rattle.integers.proofs.on_ints.Goals as goal

-- an Int of a word, passed on
passed : (a : ℕ) (z : ℤ) → z ≡ int_of a → held z ≡ int_of a
passed a z e = ap held e ∙ held_is (int_of a) (int_fits a)

small : (a : ℕ) (z : ℤ) → z ≡ int_of a → mag (held z) < 2 ^ 31
small a z e = rw (passed a z e) (mag_int a)

pub arithmetic-requires : goal.arithmetic-requires
arithmetic-requires c = (c.requires.0, c.if-op-lt42.true, small c.args.a _ c.int_of.ensures, small c.args.b _ c.int_of-then-op-lt42.ensures)

pub returns-then-op-lt42 : goal.returns-then-op-lt42
returns-then-op-lt42 c = c.arithmetic.ensures
    ∙ ap₂ (λ x y. placed c.args.top (on_ints c.args.op x y)) (passed c.args.a _ c.int_of.ensures) (passed c.args.b _ c.int_of-then-op-lt42.ensures)

pub returns : goal.returns
returns c = c.shift.ensures ∙ ap (λ y. placed c.args.top (on_ints c.args.op (int_of c.args.a) y)) (passed c.args.b _ c.int_of-2.ensures)
