-- `integers::shift` meets its contract. Assumes nothing.
use mathlib.Core.Path.{◌≡◌, refl, sym, ap, ◌∙◌}
use mathlib.Core.Bool.{Bool, true, false}
use Prim.Native.Nat.{ℕ, ◌^◌, ◌≤◌, ◌<◌}
use lib.Dec.{eqb}
use lib.IntN.{ℤ, nat_abs}
use lib.Signed.{shr_z}
use borrow.Author.Tests.{eqb-true, eqb-false}
use Rattle.integers.specs.Outcome.{Outcome, placed}
use Rattle.integers.specs.Integer.{int_of, is_amount, fitted, on_ints}
use Rattle.integers.proofs.Ranges.{held, held_is, int_fits, mag_int}
use Rattle.integers.proofs.Amounts.{amount_negative, amount_large, amount_below, amount_cast, amount_signed, left_is, right_is, shr_fits}
use native.Mathlib.Omega.{arith}
use Rattle.integers.proofs.shift.Goals as goal

-- either shift refuses an amount that is none
wrong : (op : ℕ) (x y : ℤ) → 45 ≤ op → op < 47 → is_amount y ≡ false → on_ints op x y ≡ Outcome.refused 6
unfolding on_ints
wrong op x y h k e = go (eqb op 45) refl
  where
    go : (t : Bool) → eqb op 45 ≡ t → on_ints op x y ≡ Outcome.refused 6
    go true f = rw (eqb-true op 45 f, e)
    go false f = let n = eqb-false op 45 f in let g : op ≡ 46 = omega arith in rw (g, e)

-- `>>` as the code comes to it
shifted : (a : ℕ) (r : ℤ) (m : ℕ) → r ≡ int_of a → held (shr_z (held r) m) ≡ shr_z (int_of a) m
shifted a r m e = ap (λ x. held (shr_z x m)) (ap held e ∙ held_is (int_of a) (int_fits a)) ∙ held_is (shr_z (int_of a) m) (shr_fits (int_of a) m (mag_int a))

pub returns-then-y-lt0 : goal.returns-then-y-lt0
unfolding placed
returns-then-y-lt0 c = sym (ap (placed c.args.top) (wrong _ _ _ c.requires.0 c.requires.1 (amount_negative c.args.y c.ranges.y c.if-y-lt0.true)))

pub returns-then-y-gt31 : goal.returns-then-y-gt31
unfolding placed
returns-then-y-gt31 c = sym (ap (placed c.args.top) (wrong _ _ _ c.requires.0 c.requires.1 (amount_large c.args.y c.ranges.y c.if-y-gt31.true)))

pub overflow_cast-amount : goal.overflow_cast-amount
overflow_cast-amount c = amount_cast c.args.y c.ranges.y c.if-y-lt0.false c.if-y-gt31.false

pub overflow_shl-result : goal.overflow_shl-result
overflow_shl-result c = amount_below c.args.y c.ranges.y c.if-y-lt0.false c.if-y-gt31.false

pub returns-then-op-eq45 : goal.returns-then-op-eq45
unfolding on_ints
returns-then-op-eq45 c = rw c.if-op-eq45.true (left_is c.args.y c.ranges.y c.if-y-lt0.false c.if-y-gt31.false _ _)

pub overflow_cast-amount-2 : goal.overflow_cast-amount-2
overflow_cast-amount-2 c = amount_signed c.args.y c.ranges.y c.if-y-lt0.false c.if-y-gt31.false

pub overflow_shr-int_of : goal.overflow_shr-int_of
overflow_shr-int_of c = amount_below c.args.y c.ranges.y c.if-y-lt0.false c.if-y-gt31.false

pub returns : goal.returns
unfolding on_ints
returns c = let e : c.args.op ≡ 46 = omega arith in
    rw e
    (c.narrow.ensures
    ∙ ap (λ z. placed c.args.top (fitted z)) (shifted c.args.a c.int_of.result (2 ^ nat_abs (held c.args.y)) c.int_of.ensures)
    ∙ sym (ap (placed c.args.top) (right_is c.args.y c.ranges.y c.if-y-lt0.false c.if-y-gt31.false (int_of c.args.a) (mag_int c.args.a))))
