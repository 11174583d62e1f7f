-- `integers::negate` meets its contract. Assumes nothing.
use mathlib.Core.Path.{◌≡◌, ap, ◌∙◌}
use Prim.Native.Nat.{ℕ}
use lib.IntN.{ℤ, pos, neg_ℤ, ◌-ℤ◌, +ℤ_idl}
use mir.Syntax.{w64}
use mir.Val.{SFits}
use Rattle.integers.specs.Outcome.{placed}
use Rattle.integers.specs.Integer.{int_of, fitted}
use Rattle.integers.proofs.Ranges.{held, held_is, int_fits, mag_int, negative_fits}
use Rattle.integers.proofs.negate.Goals as goal

-- the opposite of an Int, as the code comes to it
opposite : (a : ℕ) (z : ℤ) → z ≡ int_of a → pos 0 -ℤ held z ≡ neg_ℤ (int_of a)
opposite a z e = ap (λ y. pos 0 -ℤ held y) e ∙ ap (λ y. pos 0 -ℤ y) (held_is (int_of a) (int_fits a)) ∙ +ℤ_idl (neg_ℤ (int_of a))

fits : (a : ℕ) (z : ℤ) → z ≡ int_of a → SFits w64 (pos 0 -ℤ held z)
fits a z e = rw (opposite a z e) (negative_fits (int_of a) (mag_int a))

pub overflow_sub-int_of : goal.overflow_sub-int_of
overflow_sub-int_of c = fits c.args.a _ c.int_of.ensures

pub returns : goal.returns
returns c = c.narrow.ensures
    ∙ ap (λ z. placed c.args.top (fitted z)) (held_is _ (fits c.args.a _ c.int_of.ensures) ∙ opposite c.args.a _ c.int_of.ensures)
