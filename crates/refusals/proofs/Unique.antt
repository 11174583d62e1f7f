-- Two refusals that tell the same are the same, and so are two answers of a check. Assumes nothing.
use mathlib.Core.Path.{◌≡◌, refl, sym, ap, ◌∙◌}
use mathlib.Core.Bool.{cond}
use Prim.Native.Nat.{ℕ}
use native.Mathlib.Omega.{arith}
use lib.Dec.{eqb}
use Rattle.refusals.specs.Told.{told}
use Rattle.refusals.specs.Stop.{Stop, never, stop, stop_of, checked_of}
use Rattle.refusals.specs.declared.Refusal.{Refusal}
use Rattle.refusals.specs.declared.Refusal.TheVariants.{
  NotACondition,
  TooLarge,
  TextOutside,
  NoSuchColumn,
  Overflow,
  ShiftAmount,
  TooLong,
  Malformed,
  OutputShort,
  NoRoom,
  KeyTaken,
  KeyRepeated,
  NotValid,
  KeyTwice,
  NotPrintable,
}
use Rattle.std.specs.Prelude.{Result, Ok, Err, ⊤}

-- the refusal of a number and a place
refusal : ℕ → ℕ → Refusal
refusal n p =
    cond (eqb n 1) (NotACondition p)
    (cond (eqb n 2) (TooLarge p)
    (cond (eqb n 3) (TextOutside p)
    (cond (eqb n 4) (NoSuchColumn p)
    (cond (eqb n 5) (Overflow p)
    (cond (eqb n 6) (ShiftAmount p)
    (cond (eqb n 7) (TooLong p)
    (cond (eqb n 8) (Malformed p)
    (cond (eqb n 9) (OutputShort p)
    (cond (eqb n 10) (NoRoom p)
    (cond (eqb n 11) (KeyTaken p)
    (cond (eqb n 12) (KeyRepeated p)
    (cond (eqb n 13) (NotValid p)
    (cond (eqb n 14) (KeyTwice p) (NotPrintable p))))))))))))))

back : (r : Refusal) → refusal (told r).number (told r).place ≡ r
unfolding refusal
back (NotACondition p) = refl
back (TooLarge p) = refl
back (TextOutside p) = refl
back (NoSuchColumn p) = refl
back (Overflow p) = refl
back (ShiftAmount p) = refl
back (TooLong p) = refl
back (Malformed p) = refl
back (OutputShort p) = refl
back (NoRoom p) = refl
back (KeyTaken p) = refl
back (KeyRepeated p) = refl
back (NotValid p) = refl
back (KeyTwice p) = refl
back (NotPrintable p) = refl

-- a stop's refusal
refusal_of : Stop → Refusal
refusal_of never = NotACondition 0
refusal_of (stop n p) = refusal n p

-- two refusals with the same stop are the same
pub one_refusal : (a b : Refusal) → stop_of a ≡ stop_of b → a ≡ b
unfolding refusal_of
one_refusal a b e = sym (back a) ∙ ap refusal_of e ∙ back b

-- two answers of a check that tell the same are the same
pub one_answer : (a b : Result ⊤ Refusal) → checked_of a ≡ checked_of b → a ≡ b
one_answer (Ok u) (Ok v) e = refl
one_answer (Ok u) (Err s) e = absurd (let z : ◌≡◌ {A = ℕ} 0 1 = cc in omega arith)
one_answer (Err r) (Ok v) e = absurd (let z : ◌≡◌ {A = ℕ} 0 1 = cc in omega arith)
one_answer (Err r) (Err s) e = ap Err (one_refusal r s e)
