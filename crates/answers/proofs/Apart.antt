-- The struct tells the answer: two answers with the same struct are the same, so an accepted call is never taken for a refused one.
-- Assumes nothing.
use mathlib.Core.Path.{◌≡◌, ap, ap₂, sym}
use Prim.Native.Nat.{ℕ, ◌<◌}
use native.Mathlib.Omega.{arith}
use Rattle.refusals.specs.Told.{told}
use Rattle.refusals.specs.Stop.{stop}
use Rattle.refusals.specs.declared.Refusal.{Refusal}
use Rattle.refusals.specs.declared.Refusal.TheVariants.{
  NotACondition,
  TooLarge,
  TextOutside,
  NoSuchColumn,
  Overflow,
  ShiftAmount,
  TooLong,
  Malformed,
  OutputShort,
  NoRoom,
  KeyTaken,
  KeyRepeated,
  NotValid,
  KeyTwice,
  NotPrintable,
}
use Rattle.refusals.proofs.Unique.{one_refusal}
use Rattle.answers.specs.Answer.{refused_with, accepted, of_written, of_evaluated, of_moved, of_shortened, of_joined}
use Rattle.answers.specs.declared.Answer.{Answer}
use Rattle.std.specs.Prelude.{Result, Ok, Err}

-- no refusal has the number 0
pub some_number : (r : Refusal) → 0 < (told r).number
some_number (NotACondition p) = omega arith
some_number (TooLarge p) = omega arith
some_number (TextOutside p) = omega arith
some_number (NoSuchColumn p) = omega arith
some_number (Overflow p) = omega arith
some_number (ShiftAmount p) = omega arith
some_number (TooLong p) = omega arith
some_number (Malformed p) = omega arith
some_number (OutputShort p) = omega arith
some_number (NoRoom p) = omega arith
some_number (KeyTaken p) = omega arith
some_number (KeyRepeated p) = omega arith
some_number (NotValid p) = omega arith
some_number (KeyTwice p) = omega arith
some_number (NotPrintable p) = omega arith

-- the numbers of a struct
number_of : Answer → ℕ
number_of a = a.number

place_of : Answer → ℕ
place_of a = a.place

value_of : Answer → ℕ
value_of a = a.value

used_of : Answer → ℕ
used_of a = a.used

module _ (used : ℕ) where
  -- a refused call's struct is no accepted one's, and tells which refusal it is
  apart : (r : Refusal) (value mark : ℕ) → accepted value mark ≡ refused_with r used → ⊥
  unfolding number_of
  apart r value mark e = let z : 0 ≡ (told r).number = ap number_of e in omega (arith, some_number r)

  alike : (r s : Refusal) → refused_with r used ≡ refused_with s used → r ≡ s
  unfolding number_of place_of
  alike r s e = one_refusal r s (ap₂ stop (ap number_of e) (ap place_of e))

  pub written_apart : (a b : Result ℕ Refusal) → of_written used a ≡ of_written used b → a ≡ b
  unfolding value_of
  written_apart (Ok n) (Ok n') e = ap Ok (ap value_of e)
  written_apart (Ok n) (Err s) e = absurd (apart s n used e)
  written_apart (Err r) (Ok n') e = absurd (apart r n' used (sym e))
  written_apart (Err r) (Err s) e = ap Err (alike r s e)

  pub evaluated_apart : (a b : Result ℕ Refusal) → of_evaluated used a ≡ of_evaluated used b → a ≡ b
  unfolding value_of
  evaluated_apart (Ok n) (Ok n') e = ap Ok (ap value_of e)
  evaluated_apart (Ok n) (Err s) e = absurd (apart s n used e)
  evaluated_apart (Err r) (Ok n') e = absurd (apart r n' used (sym e))
  evaluated_apart (Err r) (Err s) e = ap Err (alike r s e)

  -- two calls that move the mark
  moved_apart : (a b : Result (ℕ × ℕ) Refusal) → of_moved used a ≡ of_moved used b → a ≡ b
  unfolding value_of used_of
  moved_apart (Ok (n, k)) (Ok (n', k')) e = ap₂ (λ x y. Ok (x, y)) (ap value_of e) (ap used_of e)
  moved_apart (Ok (n, k)) (Err s) e = absurd (apart s n k e)
  moved_apart (Err r) (Ok (n', k')) e = absurd (apart r n' k' (sym e))
  moved_apart (Err r) (Err s) e = ap Err (alike r s e)

  pub shortened_apart : (a b : Result (ℕ × ℕ) Refusal) → of_shortened used a ≡ of_shortened used b → a ≡ b
  shortened_apart = moved_apart

  pub joined_apart : (a b : Result (ℕ × ℕ) Refusal) → of_joined used a ≡ of_joined used b → a ≡ b
  joined_apart = moved_apart
