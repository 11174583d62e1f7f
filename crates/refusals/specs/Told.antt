-- What a refusal tells: document 01's number and the place ("Refusals by number"). Assumes nothing: these are definitions.
use Rattle.std.specs.Prelude.{ℕ}
use Rattle.refusals.specs.declared.Refusal.{Refusal}
use Rattle.refusals.specs.declared.Refusal.TheVariants.{
  NotACondition,
  TooLarge,
  TextOutside,
  NoSuchColumn,
  Overflow,
  ShiftAmount,
  TooLong,
  Malformed,
  OutputShort,
  NoRoom,
  KeyTaken,
  KeyRepeated,
  NotValid,
  KeyTwice,
  NotPrintable,
}

-- what a refusal tells
pub record Told : Type 0 where
  pub number : ℕ
  pub place : ℕ

-- document 01's table: the number of each case, and its place
abbrev pub told : Refusal → Told
told (NotACondition p) = record { number = 1; place = p }
told (TooLarge p) = record { number = 2; place = p }
told (TextOutside p) = record { number = 3; place = p }
told (NoSuchColumn p) = record { number = 4; place = p }
told (Overflow p) = record { number = 5; place = p }
told (ShiftAmount p) = record { number = 6; place = p }
told (TooLong p) = record { number = 7; place = p }
told (Malformed p) = record { number = 8; place = p }
told (OutputShort p) = record { number = 9; place = p }
told (NoRoom p) = record { number = 10; place = p }
told (KeyTaken p) = record { number = 11; place = p }
told (KeyRepeated p) = record { number = 12; place = p }
told (NotValid p) = record { number = 13; place = p }
told (KeyTwice p) = record { number = 14; place = p }
told (NotPrintable p) = record { number = 15; place = p }
