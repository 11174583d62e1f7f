-- `refusals::Refusal::counted_from` meets its contract. Assumes nothing.
use mathlib.Core.Path.{ap}
use Rattle.refusals.specs.Told.{told}
use Rattle.refusals.proofs.Counting.{counted_as}
use Rattle.refusals.proofs.Refusal.counted_from.Goals as goal

pub returns-in-NotACondition : goal.returns-in-NotACondition
returns-in-NotACondition c = counted_as c.args.self 1 _ _ (ap (λ r. (told r).number) c.in-NotACondition.is) c.place.ensures

pub returns-in-TooLarge : goal.returns-in-TooLarge
returns-in-TooLarge c = counted_as c.args.self 2 _ _ (ap (λ r. (told r).number) c.in-TooLarge.is) c.place.ensures

pub returns-in-TextOutside : goal.returns-in-TextOutside
returns-in-TextOutside c = counted_as c.args.self 3 _ _ (ap (λ r. (told r).number) c.in-TextOutside.is) c.place.ensures

pub returns-in-NoSuchColumn : goal.returns-in-NoSuchColumn
returns-in-NoSuchColumn c = counted_as c.args.self 4 _ _ (ap (λ r. (told r).number) c.in-NoSuchColumn.is) c.place.ensures

pub returns-in-Overflow : goal.returns-in-Overflow
returns-in-Overflow c = counted_as c.args.self 5 _ _ (ap (λ r. (told r).number) c.in-Overflow.is) c.place.ensures

pub returns-in-ShiftAmount : goal.returns-in-ShiftAmount
returns-in-ShiftAmount c = counted_as c.args.self 6 _ _ (ap (λ r. (told r).number) c.in-ShiftAmount.is) c.place.ensures

pub returns-in-TooLong : goal.returns-in-TooLong
returns-in-TooLong c = counted_as c.args.self 7 _ _ (ap (λ r. (told r).number) c.in-TooLong.is) c.place.ensures

pub returns-in-Malformed : goal.returns-in-Malformed
returns-in-Malformed c = counted_as c.args.self 8 _ _ (ap (λ r. (told r).number) c.in-Malformed.is) c.place.ensures

pub returns-in-OutputShort : goal.returns-in-OutputShort
returns-in-OutputShort c = counted_as c.args.self 9 _ _ (ap (λ r. (told r).number) c.in-OutputShort.is) c.place.ensures

pub returns-in-NoRoom : goal.returns-in-NoRoom
returns-in-NoRoom c = counted_as c.args.self 10 _ _ (ap (λ r. (told r).number) c.in-NoRoom.is) c.place.ensures

pub returns-in-KeyTaken : goal.returns-in-KeyTaken
returns-in-KeyTaken c = counted_as c.args.self 11 _ _ (ap (λ r. (told r).number) c.in-KeyTaken.is) c.place.ensures

pub returns-in-KeyRepeated : goal.returns-in-KeyRepeated
returns-in-KeyRepeated c = counted_as c.args.self 12 _ _ (ap (λ r. (told r).number) c.in-KeyRepeated.is) c.place.ensures

pub returns-in-NotValid : goal.returns-in-NotValid
returns-in-NotValid c = counted_as c.args.self 13 _ _ (ap (λ r. (told r).number) c.in-NotValid.is) c.place.ensures

pub returns-in-KeyTwice : goal.returns-in-KeyTwice
returns-in-KeyTwice c = counted_as c.args.self 14 _ _ (ap (λ r. (told r).number) c.in-KeyTwice.is) c.place.ensures

pub returns-in-NotPrintable : goal.returns-in-NotPrintable
returns-in-NotPrintable c = counted_as c.args.self 15 _ _ (ap (λ r. (told r).number) c.in-NotPrintable.is) c.place.ensures
