-- `cells::U64FromValueRef::from` meets its contract. Assumes nothing.
use mathlib.Core.Path.{ap}
use Rattle.std.proofs.Common.{rules}
use Prim.Native.Nat.{◌+◌, ◌^◌}
use mir.Syntax.{w32}
use mir.Val.{SFits, of_z}
use mir.Facts.{to_z-of_z}
use Rattle.cells.specs.Cell.{word_of}
use native.Mathlib.Omega.{arith}
use Rattle.cells.proofs.U64FromValueRef.from.Goals as goal

pub returns-in-Null : goal.returns-in-Null
unfolding word_of
returns-in-Null c = rw c.in-Null.is

pub returns-in-Int : goal.returns-in-Int
unfolding word_of
returns-in-Int c = let h : SFits w32 c.in-Int.number = search rules in
    rw (c.in-Int.is, c.bits.ensures) (ap (λ z. 2 ^ 56 + of_z w32 z) (to_z-of_z h))

pub returns-in-Str : goal.returns-in-Str
unfolding word_of
returns-in-Str c = rw c.in-Str.is (omega arith)

pub returns-in-Binary : goal.returns-in-Binary
unfolding word_of
returns-in-Binary c = rw c.in-Binary.is
