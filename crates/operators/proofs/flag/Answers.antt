-- `operators::flag` meets its contract. Assumes nothing.
use mathlib.Core.Path.{sym}
use lib.IntN.{pos}
use Rattle.values.specs.Value.{from_bool}
use Rattle.integers.proofs.Placing.{placed_int}
use Rattle.operators.proofs.flag.Goals as goal

pub returns-then-boolean : goal.returns-then-boolean
unfolding from_bool
returns-then-boolean c = λ top. rw c.if-boolean.true (sym (placed_int top (pos 1)))

pub returns-else-boolean : goal.returns-else-boolean
unfolding from_bool
returns-else-boolean c = λ top. rw c.if-boolean.false (sym (placed_int top (pos 0)))
