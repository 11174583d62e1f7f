-- `values::to_bool` meets its contract. Assumes nothing.
use Rattle.cells.specs.Cell.{Inside}
use Rattle.values.specs.Value.{to_value, to_bool}
use Rattle.std.proofs.Common.{rules}
use Rattle.values.proofs.Truth.{nonzero_bits, nonempty_piece}
use Rattle.values.proofs.to_bool.Goals as goal

pub returns-in-Null : goal.returns-in-Null
unfolding to_value to_bool
returns-in-Null c = λ t h. rw c.in-Null.is

pub returns-in-Int : goal.returns-in-Int
unfolding to_value to_bool
returns-in-Int c = λ t h. rw c.in-Int.is (nonzero_bits c.in-Int.number (search rules))

pub returns-in-Str : goal.returns-in-Str
unfolding to_value to_bool Inside
returns-in-Str c = λ t h. rw c.in-Str.is (nonempty_piece t _ _ (rw c.in-Str.is at h))

pub returns-in-Binary : goal.returns-in-Binary
unfolding to_value to_bool
returns-in-Binary c = λ t h. rw c.in-Binary.is
