-- `cells::bodies` meets its contract. Assumes nothing.
use mathlib.Core.Path.{sym}
use Rattle.std.proofs.Common.{rules}
use Rattle.cells.specs.Cell.{bodies_of}
use Rattle.cells.proofs.Words.{bodies_other}
use Rattle.cells.proofs.bodies.Goals as goal

pub returns-in-0 : goal.returns-in-0
unfolding bodies_of
returns-in-0 c = rw c.in-0.is

pub returns-in-1 : goal.returns-in-1
unfolding bodies_of
returns-in-1 c = rw c.in-1.is

pub returns-in-2 : goal.returns-in-2
unfolding bodies_of
returns-in-2 c = rw c.in-2.is

pub returns-in-3 : goal.returns-in-3
unfolding bodies_of
returns-in-3 c = rw c.in-3.is

pub returns-in_default : goal.returns-in_default
returns-in_default c = sym (bodies_other _ (search rules) (search rules) (search rules) (search rules))
