-- `signs::put_prefix` meets its contract. Assumes nothing.
use borrow.Author.Tests.{ne_eqb}
use Rattle.signs.specs.Sign.{prefix}
use Rattle.signs.proofs.put_prefix.Goals as goal

pub returns-in-16 : goal.returns-in-16
unfolding prefix
returns-in-16 c = rw c.in-16.is c.put_bytes.ensures

pub returns-in-17 : goal.returns-in-17
unfolding prefix
returns-in-17 c = rw c.in-17.is c.put_bytes-in-17.ensures

pub returns-in_default : goal.returns-in_default
unfolding prefix
returns-in_default c = rw (ne_eqb _ 16 c.in_default.in_default-own.rest.0.1, ne_eqb _ 17 c.in_default.in_default-own.rest.1) c.put_bytes-in_default.ensures
