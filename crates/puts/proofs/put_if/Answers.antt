-- `puts::put_if` meets its contract. Assumes nothing.
use Rattle.puts.proofs.Putting.{puts_none}
use Rattle.puts.proofs.put_if.Goals as goal

pub returns-then-test : goal.returns-then-test
returns-then-test c = rw c.if-test.true c.put_byte.ensures

pub returns : goal.returns
returns c = rw c.if-test.false (puts_none _ _)
