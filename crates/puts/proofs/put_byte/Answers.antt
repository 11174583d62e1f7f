-- `puts::put_byte` meets its contract. Assumes nothing.
use Rattle.puts.proofs.Putting.{puts_inside, puts_beyond}
use Rattle.puts.proofs.put_byte.Goals as goal

pub returns-then-at-out : goal.returns-then-at-out
returns-then-at-out c = puts_inside _ _ _

pub returns-else-at-out : goal.returns-else-at-out
returns-else-at-out c = puts_beyond _ _ _ c.if-at-out.false
