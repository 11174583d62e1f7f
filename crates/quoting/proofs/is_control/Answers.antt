-- `quoting::is_control` meets its contract. Assumes nothing.
use borrow.Author.Tests.{lt-ltb, le-ltb}
use Rattle.quoting.proofs.is_control.Goals as goal

pub returns-then-b-lt32 : goal.returns-then-b-lt32
returns-then-b-lt32 c = rw (lt-ltb _ 32 c.if-b-lt32.true)

pub returns-else-b-lt32 : goal.returns-else-b-lt32
returns-else-b-lt32 c = rw (le-ltb _ 32 c.if-b-lt32.false)
