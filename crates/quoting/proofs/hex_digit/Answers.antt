-- `quoting::hex_digit` meets its contract. Assumes nothing.
use borrow.Author.Tests.{lt-ltb, le-ltb}
use Rattle.quoting.proofs.hex_digit.Goals as goal

pub returns-then-n-lt10 : goal.returns-then-n-lt10
returns-then-n-lt10 c = simp (lt-ltb _ _ c.if-n-lt10.true)

pub returns : goal.returns
returns c = simp (le-ltb _ _ c.if-n-lt10.false)
