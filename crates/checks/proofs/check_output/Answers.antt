-- `checks::check_output` meets its contract. Assumes nothing.
use native.Mathlib.Omega.{arith}
use borrow.Author.Tests.{lt-ltb, le-ltb}
use Rattle.checks.proofs.check_output.Goals as goal

pub returns-then-size-lt448 : goal.returns-then-size-lt448
returns-then-size-lt448 c = rw (lt-ltb c.args.size 448 (omega (arith, c.if-size-lt448.true)))

pub returns : goal.returns
returns c = rw (le-ltb c.args.size 448 (omega (arith, c.if-size-lt448.false)))
