-- `quoting::letter_of` meets its contract. Assumes nothing.
use borrow.Author.Tests.{ne_eqb}
use Rattle.std.proofs.Common.{rules}
use Rattle.quoting.specs.Quote.{escaped}
use Rattle.quoting.proofs.letter_of.Goals as goal

pub returns-in-34 : goal.returns-in-34
unfolding escaped
returns-in-34 c = rw c.in-34.is

pub returns-in-92 : goal.returns-in-92
unfolding escaped
returns-in-92 c = rw c.in-92.is

pub returns-in-0 : goal.returns-in-0
unfolding escaped
returns-in-0 c = rw c.in-0.is

pub returns-in-9 : goal.returns-in-9
unfolding escaped
returns-in-9 c = rw c.in-9.is

pub returns-in-10 : goal.returns-in-10
unfolding escaped
returns-in-10 c = rw c.in-10.is

pub returns-in-13 : goal.returns-in-13
unfolding escaped
returns-in-13 c = rw c.in-13.is

pub returns-in_default : goal.returns-in_default
unfolding escaped
returns-in_default c =
    rw (ne_eqb c.args.b 34 (search rules), ne_eqb c.args.b 92 (search rules), ne_eqb c.args.b 0 (search rules), ne_eqb c.args.b 9 (search rules), ne_eqb c.args.b 10 (search rules), ne_eqb c.args.b 13 (search rules))
