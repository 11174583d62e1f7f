-- `cells::reaches_beyond` meets its contract. Assumes nothing.
use borrow.Author.Tests.{eq-eqb, ne_eqb}
use Rattle.cells.specs.Cell.{reaches_beyond}
use Rattle.cells.proofs.reaches_beyond.Goals as goal

pub returns-then-word-eq2 : goal.returns-then-word-eq2
unfolding reaches_beyond
returns-then-word-eq2 c = rw (eq-eqb _ _ c.if-word-eq2.true)

pub returns-else-word-eq2 : goal.returns-else-word-eq2
unfolding reaches_beyond
returns-else-word-eq2 c = rw (ne_eqb _ _ c.if-word-eq2.false)
