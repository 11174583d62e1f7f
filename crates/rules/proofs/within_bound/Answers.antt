-- `rules::within_bound` meets its contract. Assumes nothing.
use borrow.Author.Tests.{eq-eqb, ne_eqb}
use Rattle.rules.proofs.within_bound.Goals as goal

pub returns-then-bound-eq0 : goal.returns-then-bound-eq0
returns-then-bound-eq0 c = rw (eq-eqb _ _ c.if-bound-eq0.true)

pub returns-else-bound-eq0 : goal.returns-else-bound-eq0
returns-else-bound-eq0 c = rw (ne_eqb _ _ c.if-bound-eq0.false)
