-- `nodes::body_of` meets its contract. Assumes nothing.
use borrow.Author.Tests.{ne_eqb}
use Rattle.nodes.specs.Kind.{body_of}
use Rattle.nodes.proofs.body_of.Goals as goal

pub returns-then-k-eq1 : goal.returns-then-k-eq1
unfolding body_of
returns-then-k-eq1 c = rw c.if-k-eq1.true

pub returns-then-k-eq2 : goal.returns-then-k-eq2
unfolding body_of
returns-then-k-eq2 c = rw c.if-k-eq2.true

pub returns-then-k-eq3 : goal.returns-then-k-eq3
unfolding body_of
returns-then-k-eq3 c = rw c.if-k-eq3.true

pub returns-then-k-eq4 : goal.returns-then-k-eq4
unfolding body_of
returns-then-k-eq4 c = rw c.if-k-eq4.true

pub returns : goal.returns
unfolding body_of
returns c = rw (ne_eqb _ _ c.if-k-eq1.false, ne_eqb _ _ c.if-k-eq2.false, ne_eqb _ _ c.if-k-eq3.false, ne_eqb _ _ c.if-k-eq4.false)
