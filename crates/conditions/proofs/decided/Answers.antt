-- `conditions::decided` meets its contract. Assumes nothing.
use mathlib.Core.Path.{ap}
use mathlib.Core.Bool.{not}
use borrow.Author.Tests.{ne_eqb}
use Rattle.conditions.specs.Ast.{decides}
use Rattle.conditions.proofs.decided.Goals as goal

pub returns-then-op-eq48 : goal.returns-then-op-eq48
unfolding decides
returns-then-op-eq48 c = λ t h. rw c.if-op-eq48.true (ap not (c.truth.ensures t h))

pub returns-then-op-eq49 : goal.returns-then-op-eq49
unfolding decides
returns-then-op-eq49 c = λ t h. rw c.if-op-eq49.true (c.truth-then-op-eq49.ensures t h)

pub returns : goal.returns
unfolding decides
returns c = λ t h. rw (ne_eqb _ _ c.if-op-eq48.false, ne_eqb _ _ c.if-op-eq49.false)
