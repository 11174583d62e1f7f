-- `operators::compare` meets its contract. Assumes nothing.
use mathlib.Core.Path.{ap, ◌∙◌}
use mathlib.Core.Bool.{not}
use Rattle.operators.specs.Operator.{holds}
use Rattle.operators.proofs.compare.Goals as goal

pub returns-then-op-eq32 : goal.returns-then-op-eq32
unfolding holds
returns-then-op-eq32 c = rw c.if-op-eq32.true c.equal_cells.ensures

pub returns-then-op-eq33 : goal.returns-then-op-eq33
unfolding holds
returns-then-op-eq33 c = rw c.if-op-eq33.true (ap not c.equal_cells-then-op-eq33.ensures)

pub returns : goal.returns
returns c = c.ordered.ensures ∙ ap (holds c.args.op) c.compare_cells.ensures
