-- `conditions::node_of` meets its contract. Assumes nothing.
use mathlib.Core.Path.{sym}
use Rattle.conditions.proofs.NodeKind.{node_leaf, node_one, node_two}
use Rattle.conditions.proofs.node_of.Goals as goal

pub returns-then-kind-lt16 : goal.returns-then-kind-lt16
returns-then-kind-lt16 c = sym (node_leaf _ c.if-kind-lt16.true)

pub returns-then-kind-lt32 : goal.returns-then-kind-lt32
returns-then-kind-lt32 c = sym (node_one _ c.if-kind-lt16.false c.if-kind-lt32.true)

pub returns : goal.returns
returns c = sym (node_two _ c.if-kind-lt32.false)
