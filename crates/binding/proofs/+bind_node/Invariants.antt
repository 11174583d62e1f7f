-- The measure: each call goes less deep.
use Rattle.binding.proofs.+bind_node.Given as goal

abbrev pub decreases-bind_node : goal.decreases-bind_node
decreases-bind_node l = l.depth
