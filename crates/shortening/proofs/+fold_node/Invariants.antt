-- The measure: each call goes less deep.
use Rattle.shortening.proofs.+fold_node.Given as goal

abbrev pub decreases-fold_node : goal.decreases-fold_node
decreases-fold_node l = l.depth
