-- The measures: each call goes less deep, or from a node to its operand at the same depth.
use Rattle.std.proofs.Common.{◌*◌, ◌+◌}
use Rattle.spelling.proofs.+print_node_print_operator.Given as goal

abbrev pub decreases-print_node : goal.decreases-print_node
decreases-print_node l = 2 * l.depth + 1

abbrev pub decreases-print_operator : goal.decreases-print_operator
decreases-print_operator l = 2 * l.depth
