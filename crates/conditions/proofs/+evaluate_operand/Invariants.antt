-- The measures: each call goes less deep, or from a node to its operand at the same depth.
use Rattle.std.proofs.Common.{◌*◌, ◌+◌}
use Rattle.conditions.proofs.+evaluate_operand.Given as goal

abbrev pub decreases-evaluate : goal.decreases-evaluate
decreases-evaluate l = 2 * l.depth

abbrev pub decreases-operand : goal.decreases-operand
decreases-operand l = 2 * l.depth + 1
