-- The measures: each call goes less deep, or from a node to its operand at the same depth.
use Rattle.std.proofs.Common.{◌*◌, ◌+◌}
use Rattle.quick.proofs.+operand_word_of.Given as goal

abbrev pub decreases-operand : goal.decreases-operand
decreases-operand l = 2 * l.depth + 1

abbrev pub decreases-word_of : goal.decreases-word_of
decreases-word_of l = 2 * l.depth
