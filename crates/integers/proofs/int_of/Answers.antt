-- `integers::int_of` meets its contract. Assumes nothing.
use Rattle.cells.proofs.TwosComplement.{low_is, lowered_fits, lowered_wide}
use native.Mathlib.Omega.{arith}
use Rattle.integers.proofs.int_of.Goals as goal

pub returns-then-low-lt2147483648 : goal.returns-then-low-lt2147483648
returns-then-low-lt2147483648 c = low_is _ (omega arith) c.if-low-lt2147483648.true

pub overflow_sub-result : goal.overflow_sub-result
overflow_sub-result c = lowered_fits _ (omega arith) c.if-low-lt2147483648.false

pub returns : goal.returns
returns c = lowered_wide _ (omega arith) c.if-low-lt2147483648.false
