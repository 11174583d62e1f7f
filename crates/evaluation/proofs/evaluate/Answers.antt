-- `evaluation::evaluate` meets its contract. Assumes nothing.
use Rattle.operators.specs.Operator.{base}
use Rattle.evaluation.proofs.Passing.{passed}
use Rattle.evaluation.proofs.evaluate.Goals as goal

pub returns-in-Some : goal.returns-in-Some
returns-in-Some c = passed base _ _ _ _ _ c.in-Some.ensures
