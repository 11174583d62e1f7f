-- `evaluation::walk` meets its contract. Assumes nothing.
use Rattle.operators.specs.Operator.{base}
use Rattle.refusals.proofs.First.{at_err}
use Rattle.evaluation.proofs.Whole.{denied, asks, evaluated}
use native.Mathlib.Omega.{arith}
use Rattle.evaluation.proofs.walk.Goals as goal

pub returns-in_err-n : goal.returns-in_err-n
returns-in_err-n c = rw (at_err c.from_residual.ensures.1) (denied base _ _ _ _ _ c.in_err-n.ensures)

pub evaluate-requires : goal.evaluate-requires
evaluate-requires c = asks base (omega arith) _ _ _ (λ i. (c.type_inv.condition i).fits) _ _ _ c.prepare.auto.nodes c.in_ok-n.ensures

pub returns-in-Ok : goal.returns-in-Ok
returns-in-Ok c = evaluated base (omega arith) _ _ _ (λ i. (c.type_inv.condition i).fits) _ _ _ c.prepare.auto.nodes c.in_ok-n.ensures _ c.evaluate.auto.text _ _ c.in-Ok.ensures.means c.in-Ok.ensures.lies
