-- `wordwise::on_cells` meets its contract. Assumes nothing.
use mathlib.Core.Path.{sym, ap, ◌∙◌}
use Rattle.values.specs.Value.{from_bool}
use Rattle.integers.specs.Outcome.{value}
use Rattle.operators.specs.Operator.{holds}
use Rattle.wordwise.proofs.Settling.{flagged, both_compared}
use native.Mathlib.Omega.{arith}
use Rattle.wordwise.proofs.on_cells.Goals as goal

pub returns-then-op-eq32-clause-is : goal.returns-then-op-eq32-clause-is
unfolding holds
returns-then-op-eq32-clause-is c = λ R. rw c.if-op-eq32.true (flagged _ _ _ c.flag.ensures (both_compared R 32 _ _ (omega arith) ∙ ap (λ x. value (from_bool x)) (sym c.equal_cells.ensures)))

pub returns-then-op-lt38-clause-is : goal.returns-then-op-lt38-clause-is
returns-then-op-lt38-clause-is c = λ R. flagged _ _ _ c.flag-then-op-lt38.ensures (both_compared R _ _ _ c.if-op-lt38.true ∙ ap (λ x. value (from_bool x)) (sym c.compare.ensures))
