-- `testing::test_row` meets its contract. Assumes nothing.
use Rattle.testing.proofs.Testing.{no_condition, test_asks, test_value, test_fault}
use Rattle.testing.proofs.test_row.Goals as goal

pub returns-then-n-eq0 : goal.returns-then-n-eq0
returns-then-n-eq0 c = λ b A. no_condition _ _ _ _ _ _ b A c.if-n-eq0.true

pub evaluate-requires : goal.evaluate-requires
evaluate-requires c = test_asks _ _ _ _ _ c.requires.0 c.requires.1 c.if-n-eq0.false

pub returns-in-Ok : goal.returns-in-Ok
returns-in-Ok c = λ b A. test_value _ _ _ _ _ b A c.if-n-eq0.false _ _ c.evaluate.auto.text _ _ _ c.in-Ok.ensures.means c.truth.ensures

pub returns-in-Err : goal.returns-in-Err
returns-in-Err c = λ b A. test_fault _ _ _ _ _ b A c.if-n-eq0.false _ _ _ _ c.at.ensures c.in-Err.ensures.means
