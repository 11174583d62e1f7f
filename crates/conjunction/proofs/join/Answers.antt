-- `conjunction::join` meets its contract. Assumes nothing.
use native.Mathlib.Omega.{arith}
use Rattle.conjunction.proofs.Joining.{join_new, join_both}
use Rattle.conjunction.proofs.join.Goals as goal

pub returns-then-old-eq0 : goal.returns-then-old-eq0
returns-then-old-eq0 c = join_new _ _ _ _ _ _ _ c.copy-middle.ensures c.copy-end.ensures c.if-old-eq0.true

pub returns : goal.returns
returns c = join_both _ _ _ _ _ _ _ c.copy-middle.ensures c.copy-end.ensures c.if-old-eq0.false
    (omega (arith, c.requires.0, c.requires.1, c.requires.2, c.copy-middle.ensures.place, c.copy-end.ensures.place, c.copy-middle.auto.out, c.copy-end.auto.out))
