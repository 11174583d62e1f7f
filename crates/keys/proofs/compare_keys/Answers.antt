-- `keys::compare_keys` meets its contract. The loop's invariant: the order of the rows is the order of what is left of them.
-- Assumes nothing.
use mathlib.Core.Path.{sym, ◌∙◌}
use Rattle.keys.proofs.Turns.{leaves, goes_on, end}
use Rattle.keys.proofs.compare_keys.Goals as goal

pub returns-in_default : goal.returns-in_default
returns-in_default c = sym (c.loop-i.invariant ∙ leaves _ _ _ _ _ c.requires c.loop-i-test.true _ c.compare_column-order.ensures c.in_default.not-Equal)

pub loop-i-preserved : goal.loop-i-preserved
loop-i-preserved c = c.loop-i.invariant ∙ goes_on _ _ _ _ _ c.requires c.loop-i-test.true _ c.compare_column-order.ensures c.in-Equal.is

pub returns : goal.returns
returns c = sym (c.loop-i.invariant ∙ end _ _ _ _ _ c.loop-i-test.false)
