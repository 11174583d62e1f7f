-- `projecting::check_list` meets its contract. The loop's invariant: what is left of the list says the rest. Assumes nothing.
use mathlib.Core.Path.{sym, ◌∙◌}
use Rattle.projecting.proofs.Listing.{list_stops, list_turn, list_end}
use Rattle.projecting.proofs.check_list.Goals as goal

pub returns-then-width-column : goal.returns-then-width-column
returns-then-width-column c = sym (c.loop-i.invariant ∙ list_stops _ _ _ c.loop-i-test.true c.if-width-column.true)

pub loop-i-preserved : goal.loop-i-preserved
loop-i-preserved c = c.loop-i.invariant ∙ list_turn _ _ _ c.loop-i-test.true c.if-width-column.false

pub returns : goal.returns
returns c = sym (c.loop-i.invariant ∙ list_end _ _ _ c.loop-i-test.false)
