-- `values::compare_cells` meets its contract. Assumes nothing.
use mathlib.Core.Path.{sym, ap₂, ◌∙◌}
use Rattle.std.proofs.Common.{rules}
use Rattle.cells.proofs.Stops.{well_inside}
use Rattle.values.specs.Order.{by_ints}
use Rattle.values.proofs.Ordered.{order_self, ints_held}
use Rattle.values.proofs.ByWord.{ints_order}
use Rattle.values.proofs.compare_cells.Goals as goal

pub returns-then-a-b : goal.returns-then-a-b
returns-then-a-b c = rw c.if-a-b.true (sym (order_self _))

pub returns-then-b-eq1 : goal.returns-then-b-eq1
returns-then-b-eq1 c = ints_order c.args.stored.now _ _ _ c.if-a-eq1.true c.if-b-eq1.true
    (c.cmp.ensures ∙ ints_held c.signed-x.result c.signed-y.result (search rules) (search rules) ∙ ap₂ by_ints c.signed-x.ensures c.signed-y.ensures)

pub compare-requires : goal.compare-requires
compare-requires c = (rw c.from.ensures (well_inside _ _ c.requires.0), rw c.from-2.ensures (well_inside _ _ c.requires.1))

pub returns : goal.returns
returns c = rw (← c.from.ensures, ← c.from-2.ensures) c.compare.ensures
