-- `inserting::write_sorted` meets its contract. Assumes nothing.
use native.Mathlib.Omega.{arith}
use Rattle.inserting.proofs.Calls.{old_once, new_once, merge_asks}
use Rattle.inserting.proofs.write_sorted.Goals as goal

pub order_rows-requires : goal.order_rows-requires
order_rows-requires c = (c.requires.old_rows, omega (arith, c.requires.old_rows.few), old_once _ _ _ _ _ _ _ c.requires)

pub order_rows-requires-2 : goal.order_rows-requires-2
order_rows-requires-2 c = (c.requires.new_rows, omega (arith, c.requires.new_rows.few), new_once _ _ _ _ _ _ _ c.requires)

pub merge_rows-requires : goal.merge_rows-requires
merge_rows-requires c = merge_asks _ _ _ _ _ _ _ c.requires _ _ _ c.order_rows.auto.order c.order_rows-2.auto.order c.order_rows.ensures c.order_rows-2.ensures
