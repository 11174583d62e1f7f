-- `tables::are_rows` meets its contract. Assumes nothing.
use lib.ListN.{length}
use Prim.Native.Nat.{◌%◌}
use borrow.Author.Tests.{eq-eqb, ne_eqb}
use Rattle.tables.specs.Table.{are_rows}
use Rattle.tables.proofs.are_rows.Goals as goal

pub returns-then-rows-width-ne0 : goal.returns-then-rows-width-ne0
unfolding are_rows
returns-then-rows-width-ne0 c = rw (ne_eqb (length c.args.rows.now % c.args.width) 0 c.if-rows-width-ne0.true)

pub returns : goal.returns
unfolding are_rows
returns c = rw (eq-eqb (length c.args.rows.now % c.args.width) 0 c.if-rows-width-ne0.false)
