-- `tables::is_table` meets its contract. Assumes nothing.
use native.Mathlib.Omega.{arith}
use lib.ListN.{length}
use Prim.Native.Nat.{◌/◌, ◌%◌}
use borrow.Author.Tests.{eq-eqb, ne_eqb, lt-leb, le-leb}
use Rattle.tables.specs.Table.{is_table}
use Rattle.tables.proofs.Words.{halves}
use Rattle.tables.proofs.is_table.Goals as goal

pub returns-then-columns-ne0 : goal.returns-then-columns-ne0
unfolding is_table
returns-then-columns-ne0 c = rw (ne_eqb (length c.args.columns.now % 2) 0 c.if-columns-ne0.true)

pub returns-then-columns-lt2 : goal.returns-then-columns-lt2
unfolding is_table
returns-then-columns-lt2 c = rw (eq-eqb (length c.args.columns.now % 2) 0 c.if-columns-ne0.false, lt-leb 1 (length c.args.columns.now / 2) (omega (arith, c.if-columns-lt2.true)))

pub returns : goal.returns
unfolding is_table
returns c = rw (eq-eqb (length c.args.columns.now % 2) 0 c.if-columns-ne0.false, le-leb 1 (length c.args.columns.now / 2) (omega (arith, c.if-columns-lt2.false))) (halves (length c.args.columns.now) c.if-columns-ne0.false)
