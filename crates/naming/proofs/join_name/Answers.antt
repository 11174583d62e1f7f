-- `naming::join_name` meets its contract. Assumes nothing.
use native.Mathlib.Omega.{arith}
use lib.ListN.{length-set}
use Rattle.naming.proofs.Naming.{name_kept, name_refused, column_room, name_appended}
use Rattle.naming.proofs.join_name.Goals as goal

pub returns-then-table-eq0 : goal.returns-then-table-eq0
returns-then-table-eq0 c = name_kept c.args.table.now c.args.text.now _ _ c.requires c.if-table-eq0.true

pub returns-then-long-gt255 : goal.returns-then-long-gt255
returns-then-long-gt255 c = name_refused c.args.table.now c.args.text.now _ _ c.requires c.if-table-eq0.false (omega (arith, c.if-long-gt255.true))

pub copy_up-end-requires : goal.copy_up-end-requires
copy_up-end-requires c = simp length-set (column_room c.args.table.now c.args.text.now _ _ c.requires c.if-table-eq0.false c.if-long-gt255.false _ _ c.copy-dot.ensures)

pub shape_of-text : goal.shape_of-text
shape_of-text c = omega (arith, simp length-set at c.copy_up-end.auto.text, c.copy-dot.auto.out)

pub returns : goal.returns
returns c = name_appended c.args.table.now c.args.text.now _ _ c.requires c.if-table-eq0.false c.if-long-gt255.false _ _ c.copy-dot.ensures _ _ c.copy_up-end.ensures
