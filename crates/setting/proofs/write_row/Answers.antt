-- `setting::write_row` meets its contract. Assumes nothing.
use Rattle.setting.proofs.Rows.{row_set}
use Rattle.setting.proofs.write_row.Goals as goal

pub returns : goal.returns
returns c = row_set c.copy-end.ensures _ _ c.if-mark-ne1.false _ c.apply_sets.ensures
