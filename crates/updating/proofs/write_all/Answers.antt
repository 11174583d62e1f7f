-- `updating::write_all` meets its contract. Assumes nothing.
use Rattle.setting.proofs.Rows.{all_short}
use Rattle.updating.proofs.write_all.Goals as goal

pub returns-then-out-rows : goal.returns-then-out-rows
returns-then-out-rows c = all_short c.requires _ c.if-out-rows.true
