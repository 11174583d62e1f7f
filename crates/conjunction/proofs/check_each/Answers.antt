-- `conjunction::check_each` meets its contract. Assumes nothing.
use mathlib.Core.Path.{sym}
use Rattle.conjunction.proofs.Stopping.{old_short}
use Rattle.conjunction.proofs.check_each.Goals as goal

pub check_form-requires : goal.check_form-requires
check_form-requires c = old_short _ _ (sym c.in_ok-check_old.ensures)
