-- `conjunction::check_form` meets its contract. Assumes nothing.
use native.Mathlib.Omega.{arith}
use Rattle.conjunction.proofs.Stopping.{scan_place}
use Rattle.conjunction.proofs.check_form.Goals as goal

pub counted_from-requires : goal.counted_from-requires
counted_from-requires c = omega (arith, c.requires, scan_place _ _ _ _ c.scan.ensures _ c.in-Err.is)
