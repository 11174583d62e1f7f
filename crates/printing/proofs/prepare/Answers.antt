-- `printing::prepare` meets its contract: the checks in document 01's order. Assumes nothing.
use mathlib.Core.Path.{sym}
use Rattle.printing.proofs.Calling.{mark_long, accepted}
use Rattle.printing.proofs.prepare.Goals as goal

pub slice_bounds-check_texts-end : goal.slice_bounds-check_texts-end
slice_bounds-check_texts-end c = mark_long _ _ (sym c.in_ok-check_room.ensures)

pub check_texts-requires : goal.check_texts-requires
check_texts-requires c = accepted _ _ (sym c.in_ok-check_room.ensures) _ c.scan.new.nodes _ c.in_ok-n.ensures
