-- `keys::earlier` meets its contract. Assumes nothing.
use mathlib.Core.Path.{sym, ◌∙◌}
use lib.Seq.{length-take-le}
use Rattle.keys.proofs.Stopping.{nothing_given, one_given, inside, comparable}
use Rattle.keys.proofs.earlier.Goals as goal

pub returns-in_default : goal.returns-in_default
returns-in_default c = nothing_given _ _ _ _ _ c.in_default.field-0 (sym c.in_default.ensures)

pub slice_bounds-earlier_row-end : goal.slice_bounds-earlier_row-end
slice_bounds-earlier_row-end c = sym (length-take-le _ _ (inside _ _ _ _ _ (sym c.in-Ok.ensures)))

pub earlier_row-requires : goal.earlier_row-requires
earlier_row-requires c = comparable _ _ _ _ _ (sym c.in-Ok.ensures)

pub returns : goal.returns
returns c = c.earlier_row.ensures ∙ one_given _ _ _ _ _ (sym c.in-Ok.ensures)
