-- `heads::check_sides` meets its contract. Assumes nothing.
use mathlib.Core.Path.{sym, ◌∙◌}
use Rattle.heads.proofs.Stopping.{the_words}
use Rattle.heads.proofs.check_sides.Goals as goal

pub returns : goal.returns
returns c = c.check_words.ensures ∙ the_words _ _ _ _ _ _ (sym c.in_ok-check_room.ensures) (sym c.is_table.ensures ∙ c.if-not-is_table.false)
    (sym c.is_table-2.ensures ∙ c.if-not-is_table-2.false) c.if-left-right-gt32.false c.if-left_name-gt255.false c.if-right_name-gt255.false
