-- `replay_print::is_high` is safe: the text of a well-formed word lies inside the stored one. Assumes nothing.
use Rattle.display.proofs.Shown.{text_inside}
use Rattle.replay_print.proofs.is_high.Goals as goal

pub slice_bounds-has_high-end : goal.slice_bounds-has_high-end
slice_bounds-has_high-end c = text_inside c.args.stored.now _ c.if-word-ne2.false c.requires
