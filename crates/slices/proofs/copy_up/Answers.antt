-- `slices::copy_up` meets its contract.
-- Assumes nothing.
use Rattle.slices.proofs.Pieces.{wrote_within}
use Rattle.slices.proofs.copy_up.Goals as goal

pub returns : goal.returns
returns c = wrote_within _ _ _ c.requires.0 c.requires.1 c.copy_within.ensures.after
