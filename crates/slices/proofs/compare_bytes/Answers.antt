-- `slices::compare_bytes` meets its contract: std's order of slices is that of texts.
-- Assumes nothing.
use Rattle.std.proofs.Common.{◌∙◌}
use Rattle.slices.proofs.Bytes.{slice_order}
use Rattle.slices.proofs.compare_bytes.Goals as goal

pub returns : goal.returns
returns c = c.cmp.ensures ∙ slice_order _ _
