-- `slices::copy` meets its contract. The loop's invariant is that of a copy partway.
-- Assumes nothing.
use Rattle.slices.proofs.Splice.{copying_start, copying_turn, copying_end}
use Rattle.slices.proofs.copy.Goals as goal

pub loop-i-init : goal.loop-i-init
loop-i-init g c = copying_start _ _ _

pub loop-i-preserved : goal.loop-i-preserved
loop-i-preserved g c = copying_turn c.loop-i.invariant c.requires _ c.index-src-i.result c.loop-i-test.true c.index-src-i.is

pub returns : goal.returns
returns g c = copying_end c.loop-i.invariant c.requires c.loop-i-test.false
