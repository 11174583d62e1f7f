-- `updating::write_updated` meets its contract. The loop's invariant: writing what is left at the place reached gives the result. Assumes nothing.
use Rattle.projecting.proofs.Turns.{writing_end}
use Rattle.setting.proofs.Rows.{all_room, turn_asks, turn_wrote}
use Rattle.updating.proofs.write_updated.Goals as goal

pub write_row-at-requires : goal.write_row-at-requires
write_row-at-requires c = turn_asks c.requires.0 _ c.requires.1 c.loop-i.invariant c.loop-i-test.true

pub loop-i-preserved : goal.loop-i-preserved
loop-i-preserved c = turn_wrote c.requires.0 _ c.requires.1 c.loop-i.invariant c.loop-i-test.true _ _ c.write_row-at.ensures

pub returns : goal.returns
returns c = writing_end _ _ _ _ _ _ _ c.loop-i.invariant (all_room c.requires.0 c.args.out.now c.requires.1) c.loop-i-test.false
