-- `projecting::project` meets its contract. The loop's invariant is that of a copy partway. Assumes nothing.
use native.Mathlib.Omega.{arith}
use Rattle.projecting.proofs.Listing.{list_sound, project_turn, project_end}
use Rattle.projecting.proofs.project.Goals as goal

pub offset_bounds-row-column : goal.offset_bounds-row-column
offset_bounds-row-column c = omega (arith, list_sound _ _ _ c.requires.0 _ c.loop-i-test.true, c.well_formed.0)

pub bounds-row-column : goal.bounds-row-column
bounds-row-column c = list_sound _ _ _ c.requires.0 _ c.loop-i-test.true

pub loop-i-preserved : goal.loop-i-preserved
loop-i-preserved c = project_turn c.args.list.now c.args.row.now _ _ c.if-list-eq0.false c.requires.1 _ _ c.loop-i.invariant c.loop-i-test.true

pub returns : goal.returns
returns c = project_end c.args.list.now c.args.row.now _ _ c.if-list-eq0.false c.requires.1 _ _ c.loop-i.invariant c.loop-i-test.false
