-- `setting::apply_sets` meets its contract. The loop's invariant: applying the sets that are left gives the result. Assumes nothing.
use native.Mathlib.Omega.{arith}
use Rattle.setting.proofs.Setting.{applying_inside, applying_turn, applying_end}
use Rattle.setting.proofs.apply_sets.Goals as goal

pub offset_bounds-row-sets : goal.offset_bounds-row-sets
offset_bounds-row-sets c = omega (arith, applying_inside c.loop-k.invariant c.loop-k-test.true, c.loop-k.invariant.long, c.well_formed.1.0)

pub bounds-row-sets : goal.bounds-row-sets
bounds-row-sets c = applying_inside c.loop-k.invariant c.loop-k-test.true

pub loop-k-preserved : goal.loop-k-preserved
loop-k-preserved c = applying_turn c.loop-k.invariant c.loop-k-test.true

pub returns : goal.returns
returns c = applying_end c.loop-k.invariant c.loop-k-test.false
