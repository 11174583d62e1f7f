-- `setting::check_sets` meets its contract. The loop's invariant: the sets are refused as those that are left. Assumes nothing.
use mathlib.Core.Path.{sym, ◌∙◌}
use Rattle.refusals.proofs.First.{handed_on, passed_by}
use Rattle.setting.proofs.Setting.{sets_turn, sets_end}
use Rattle.setting.proofs.check_sets.Goals as goal

pub returns-in_err-check_set : goal.returns-in_err-check_set
returns-in_err-check_set c = λ stored l. handed_on _ _ _ _ c.from_residual.ensures.1 (c.in_err-check_set.ensures stored l) ∙ sym (c.loop-k.invariant stored l ∙ sets_turn _ stored _ _ _ c.loop-k-test.true)

pub loop-k-preserved : goal.loop-k-preserved
loop-k-preserved c = λ stored l. c.loop-k.invariant stored l ∙ sets_turn _ stored _ _ _ c.loop-k-test.true ∙ passed_by _ _ (c.in_ok-check_set.ensures stored l)

pub returns : goal.returns
returns c = λ stored l. sym (c.loop-k.invariant stored l ∙ sets_end _ stored _ _ _ c.loop-k-test.false)
