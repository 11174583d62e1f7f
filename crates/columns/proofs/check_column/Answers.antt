-- `columns::check_column` meets its contract. Assumes nothing.
use mathlib.Core.Path.{◌≡◌, sym, ◌∙◌}
use mathlib.Core.Bool.{true, false}
use Rattle.rules.specs.Rule.{is_rule}
use Rattle.refusals.proofs.First.{handed_on, passed_by}
use Rattle.columns.specs.Column.{column_stop}
use Rattle.columns.proofs.check_column.Goals as goal

pub returns-in_err-check_name : goal.returns-in_err-check_name
unfolding column_stop
returns-in_err-check_name c = handed_on _ _ _ _ c.from_residual.ensures.1 c.in_err-check_name.ensures

pub returns-then-not-is_rule : goal.returns-then-not-is_rule
unfolding column_stop
returns-then-not-is_rule c = let e : is_rule c.args.rule ≡ false = sym c.is_rule.ensures ∙ c.if-not-is_rule.true in
    sym (passed_by _ _ c.in_ok-check_name.ensures ∙ (rw e))

pub returns : goal.returns
unfolding column_stop
returns c = let e : is_rule c.args.rule ≡ true = sym c.is_rule.ensures ∙ c.if-not-is_rule.false in
    sym (passed_by _ _ c.in_ok-check_name.ensures ∙ (rw e))
