-- `updating::update` meets its contract: what stops it in document 01's order, then all rows. Assumes nothing.
use mathlib.Core.Path.{◌≡◌, sym, ap, ◌∙◌}
use Prim.Native.Nat.{ℕ}
use native.Mathlib.Omega.{arith}
use lib.ListN.{length, length-replicate, take}
use Rattle.refusals.specs.Stop.{never}
use Rattle.refusals.proofs.First.{at_err}
use Rattle.keeping.proofs.Passing.{table_passed, passed_asks}
use Rattle.selecting.proofs.Calls.{Question, TableStop, PassedBy}
use Rattle.setting.specs.Sets.{are_sets}
use Rattle.updating.proofs.Calls.{TableFor, stored_length, update_sets, update_refused, update_asks, update_written}
use Rattle.updating.proofs.update.Goals as goal
use Rattle.updating.proofs.update.Goals.{In_ok-check_table}

-- what the call was lent; its list is the sets
abbrev asked : In_ok-check_table → Question
asked c = record { columns = c.args.columns.now; rows = c.args.rows.now; list = c.args.sets.now; condition = c.args.condition.now; text = c.args.text.now; out = c.args.out.now; used = c.args.used }

-- its table was passed
passed_table : (c : In_ok-check_table) → TableFor (asked c) ≡ never
passed_table c = ap (λ x. TableStop x (asked c)) (sym c.are_sets.ensures) ∙ sym c.in_ok-check_table.ensures

passed : (c : In_ok-check_table) → PassedBy (are_sets c.args.sets.now) (asked c)
passed c = table_passed _ _ _ _ _ _ (passed_table c)

-- its stored text ends at the mark
stored : (c : In_ok-check_table) → length (take c.args.used c.args.text.now) ≡ c.args.used
stored c = stored_length (asked c) (passed c)

pub check_sets-requires : goal.check_sets-requires
check_sets-requires c = (passed c).table.whole

pub returns-in_err-check_sets-clause-update_is : goal.returns-in_err-check_sets-clause-update_is
returns-in_err-check_sets-clause-update_is c =
    let d = (goal.at.returns-in_err-check_sets-clause-update_is c).In_ok-check_table in
    rw (at_err c.from_residual-in_err-check_sets.ensures.1) (update_sets (asked d) (passed_table d) _ (c.in_err-check_sets.ensures _ (stored d)))

pub nonzero_div-n : goal.nonzero_div-n
nonzero_div-n c = omega (arith, (passed (goal.at.nonzero_div-n c).In_ok-check_table).table.some)

pub mark_table-requires : goal.mark_table-requires
mark_table-requires c = passed_asks _ _ (passed (goal.at.mark_table-requires c).In_ok-check_table) (length-replicate {A = ℕ} 4096 0)

pub returns-in_err-mark_table-clause-update_is : goal.returns-in_err-mark_table-clause-update_is
returns-in_err-mark_table-clause-update_is c =
    let d = (goal.at.returns-in_err-mark_table-clause-update_is c).In_ok-check_table in
    rw (at_err c.from_residual-in_err-mark_table.ensures.1) (update_refused (asked d) (passed_table d) (sym (c.in_ok-check_sets.ensures _ (stored d))) _ _ _ _ c.in_err-mark_table.ensures)

pub write_all-requires : goal.write_all-requires
write_all-requires c =
    let d = (goal.at.write_all-requires c).In_ok-check_table in
    update_asks (asked d) (passed d) (sym (c.in_ok-check_sets.ensures _ (stored d))) _ (c.mark_table.auto.marks ∙ length-replicate {A = ℕ} 4096 0)

pub returns-clause-update_is : goal.returns-clause-update_is
returns-clause-update_is c =
    let d = (goal.at.returns-clause-update_is c).In_ok-check_table in
    update_written (asked d) (passed_table d) (sym (c.in_ok-check_sets.ensures _ (stored d))) _ _ _ _ c.in_ok-mark_table.ensures _ _ c.write_all.ensures
