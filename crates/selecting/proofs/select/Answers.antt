-- `selecting::select` meets its contract: what stops it in document 01's order, then the true rows. Assumes nothing.
use mathlib.Core.Path.{sym, ◌∙◌}
use Prim.Native.Nat.{ℕ}
use native.Mathlib.Omega.{arith}
use lib.ListN.{length, length-replicate}
use lib.Dec.{leb}
use Rattle.keeping.proofs.Passing.{table_passed, passed_asks}
use Rattle.selecting.proofs.Calls.{Question, PassedBy, select_asks, select_written}
use Rattle.selecting.proofs.select.Goals as goal
use Rattle.selecting.proofs.select.Goals.{In_ok-check_table}

-- what the call was lent
abbrev asked : In_ok-check_table → Question
asked c = record { columns = c.args.columns.now; rows = c.args.rows.now; list = c.args.list.now; condition = c.args.condition.now; text = c.args.text.now; out = c.args.out.now; used = c.args.used }

-- its table was passed
passed : (c : In_ok-check_table) → PassedBy (leb (length c.args.list.now) 32) (asked c)
passed c = table_passed _ _ _ _ _ _ (sym c.in_ok-check_table.ensures)

pub nonzero_div-n : goal.nonzero_div-n
nonzero_div-n c = omega (arith, (passed (goal.at.nonzero_div-n c).In_ok-check_table).table.some)

pub mark_table-requires : goal.mark_table-requires
mark_table-requires c = passed_asks _ _ (passed (goal.at.mark_table-requires c).In_ok-check_table) (length-replicate {A = ℕ} 4096 0)

pub write_kept-requires : goal.write_kept-requires
write_kept-requires c =
    let d = (goal.at.write_kept-requires c).In_ok-check_table in
    select_asks (asked d) _ _ _ _ c.in_ok-k.ensures (passed d) (sym c.in_ok-check_list.ensures) (c.mark_table.auto.marks ∙ length-replicate {A = ℕ} 4096 0)

pub returns-clause-select_is : goal.returns-clause-select_is
returns-clause-select_is c =
    let d = (goal.at.returns-clause-select_is c).In_ok-check_table in
    select_written (asked d) _ _ _ _ c.in_ok-k.ensures (sym c.in_ok-check_table.ensures) (sym c.in_ok-check_list.ensures) _ _ c.write_kept.ensures
