-- `selecting::delete` meets its contract: what stops it in document 01's order, then the other rows. Assumes nothing.
use mathlib.Core.Path.{sym, ◌∙◌}
use mathlib.Core.Bool.{true}
use mathlib.Core.List.{[]}
use Prim.Native.Nat.{ℕ}
use native.Mathlib.Omega.{arith}
use lib.ListN.{length-replicate}
use Rattle.keeping.proofs.Passing.{table_passed, passed_asks}
use Rattle.selecting.proofs.Calls.{Question, PassedBy, delete_some, delete_asks, delete_written}
use Rattle.selecting.proofs.delete.Goals as goal
use Rattle.selecting.proofs.delete.Goals.{In_ok-check_table}

-- what the call was lent; it was lent no list
abbrev asked : In_ok-check_table → Question
asked c = record { columns = c.args.columns.now; rows = c.args.rows.now; list = []; condition = c.args.condition.now; text = c.args.text.now; out = c.args.out.now; used = c.args.used }

-- its table was passed
passed : (c : In_ok-check_table) → PassedBy true (asked c)
passed c = table_passed _ _ _ _ _ _ (sym c.in_ok-check_table.ensures)

pub nonzero_div-n : goal.nonzero_div-n
nonzero_div-n c = omega (arith, (passed c).table.some)

pub mark_table-requires : goal.mark_table-requires
mark_table-requires c = passed_asks _ _ (passed (goal.at.mark_table-requires c).In_ok-check_table) (length-replicate {A = ℕ} 4096 0)

pub overflow_sub-n : goal.overflow_sub-n
overflow_sub-n c = delete_some (asked (goal.at.overflow_sub-n c).In_ok-check_table) _ _ _ _ c.in_ok-k.ensures

pub write_kept-requires : goal.write_kept-requires
write_kept-requires c =
    let d = (goal.at.write_kept-requires c).In_ok-check_table in
    delete_asks (asked d) _ _ _ _ c.in_ok-k.ensures (passed d) (c.mark_table.auto.marks ∙ length-replicate {A = ℕ} 4096 0)

pub returns-clause-delete_is : goal.returns-clause-delete_is
returns-clause-delete_is c =
    delete_written (asked (goal.at.returns-clause-delete_is c).In_ok-check_table) _ _ _ _ c.in_ok-k.ensures (sym c.in_ok-check_table.ensures) _ _ c.write_kept.ensures
