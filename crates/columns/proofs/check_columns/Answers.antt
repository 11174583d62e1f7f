-- `columns::check_columns` meets its contract. The loop's invariant: the columns are refused as those that are left. Assumes nothing.
use mathlib.Core.Path.{◌≡◌, sym, ◌∙◌}
use Prim.Native.Nat.{◌+◌, ◌*◌}
use native.Mathlib.Omega.{arith}
use native.Mathlib.Nat.{add-zero, add_assoc}
use Rattle.refusals.proofs.First.{handed_on, passed_by}
use Rattle.columns.proofs.Turns.{columns_turn, columns_end}
use Rattle.columns.proofs.check_columns.Goals as goal

pub loop-i-init : goal.loop-i-init
loop-i-init c = rw add-zero

pub returns-in_err-check_column : goal.returns-in_err-check_column
returns-in_err-check_column c = handed_on _ _ _ _ c.from_residual.ensures.1 c.in_err-check_column.ensures
    ∙ sym (c.loop-i.invariant ∙ columns_turn _ _ c.args.columns.now (2 * c.loop-i.i) (omega (arith, c.loop-i-test.true)))

pub loop-i-preserved : goal.loop-i-preserved
loop-i-preserved c = let e : 2 * c.loop-i.i + 2 ≡ 2 * (c.loop-i.i + 1) = omega arith in
    c.loop-i.invariant ∙ columns_turn _ _ c.args.columns.now (2 * c.loop-i.i) (omega (arith, c.loop-i-test.true)) ∙ passed_by _ _ c.in_ok-check_column.ensures
    ∙ (rw (add_assoc, e))

pub returns : goal.returns
returns c = sym (c.loop-i.invariant ∙ columns_end _ _ c.args.columns.now (2 * c.loop-i.i) (omega (arith, c.loop-i-test.false)))
