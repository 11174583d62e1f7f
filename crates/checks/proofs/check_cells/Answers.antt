-- `checks::check_cells` meets its contract. The loop's invariant: the cells are refused as those that are left. Assumes nothing.
use mathlib.Core.Path.{◌≡◌, sym, ap, ◌∙◌}
use Prim.Native.Nat.{suc, ◌+◌}
use native.Mathlib.Nat.{add-zero}
use lib.ListN.{drop}
use Rattle.refusals.proofs.First.{handed_on, passed_by}
use Rattle.checks.specs.Check.{cells_stop}
use Rattle.checks.proofs.Turns.{cells_turn, cells_end}
use native.Mathlib.Omega.{arith}
use Rattle.checks.proofs.check_cells.Goals as goal

pub loop-i-init : goal.loop-i-init
loop-i-init c = rw add-zero

pub returns-in_err-check_cell : goal.returns-in_err-check_cell
returns-in_err-check_cell c = handed_on _ _ _ _ c.from_residual.ensures.1 c.in_err-check_cell.ensures ∙ sym (c.loop-i.invariant ∙ cells_turn _ _ _ _ c.loop-i-test.true)

pub loop-i-preserved : goal.loop-i-preserved
loop-i-preserved c = let e : suc (c.args.place + c.loop-i.i) ≡ c.args.place + (c.loop-i.i + 1) = omega arith in
    c.loop-i.invariant ∙ cells_turn _ _ _ _ c.loop-i-test.true ∙ passed_by _ _ c.in_ok-check_cell.ensures
    ∙ ap (λ p. cells_stop c.args.used p (drop (c.loop-i.i + 1) c.args.words.now)) e

pub returns : goal.returns
returns c = sym (c.loop-i.invariant ∙ cells_end _ _ _ _ c.loop-i-test.false)
