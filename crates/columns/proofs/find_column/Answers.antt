-- `columns::find_column` meets its contract. The loop's invariant is that of a search partway. Assumes nothing.
use mathlib.Core.Path.{◌≡◌, sym, subst, ◌∙◌}
use Prim.Native.Nat.{◌+◌, ◌*◌}
use native.Mathlib.Omega.{arith}
use native.Mathlib.Nat.{add-sub_cancel_left}
use Rattle.columns.proofs.Turns.{Searching, searching_start, searching_inside, searching_found, searching_turn, searching_end}
use Rattle.columns.proofs.find_column.Goals as goal

pub loop-number-init : goal.loop-number-init
loop-number-init c = searching_start _ _ _ c.requires

pub slice_bounds-equal_bytes-end : goal.slice_bounds-equal_bytes-end
slice_bounds-equal_bytes-end c = searching_inside _ _ _ _ _ c.loop-number.invariant (omega (arith, c.loop-number-test.true))

pub returns-then-equal_bytes : goal.returns-then-equal_bytes
returns-then-equal_bytes c = sym (searching_found _ _ _ _ _ c.loop-number.invariant (omega (arith, c.loop-number-test.true)) (sym (c.equal_bytes.ensures ∙ (rw add-sub_cancel_left)) ∙ c.if-equal_bytes.true))

pub loop-number-preserved : goal.loop-number-preserved
loop-number-preserved c = let e : 2 * c.loop-number.number + 2 ≡ 2 * (c.loop-number.number + 1) = omega arith in
    subst (λ i. Searching c.args.stored.now c.args.columns.now c.args.name.now i (c.loop-number.number + 1)) e
    (searching_turn _ _ _ _ _ c.loop-number.invariant (omega (arith, c.loop-number-test.true)) (sym (c.equal_bytes.ensures ∙ (rw add-sub_cancel_left)) ∙ c.if-equal_bytes.false))

pub returns : goal.returns
returns c = sym (searching_end _ _ _ _ _ c.loop-number.invariant (omega (arith, c.loop-number-test.false)))
