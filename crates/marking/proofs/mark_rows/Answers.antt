-- `marking::mark_rows` meets its contract. The loop's invariant: what is left of the rows says the rest. Assumes nothing.
use Prim.Native.Nat.{◌+◌}
use native.Mathlib.Omega.{arith}
use lib.ListN.{set}
use Rattle.refusals.proofs.First.{at_err}
use Rattle.marking.proofs.Marking.{MarkLoop, loop_end, row_asks, loop_turn, loop_refused, loop_alone}
use Rattle.marking.proofs.mark_rows.Goals as goal

pub mark_row-requires : goal.mark_row-requires
mark_row-requires c = (c.requires.0, row_asks _ _ _ _ _ _ _ _ c.loop-i.invariant c.loop-i-test.true _ c.requires.1)

pub returns-in_err-mark : goal.returns-in_err-mark
returns-in_err-mark c = record {
  by_index = λ b A. rw (at_err c.from_residual.ensures.1) (loop_refused _ _ _ _ _ _ _ _ c.loop-i.invariant c.loop-i-test.true _ c.mark_row.auto.text _ c.in_err-mark.ensures b A);
  text_unchanged = loop_alone _ _ _ _ _ _ _ _ c.loop-i.invariant c.loop-i-test.true _ _ c.in_err-mark.ensures _ c.requires.1;
}

pub overflow_add-k : goal.overflow_add-k
overflow_add-k c =
    let again : MarkLoop c.args.count c.args.used c.args.n c.args.width c.args.nodes.now c.args.rows.now c.args.text.now c.args.marks.now c.mark_row.new.text (set c.loop-i.marks c.loop-i.i c.in_ok-mark.mark) (c.loop-i.k + c.in_ok-mark.mark) (c.loop-i.i + 1) = loop_turn _ _ _ _ _ _ _ _ c.loop-i.invariant c.loop-i-test.true _ c.mark_row.auto.text _ c.requires.1 _ c.in_ok-mark.ensures in
    omega (arith, (again.marking _ c.requires.1).few, c.requires.1.table.few)

pub loop-i-preserved : goal.loop-i-preserved
loop-i-preserved c = loop_turn _ _ _ _ _ _ _ _ c.loop-i.invariant c.loop-i-test.true _ c.mark_row.auto.text _ c.requires.1 _ c.in_ok-mark.ensures

pub returns : goal.returns
returns c = record {
  by_index = loop_end _ _ _ _ _ _ _ _ c.loop-i.invariant c.loop-i-test.false;
  text_unchanged = c.loop-i.invariant.alone;
}
