-- `slices::equal_bytes` meets its contract. The loop's invariant: from the index on the texts are equal.
-- Assumes nothing.
use Rattle.std.proofs.Common.{sym, arith}
use Rattle.slices.proofs.Bytes.{same_length, ends_alike, differ_before, agree_before, all_agree}
use Rattle.slices.proofs.equal_bytes.Goals as goal

pub returns-then-a-b : goal.returns-then-a-b
returns-then-a-b c = sym (same_length _ _ c.if-a-b.true)

pub loop-i-init : goal.loop-i-init
loop-i-init c = ends_alike c.args.a.now c.args.b.now c.if-a-b.false

pub returns-then-a-i : goal.returns-then-a-i
returns-then-a-i c = sym (differ_before _ _ c.loop-i.i c.if-a-i.true)

pub loop-i-preserved : goal.loop-i-preserved
loop-i-preserved c = agree_before _ _ c.loop-i.i c.loop-i-test.true c.loop-i.auto.i (omega (arith, c.loop-i.auto.i, c.if-a-b.false)) c.if-a-i.false c.loop-i.invariant

pub returns : goal.returns
returns c = sym (all_agree _ _ _ c.loop-i-test.false c.loop-i.invariant)
