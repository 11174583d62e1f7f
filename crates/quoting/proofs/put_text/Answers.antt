-- `quoting::put_text` meets its contract. The loop's invariant: putting what is left, escaped, gives the same as putting the whole text.
-- Assumes nothing.
use native.Mathlib.Omega.{arith}
use Rattle.puts.proofs.Putting.{partway_start, partway_turn, partway_end, partway_length, puts_then}
use Rattle.quoting.proofs.Quoting.{escaped_from, escaped_end, all_short}
use Rattle.quoting.proofs.put_text.Goals as goal

pub loop-b-init : goal.loop-b-init
loop-b-init c = partway_start _ _ _

pub put_escaped-next-requires : goal.put_escaped-next-requires
put_escaped-next-requires c = omega (arith, c.loop-b.invariant.place, all_short c.args.bytes.now, c.put_byte-next.ensures.place, c.requires)

pub loop-b-preserved : goal.loop-b-preserved
loop-b-preserved c = partway_turn c.loop-b.invariant _ (escaped_from _ _ c.loop-b-test.true) c.put_escaped-next.ensures

pub put_byte-requires : goal.put_byte-requires
put_byte-requires c = omega (arith, c.loop-b.invariant.place, all_short c.args.bytes.now, c.put_byte-next.ensures.place, c.requires)

pub shape_of-out : goal.shape_of-out
shape_of-out c = omega (arith, c.put_byte.auto.out, partway_length c.loop-b.invariant, c.put_byte-next.auto.out)

pub returns : goal.returns
returns c = puts_then c.put_byte-next.ensures (puts_then (partway_end c.loop-b.invariant (escaped_end _ _ c.loop-b-test.false)) c.put_byte.ensures)
