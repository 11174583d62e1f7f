-- `puts::put_bytes` meets its contract. The loop's invariant: putting the bytes left gives the same as putting all of them.
-- Assumes nothing.
use native.Mathlib.Omega.{arith}
use lib.ListN.{length-drop, drop_of_length-le}
use Rattle.puts.proofs.Putting.{partway_start, partway_turn, partway_end, partway_length, split_at}
use Rattle.puts.proofs.put_bytes.Goals as goal

pub loop-b-init : goal.loop-b-init
loop-b-init c = partway_start _ _ _

pub put_byte-next-requires : goal.put_byte-next-requires
put_byte-next-requires c = omega (arith, c.loop-b.invariant.place, c.requires, length-drop c.loop-b.b-index c.args.bytes.now)

pub loop-b-preserved : goal.loop-b-preserved
loop-b-preserved c = partway_turn c.loop-b.invariant _ (split_at _ _ c.loop-b-test.true) c.put_byte-next.ensures

pub shape_of-out : goal.shape_of-out
shape_of-out c = partway_length c.loop-b.invariant

pub returns : goal.returns
returns c = partway_end c.loop-b.invariant (drop_of_length-le _ c.loop-b-test.false)
