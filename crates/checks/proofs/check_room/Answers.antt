-- `checks::check_room` meets its contract. Assumes nothing.
use Prim.Native.Nat.{◌+◌}
use borrow.Author.Tests.{lt-ltb, le-ltb}
use Rattle.checks.specs.Check.{room_stop}
use native.Mathlib.Omega.{arith}
use Rattle.checks.proofs.check_room.Goals as goal

pub returns-then-size-gt65536 : goal.returns-then-size-gt65536
unfolding room_stop
returns-then-size-gt65536 c = rw (lt-ltb _ _ c.if-size-gt65536.true)

pub returns-then-size-used : goal.returns-then-size-used
unfolding room_stop
returns-then-size-used c = rw (le-ltb _ _ c.if-size-gt65536.false, lt-ltb _ _ c.if-size-used.true)

pub returns-then-size-used-2 : goal.returns-then-size-used-2
unfolding room_stop
returns-then-size-used-2 c = rw (le-ltb _ _ c.if-size-gt65536.false, le-ltb _ _ c.if-size-used.false, lt-ltb c.args.size (c.args.used + c.args.needed) (omega arith))

pub returns : goal.returns
unfolding room_stop
returns c = rw (le-ltb _ _ c.if-size-gt65536.false, le-ltb _ _ c.if-size-used.false, le-ltb c.args.size (c.args.used + c.args.needed) (omega arith))
