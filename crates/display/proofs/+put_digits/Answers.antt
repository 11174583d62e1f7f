-- `display::put_digits` meets its contract, by recursion: one digit fewer in each deeper call. Assumes nothing.
use Prim.Native.Nat.{◌-◌, ◌/◌}
use native.Mathlib.Omega.{arith}
use Rattle.puts.proofs.Putting.{puts_none, puts_then}
use Rattle.display.proofs.Decimal.{digits_none, digits_one, digits_more, digits_short}
use Rattle.display.proofs.+put_digits.Goals as goal

pub returns-then-most-eq0 : goal.returns-then-most-eq0
returns-then-most-eq0 t c = rw (digits_none _ c.args.n c.if-most-eq0.true) (puts_none _ _)

pub returns-then-n-lt10 : goal.returns-then-n-lt10
returns-then-n-lt10 t c = rw (digits_one _ c.args.n c.if-most-eq0.false c.if-n-lt10.true) c.put_byte.ensures

pub put_digits-next-requires : goal.put_digits-next-requires
put_digits-next-requires t c = (omega (arith, c.decreases), omega (arith, c.requires))

pub put_byte-requires-2 : goal.put_byte-requires-2
put_byte-requires-2 t c = omega (arith, c.put_digits-next.ensures.place, digits_short (c.args.most - 1) (c.args.n / 10), c.requires)

pub returns : goal.returns
returns t c = rw (digits_more _ c.args.n c.if-most-eq0.false c.if-n-lt10.false) (puts_then c.put_digits-next.ensures c.put_byte-2.ensures)
