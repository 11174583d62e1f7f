-- `quoting::put_control` meets its contract. Assumes nothing.
use native.Mathlib.Omega.{arith}
use Rattle.puts.proofs.Putting.{puts_then}
use Rattle.quoting.proofs.Quoting.{hex_short}
use Rattle.quoting.proofs.put_control.Goals as goal

pub put_byte-requires : goal.put_byte-requires
put_byte-requires c = omega (arith, c.put_hex-next.ensures.place, hex_short c.args.b, c.put_bytes-from.ensures.place, c.requires)

pub returns : goal.returns
returns c = puts_then c.put_bytes-from.ensures (puts_then c.put_hex-next.ensures c.put_byte.ensures)
