-- `quoting::put_hex` meets its contract. Assumes nothing.
use Rattle.puts.proofs.Putting.{puts_then}
use Rattle.quoting.proofs.Quoting.{hex_one, hex_two}
use Rattle.quoting.proofs.put_hex.Goals as goal

pub returns-then-b-lt16 : goal.returns-then-b-lt16
returns-then-b-lt16 c = rw (hex_one _ c.if-b-lt16.true, ← c.hex_digit.ensures) c.put_byte.ensures

pub returns : goal.returns
returns c = rw (hex_two _ c.if-b-lt16.false, ← c.hex_digit-2.ensures, ← c.hex_digit-3.ensures) (puts_then c.put_byte-next.ensures c.put_byte-2.ensures)
