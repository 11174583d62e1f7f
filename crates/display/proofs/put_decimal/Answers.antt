-- `display::put_decimal` meets its contract. Assumes nothing.
use Rattle.puts.proofs.Putting.{puts_then}
use Rattle.display.proofs.Decimal.{decimal_low, decimal_high}
use Rattle.display.proofs.put_decimal.Goals as goal

pub returns-then-bits-lt2147483648 : goal.returns-then-bits-lt2147483648
returns-then-bits-lt2147483648 c = rw (decimal_low _ c.if-bits-lt2147483648.true) c.put_digits.ensures

pub returns : goal.returns
returns c = rw (decimal_high _ c.if-bits-lt2147483648.false c.requires.0) (puts_then c.put_byte-next.ensures c.put_digits-2.ensures)
