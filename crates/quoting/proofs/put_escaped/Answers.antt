-- `quoting::put_escaped` meets its contract. Assumes nothing.
use mathlib.Core.Path.{sym, ◌∙◌}
use Rattle.puts.proofs.Putting.{puts_then}
use Rattle.quoting.proofs.Quoting.{by_letter, by_number, by_itself}
use Rattle.quoting.proofs.put_escaped.Goals as goal

pub returns-then-letter-ne0 : goal.returns-then-letter-ne0
returns-then-letter-ne0 c = rw (by_letter _ _ c.letter_of-letter.ensures c.if-letter-ne0.true) (puts_then c.put_byte-next.ensures c.put_byte.ensures)

pub returns-then-is_control : goal.returns-then-is_control
returns-then-is_control c = rw (by_number _ _ c.letter_of-letter.ensures c.if-letter-ne0.false (sym c.is_control.ensures ∙ c.if-is_control.true)) c.put_control.ensures

pub returns : goal.returns
returns c = rw (by_itself _ _ c.letter_of-letter.ensures c.if-letter-ne0.false (sym c.is_control.ensures ∙ c.if-is_control.false)) c.put_byte-2.ensures
