-- `quoting::put_text` meets its contract. The loop's invariant: putting what is left, escaped, gives the same as putting the whole text.
-- Assumes nothing.
use lib.ListN.{drop}
use Rattle.puts.proofs.Putting.{Partway}
use Rattle.quoting.specs.Quote.{escaped_all}
use Rattle.quoting.proofs.put_text.Given as goal

abbrev pub invariant-loop-b : goal.invariant-loop-b
invariant-loop-b l = Partway l.initial.out l.initial.next (escaped_all l.bytes) l.out l.next (escaped_all (drop l.b-index l.bytes))
