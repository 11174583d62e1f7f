-- `puts::put_bytes` meets its contract. The loop's invariant: putting the bytes left gives the same as putting all of them.
-- Assumes nothing.
use lib.ListN.{drop}
use Rattle.puts.proofs.Putting.{Partway}
use Rattle.puts.proofs.put_bytes.Given as goal

abbrev pub invariant-loop-b : goal.invariant-loop-b
invariant-loop-b l = Partway l.initial.out l.at l.bytes l.out l.next (drop l.b-index l.bytes)
