-- `naming::join_side` meets its contract. The loop's invariant: the words and the text so far, and then what is left of the side. Assumes nothing.
use Rattle.naming.proofs.Joining.{Joining}
use Rattle.naming.proofs.join_side.Given as goal

abbrev pub invariant-loop-i : goal.invariant-loop-i
invariant-loop-i l = Joining l.table l.columns l.nullable l.number l.used l.initial.text l.initial.words l.text l.words l.top l.i
