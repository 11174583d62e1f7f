-- `postfix::write_little` meets its contract. The loop's invariant: i bytes are written, and rest is what is left of the number.
-- Assumes nothing.
use Rattle.postfix.proofs.Writing.{Writing}
use Rattle.postfix.proofs.write_little.Given as goal

abbrev pub invariant-loop-i : goal.invariant-loop-i
invariant-loop-i l = Writing l.n l.x l.initial.out l.at l.out l.rest l.i
