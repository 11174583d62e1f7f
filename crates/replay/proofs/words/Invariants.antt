-- `replay::words` meets its contract. Assumes nothing.
use Rattle.std.proofs.Common.{◌≤◌, length}
use Rattle.replay.proofs.words.Given as goal

abbrev pub invariant-loop-word : goal.invariant-loop-word
invariant-loop-word l = l.place ≤ length l.case
