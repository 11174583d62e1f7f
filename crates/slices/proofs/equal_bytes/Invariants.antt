-- `slices::equal_bytes` meets its contract. The loop's invariant: from the index on the texts are equal.
-- Assumes nothing.
use Rattle.std.proofs.Common.{◌≡◌, drop}
use Rattle.slices.proofs.equal_bytes.Given as goal

abbrev pub invariant-loop-i : goal.invariant-loop-i
invariant-loop-i l = drop l.i l.a ≡ drop l.i l.b
