-- `replay::output_is` meets its contract. The loop's invariant: what is left of the output tells whether rubbish follows the result. Assumes nothing.
use Rattle.std.proofs.Common.{◌≡◌, ◌-◌, length, drop}
use Rattle.slices.specs.Bytes.{same_bytes}
use Rattle.replay.specs.Compare.{rubbish_byte, rubbish_from, output_after}
use Rattle.replay.proofs.output_is.Given as goal

abbrev pub invariant-loop-i : goal.invariant-loop-i
invariant-loop-i l = same_bytes l.out (output_after (rubbish_byte l.rubbish) l.res (length l.out)) ≡ same_bytes (drop l.i l.out) (rubbish_from (rubbish_byte l.rubbish) l.i (length l.out - l.i))
