-- `evaluation::check_numbers` meets its contract. The loop's invariant: what is left to look at decides. Assumes nothing.
use mathlib.Core.Path.{◌≡◌}
use Prim.Native.Nat.{◌-◌}
use Rattle.forms.specs.Number.{numbers_stop}
use Rattle.evaluation.proofs.check_numbers.Given as goal

abbrev pub invariant-loop : goal.invariant-loop
invariant-loop l = numbers_stop l.width l.b 64 0 ≡ numbers_stop l.width l.b (64 - l.counter) l.at
