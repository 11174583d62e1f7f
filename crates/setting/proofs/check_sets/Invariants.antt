-- `setting::check_sets` meets its contract. The loop's invariant: the sets are refused as those that are left. Assumes nothing.
use mathlib.Core.Path.{◌≡◌}
use mathlib.Core.List.{List}
use Prim.Native.Nat.{ℕ, ◌*◌}
use lib.ListN.{length, drop}
use Rattle.setting.specs.Sets.{sets_stop}
use Rattle.setting.proofs.check_sets.Given as goal

abbrev pub invariant-loop-k : goal.invariant-loop-k
invariant-loop-k l = (stored : List ℕ) → length stored ≡ l.used → sets_stop l.used stored l.columns 0 l.sets ≡ sets_stop l.used stored l.columns l.k (drop (2 * l.k) l.sets)
