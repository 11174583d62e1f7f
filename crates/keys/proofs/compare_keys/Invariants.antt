-- `keys::compare_keys` meets its contract. The loop's invariant: the order of the rows is the order of what is left of them.
-- Assumes nothing.
use mathlib.Core.Path.{◌≡◌}
use Rattle.keys.specs.Key.{key_order}
use Rattle.keys.proofs.Turns.{rest}
use Rattle.keys.proofs.compare_keys.Given as goal

abbrev pub invariant-loop-i : goal.invariant-loop-i
invariant-loop-i l = key_order l.columns l.stored l.first l.second ≡ rest l.columns l.stored l.first l.second l.i
