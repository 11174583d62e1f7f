-- AND and OR, and what a two-sided operator gives. Assumes nothing.
use mathlib.Core.Bool.{Bool, true, false, cond}
use Prim.Native.Nat.{ℕ}
use lib.Dec.{ltb}
use Rattle.values.specs.Value.{Value, to_bool, from_bool}
use Rattle.integers.specs.Outcome.{value}
use Rattle.operators.specs.Operator.{binary_of}
use Rattle.operators.specs.declared.Rules.{Rules}
use Rattle.operators.proofs.Holding.{Int32, Holds, holds_binary, holds_truth}
use Rattle.conditions.specs.Ast.{two_sided}

-- what a two-sided operator gives of values whose Ints have 32 bits, a cell can hold
pub holds_two_sided : (R : Rules) (op : ℕ) (v w : Value) → Int32 v → Int32 w → Holds R.limit (two_sided R op v w)
unfolding two_sided
holds_two_sided R op v w h k = go (ltb op 47)
  where
    go : (t : Bool) → Holds R.limit (cond t (binary_of R op v w) (value (from_bool (to_bool w))))
    go true = holds_binary R op v w h k
    go false = holds_truth R.limit (to_bool w)
