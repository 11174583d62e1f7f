-- The value of a condition as one word, which goes through registers. Assumes nothing: these are definitions.
use Rattle.std.specs.Prelude.{ℕ, ◌≡◌, List, length, get_or}
use Rattle.cells.specs.Cell.{WellFormed}
use Rattle.values.specs.Value.{value_of}
use Rattle.integers.specs.Outcome.{value}
use Rattle.operators.specs.declared.Rules.{Rules}
use Rattle.conditions.specs.Ast.{eval}
use Rattle.conditions.specs.Table.{node_of, row_of, tree_of, LiesAt, RowSound, Sound}

-- what is asked: a sound tree and a sound row, their texts inside the stored one
pub record Stands (depth k : ℕ) (nodes row stored : List ℕ) : Type 0 where
  pub sound : Sound (length stored) (length row) depth nodes k
  pub rows : RowSound (length stored) row

-- the word of what the tree at k comes to under any rules, and where its cell lies
pub record Found (depth k : ℕ) (nodes row stored : List ℕ) (r : ℕ) : Type 0 where
  pub means : (R : Rules) → eval R (row_of stored row) (tree_of stored depth nodes k) ≡ value (value_of stored r)
  pub within : WellFormed (length stored) r
  pub lies : (top : ℕ) → LiesAt top (node_of (get_or nodes k 0)) row r
