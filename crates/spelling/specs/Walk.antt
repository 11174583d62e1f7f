-- What the walk over the table of nodes asks. Assumes nothing: these are definitions.
use Rattle.std.specs.Prelude.{ℕ, ◌+◌, ◌*◌, ◌^◌, ◌≤◌, ◌<◌, ◌≡◌, List, length, get_or}
use Rattle.conditions.specs.Ast.{Tree, size, height}
use Rattle.conditions.specs.Table.{node_of}
use Rattle.conditions.specs.declared.Node.TheVariants.{Two}
use Rattle.forms.specs.Held.{Denotes}

-- a tree stands at k, at most so deep, and no place of its printed text overflows: a node takes at most 400,000 bytes
pub record PrintAsks (stored nodes : List ℕ) (k depth at : ℕ) (t : Tree ℕ) : Type 0 where
  pub denotes : Denotes (length stored) nodes k t
  pub deep : height t ≤ depth
  pub inside : k < length nodes
  pub room : at + 400000 * size t < 2 ^ 63

-- the same where a two-sided operator stands at k, its left operand at l
abbrev pub OperatorAsks : (stored nodes : List ℕ) (op l k depth at : ℕ) → Tree ℕ → Type 0
OperatorAsks stored nodes op l k depth at t = (node_of (get_or nodes k 0) ≡ Two op l) × PrintAsks stored nodes k depth at t
