-- One step down a sound tree: what holds of it by the node that it stands on. Assumes nothing.
use mathlib.Core.Path.{◌≡◌, ◌∙◌}
use mathlib.Core.List.{List}
use Prim.Native.Nat.{ℕ, zero, suc, ◌-◌, ◌≤◌, ◌<◌}
use native.Mathlib.Omega.{arith}
use native.Mathlib.Numerals.{sub-one}
use lib.ListN.{length, get_or}
use Rattle.conditions.specs.Ast.{leaf, unary, binary}
use Rattle.conditions.specs.Table.{node_of, leaf_of, grow, tree_of, LeafSound, SoundAt, Sound}
use Rattle.conditions.specs.declared.Node.TheVariants.{Leaf, One, Two}

-- a sound tree has a depth left, stands in the table, and is sound at its node
sound_step : (used width d : ℕ) (nodes : List ℕ) (k : ℕ) → Sound used width d nodes k
    → (0 < d) × (k < length nodes) × SoundAt used width (node_of (get_or nodes k 0)) (Sound used width (d - 1) nodes) k
unfolding Sound
sound_step used width zero nodes k s = absurd s
sound_step used width (suc d) nodes k s = (omega arith, s.0, rw (sub-one (suc d)) s.1)

-- a tree is its node over the trees below it
tree_step : (base : List ℕ) (d : ℕ) (nodes : List ℕ) (k : ℕ) → 0 < d → tree_of base d nodes k ≡ grow base (node_of (get_or nodes k 0)) (tree_of base (d - 1) nodes) k
unfolding tree_of
tree_step base zero nodes k h = absurd (omega arith)
tree_step base (suc d) nodes k h = rw (sub-one (suc d))

-- a known unary operator over a sound tree before it
pub record OneSound (used width d k : ℕ) (nodes : List ℕ) (op : ℕ) : Type 0 where
  pub known : (16 ≤ op) × (op < 19)
  pub below : 0 < k
  pub only : Sound used width (d - 1) nodes (k - 1)
  pub tree : (base : List ℕ) → tree_of base d nodes k ≡ unary op (tree_of base (d - 1) nodes (k - 1))

-- a known two-sided operator over two sound trees before it
pub record TwoSound (used width d k : ℕ) (nodes : List ℕ) (op l : ℕ) : Type 0 where
  pub known : (32 ≤ op) × (op < 50)
  pub left_below : l < k
  pub right_below : 0 < k
  pub left : Sound used width (d - 1) nodes l
  pub right : Sound used width (d - 1) nodes (k - 1)
  pub tree : (base : List ℕ) → tree_of base d nodes k ≡ binary op (tree_of base (d - 1) nodes l) (tree_of base (d - 1) nodes (k - 1))

module _ (used width d k : ℕ) (nodes : List ℕ) (S : Sound used width d nodes k) where
  -- a sound tree stands in the table
  pub in_table : k < length nodes
  in_table = (sound_step used width d nodes k S).1

  -- a walk may go one deeper
  pub deep : 0 < d
  deep = (sound_step used width d nodes k S).0

  -- the tree is sound at its node
  at_node : SoundAt used width (node_of (get_or nodes k 0)) (Sound used width (d - 1) nodes) k
  at_node = (sound_step used width d nodes k S).2

  -- where a leaf stands, its word is sound and the tree is that leaf
  pub sound_leaf : {w : ℕ} → node_of (get_or nodes k 0) ≡ Leaf w → LeafSound used width w × ((base : List ℕ) → tree_of base d nodes k ≡ leaf (leaf_of base w))
  sound_leaf e = ((rw e at at_node), λ base. tree_step base d nodes k deep ∙ rw e)

  -- where a unary operator stands, its operand is sound too
  pub sound_one : {op : ℕ} → node_of (get_or nodes k 0) ≡ One op → OneSound used width d k nodes op
  sound_one {op} e =
      let h : ((16 ≤ op) × (op < 19)) × (0 < k) × Sound used width (d - 1) nodes (k - 1) = rw e at at_node in
      record { known = h.0; below = h.1; only = h.2; tree = λ base. tree_step base d nodes k deep ∙ rw e }

  -- where a two-sided operator stands, its operands are sound too
  pub sound_two : {op l : ℕ} → node_of (get_or nodes k 0) ≡ Two op l → TwoSound used width d k nodes op l
  sound_two {op} {l} e =
      let h : ((32 ≤ op) × (op < 50)) × (l < k) × Sound used width (d - 1) nodes l × Sound used width (d - 1) nodes (k - 1) = rw e at at_node in
      record { known = h.0; left_below = h.1; right_below = omega (arith, h.1); left = h.2; right = h.3; tree = λ base. tree_step base d nodes k deep ∙ rw e }
