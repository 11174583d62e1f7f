-- The tree that a table of nodes denotes, by its last node, and what a walk over the table needs of it. Assumes nothing.
use mathlib.Core.Path.{◌≡◌, sym, ap, subst, ◌∙◌}
use mathlib.Core.List.{List}
use Prim.Native.Nat.{ℕ, ◌+◌, ◌-◌, ◌≤◌, ◌<◌, max}
use native.Mathlib.Omega.{arith}
use lib.ListN.{get_or}
use Rattle.conditions.specs.Ast.{Tree, leaf, unary, binary, size, height, joins}
use Rattle.conditions.specs.Table.{node_of}
use Rattle.conditions.specs.declared.Node.{Node}
use Rattle.conditions.specs.declared.Node.TheVariants.{Leaf, One, Two}
use Rattle.forms.specs.Held.{LeafHeld, Denotes}

-- two leaves of one node have the same word
same_word : {w x : ℕ} {n : Node} → n ≡ Leaf w → n ≡ Leaf x → w ≡ x
same_word e f = cc

module _ (used k : ℕ) (nodes : List ℕ) where
  -- where a leaf stands, the tree is that leaf
  pub leaf_at : (t : Tree ℕ) (w : ℕ) → Denotes used nodes k t → node_of (get_or nodes k 0) ≡ Leaf w → (t ≡ leaf w) × LeafHeld used w
  unfolding Denotes
  leaf_at (leaf x) w d e = let q : x ≡ w = same_word d.0 e in (ap (λ y. leaf y) q, subst (LeafHeld used) q d.1)
  leaf_at (unary op a) w d e = absurd (let f : One op ≡ Leaf w = sym d.0 ∙ e in let z : ◌≡◌ {A = ℕ} 0 1 = cc in omega arith)
  leaf_at (binary op a b) w d e = absurd (let f : Two op d.0 ≡ Leaf w = sym d.1 ∙ e in let z : ◌≡◌ {A = ℕ} 0 1 = cc in omega arith)

  -- the operand of a unary operator
  pub record OneAt (op : ℕ) (t : Tree ℕ) : Type 0 where
    pub only : Tree ℕ
    pub whole : t ≡ unary op only
    pub known : (16 ≤ op) × (op < 19)
    pub below : 0 < k
    pub denotes : Denotes used nodes (k - 1) only

  -- where a unary operator stands, the tree is that operator over its operand
  pub one_at : (t : Tree ℕ) (op : ℕ) → Denotes used nodes k t → node_of (get_or nodes k 0) ≡ One op → OneAt op t
  unfolding Denotes
  one_at (leaf x) op d e = absurd (let f : Leaf x ≡ One op = sym d.0 ∙ e in let z : ◌≡◌ {A = ℕ} 0 1 = cc in omega arith)
  one_at (unary o a) op d e =
      let f : One o ≡ One op = sym d.0 ∙ e in
      let q : o ≡ op = cc in
      record { only = a; whole = ap (λ y. unary y a) q; known = subst (λ y. (16 ≤ y) × (y < 19)) q d.1; below = d.2; denotes = d.3 }
  one_at (binary o a b) op d e = absurd (let f : Two o d.0 ≡ One op = sym d.1 ∙ e in let z : ◌≡◌ {A = ℕ} 0 1 = cc in omega arith)

  -- the operands of a two-sided one
  pub record TwoAt (op l : ℕ) (t : Tree ℕ) : Type 0 where
    pub left : Tree ℕ
    pub right : Tree ℕ
    pub whole : t ≡ binary op left right
    pub known : (32 ≤ op) × (op < 50)
    pub below : l < k
    pub left_denotes : Denotes used nodes l left
    pub right_denotes : Denotes used nodes (k - 1) right

  -- where a two-sided operator stands, the tree is that operator over its operands
  pub two_at : (t : Tree ℕ) (op l : ℕ) → Denotes used nodes k t → node_of (get_or nodes k 0) ≡ Two op l → TwoAt op l t
  unfolding Denotes
  two_at (leaf x) op l d e = absurd (let f : Leaf x ≡ Two op l = sym d.0 ∙ e in let z : ◌≡◌ {A = ℕ} 0 1 = cc in omega arith)
  two_at (unary o a) op l d e = absurd (let f : One o ≡ Two op l = sym d.0 ∙ e in let z : ◌≡◌ {A = ℕ} 0 1 = cc in omega arith)
  two_at (binary o a b) op l d e =
      let f : Two o d.0 ≡ Two op l = sym d.1 ∙ e in
      let q : o ≡ op = cc in
      let p : d.0 ≡ l = cc in
      record {
        left = a;
        right = b;
        whole = ap (λ y. binary y a b) q;
        known = subst (λ y. (32 ≤ y) × (y < 50)) q d.2;
        below = subst (λ y. y < k) p d.3;
        left_denotes = subst (λ y. Denotes used nodes y a) p d.4;
        right_denotes = d.5;
      }

-- ---- what a walk counts

-- a leaf is one node
pub leaf_size : {t : Tree ℕ} {w : ℕ} → t ≡ leaf w → size t ≡ 1
unfolding size
leaf_size e = ap size e

module _ {used k op : ℕ} {nodes : List ℕ} {t : Tree ℕ} (one : OneAt used k nodes op t) where
  -- one node more than the operand
  pub one_size : size t ≡ size one.only + 1
  unfolding size
  one_size = ap size one.whole

  -- one higher than it
  pub one_height : height t ≡ height one.only + 1
  unfolding height
  one_height = ap height one.whole

  -- no two-sided operator more
  pub one_joins : joins t ≡ joins one.only
  unfolding joins
  one_joins = ap joins one.whole

module _ {used k op l : ℕ} {nodes : List ℕ} {t : Tree ℕ} (two : TwoAt used k nodes op l t) where
  -- the right operand stands before the operator
  pub right_below : 0 < k
  right_below = omega (arith, two.below)

  -- one node more than both operands
  pub two_size : size t ≡ size two.left + size two.right + 1
  unfolding size
  two_size = ap size two.whole

  -- one higher than the higher
  pub two_height : height t ≡ max (height two.left) (height two.right) + 1
  unfolding height
  two_height = ap height two.whole

  -- one two-sided operator more than both
  pub two_joins : joins t ≡ joins two.left + joins two.right + 1
  unfolding joins
  two_joins = ap joins two.whole
