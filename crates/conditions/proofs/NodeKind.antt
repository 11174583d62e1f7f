-- The node of a word, by the word's kind. Assumes nothing.
use mathlib.Core.Path.{◌≡◌}
use mathlib.Core.Bool.{Bool, true, false, cond}
use Prim.Native.Nat.{ℕ, ◌^◌, ◌/◌, ◌%◌, ◌≤◌, ◌<◌}
use native.Mathlib.Omega.{arith}
use lib.Dec.{ltb}
use borrow.Author.Tests.{lt-ltb, le-ltb}
use Rattle.conditions.specs.Table.{node_of}
use Rattle.conditions.specs.declared.Node.TheVariants.{Leaf, One, Two}

module _ (w : ℕ) where
  -- a kind below 16 is a leaf
  pub node_leaf : w / 2 ^ 56 < 16 → node_of w ≡ Leaf w
  unfolding node_of
  node_leaf h = rw (lt-ltb (w / 2 ^ 56) 16 h)

  -- the same, by the whole word
  pub node_low : w < 1152921504606846976 → node_of w ≡ Leaf w
  node_low h = node_leaf (omega (arith, h))

  -- one from 16 on and below 32 is a unary operator
  pub node_one : 16 ≤ w / 2 ^ 56 → w / 2 ^ 56 < 32 → node_of w ≡ One (w / 2 ^ 56)
  unfolding node_of
  node_one h k = rw (le-ltb (w / 2 ^ 56) 16 h, lt-ltb (w / 2 ^ 56) 32 k)

  -- one from 32 on is a two-sided operator, with the index of its left operand
  pub node_two : 32 ≤ w / 2 ^ 56 → node_of w ≡ Two (w / 2 ^ 56) (w % 2 ^ 56)
  unfolding node_of
  node_two h = rw (le-ltb (w / 2 ^ 56) 16 (omega arith), le-ltb (w / 2 ^ 56) 32 h)

-- the word of a leaf is the node's own
pub leaf_self : (x w : ℕ) → node_of x ≡ Leaf w → w ≡ x
unfolding node_of
leaf_self x w = by (ltb (x / 2 ^ 56) 16) (ltb (x / 2 ^ 56) 32)
  where
    by : (a b : Bool) → cond a (Leaf x) (cond b (One (x / 2 ^ 56)) (Two (x / 2 ^ 56) (x % 2 ^ 56))) ≡ Leaf w → w ≡ x
    by true b e = cc
    by false true e = absurd (let z : ◌≡◌ {A = ℕ} 0 1 = cc in omega arith)
    by false false e = absurd (let z : ◌≡◌ {A = ℕ} 0 1 = cc in omega arith)
