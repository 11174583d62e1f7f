-- A stack of trees with their cells, and the laws of pushing a leaf and of joining two trees by an operator. Assumes nothing.
use mathlib.Core.Path.{◌≡◌, sym, subst}
use mathlib.Core.List.{List, [], ◌∷◌}
use Prim.Native.Nat.{ℕ, ◌+◌, ◌-◌, ◌≤◌, ◌<◌}
use native.Mathlib.Omega.{arith}
use lib.ListN.{length, get_or, set}
use lib.Seq.{get_or-set_same, get_or-set_other}
use Rattle.std.specs.Prelude.{Some}
use Rattle.cells.specs.Cell.{WellFormed}
use Rattle.values.specs.Value.{value_of}
use Rattle.integers.specs.Outcome.{value}
use Rattle.operators.specs.declared.Rules.{Rules}
use Rattle.conditions.specs.Ast.{Tree, leaf, binary, map_tree, eval, height}
use Rattle.conditions.specs.Table.{leaf_of, row_of, LeafIs}
use Rattle.wordwise.specs.Settled.{Settled, on_both}
use Rattle.wordwise.proofs.Worth.{Worth, worth, holds_both}

-- a tree at most so deep, and the cell that it comes to
pub record Valued (stored row : List ℕ) (deep : ℕ) (t : Tree ℕ) (w : ℕ) : Type 0 where
  pub low : height t ≤ deep
  pub means : (R : Rules) → eval R (row_of stored row) (map_tree (leaf_of stored) t) ≡ value (value_of stored w)
  pub fine : WellFormed (length stored) w

-- n words, from the second on, are the cells of a stack of trees, the top one last
unfoldable pub Stacked : (stored row stack : List ℕ) (deep n : ℕ) → List (Tree ℕ) → Type 0
Stacked stored row stack deep n [] = n ≡ 0
Stacked stored row stack deep n (t ∷ s) = (0 < n) × Valued stored row deep t (get_or stack n 0) × Stacked stored row stack deep (n - 1) s

-- the same with the top one beside it
unfoldable pub Topped : (stored row stack : List ℕ) (top deep n : ℕ) → List (Tree ℕ) → Type 0
Topped stored row stack top deep n [] = n ≡ 0
Topped stored row stack top deep n (t ∷ s) = (0 < n) × Valued stored row deep t top × Stacked stored row stack deep (n - 1) s

-- ---- trees and their cells

module _ (stored row : List ℕ) (deep : ℕ) where
  pub valued_leaf : (w r : ℕ) → 1 ≤ deep → LeafIs (length stored) w row r → Valued stored row deep (leaf w) r
  unfolding height map_tree
  valued_leaf w r h l = record { low = h; means = λ R. l.means R stored; fine = l.within }

  pub valued_two : (op : ℕ) (t u : Tree ℕ) (a b r : ℕ) → Valued stored row deep t a → Valued stored row deep u b
      → ((R : Rules) → Settled (Some r) (on_both R op (value_of stored a) (value_of stored b))) → Valued stored row (deep + 1) (binary op t u) r
  unfolding height map_tree eval on_both
  valued_two op t u a b r A B s =
      let is : (R : Rules) → Worth stored r (on_both R op (value_of stored a) (value_of stored b)) = λ R. worth stored R.limit r _ (holds_both R op stored a b) (s R) in
      record {
        low = omega (arith, A.low, B.low);
        means = λ R. rw (A.means R, B.means R) (is R).means;
        fine = (is (record { limit = 0 })).within;
      }

  valued_more : (t : Tree ℕ) (w : ℕ) → Valued stored row deep t w → Valued stored row (deep + 1) t w
  valued_more t w v = record { low = omega (arith, v.low); means = v.means; fine = v.fine }

  pub stacked_more : (stack : List ℕ) (n : ℕ) (s : List (Tree ℕ)) → Stacked stored row stack deep n s → Stacked stored row stack (deep + 1) n s
  unfolding Stacked
  stacked_more stack n [] d = d
  stacked_more stack n (t ∷ s) d = (d.0, valued_more t (get_or stack n 0) d.1, stacked_more stack (n - 1) s d.2)

  -- a store above changes nothing
  stacked_set : (stack : List ℕ) (i w n : ℕ) (s : List (Tree ℕ)) → n < i → Stacked stored row stack deep n s → Stacked stored row (set stack i w) deep n s
  unfolding Stacked
  stacked_set stack i w n [] h d = d
  stacked_set stack i w n (t ∷ s) h d = (
    d.0,
    subst (Valued stored row deep t) (sym (get_or-set_other stack i n w 0 (omega arith))) d.1,
    stacked_set stack i w (n - 1) s (omega arith) d.2,
  )

  -- the top one goes below a new one
  below_new : (stack : List ℕ) (top n : ℕ) (s : List (Tree ℕ)) → n < length stack → Topped stored row stack top deep n s → Stacked stored row (set stack n top) deep n s
  unfolding Stacked Topped
  below_new stack top n [] h d = d
  below_new stack top n (t ∷ s) h d = (d.0, subst (Valued stored row deep t) (sym (get_or-set_same stack n top 0 h)) d.1, stacked_set stack n top (n - 1) s (omega (arith, d.0)) d.2)

  pub push : (stack : List ℕ) (top n w : ℕ) (t : Tree ℕ) (s : List (Tree ℕ)) → n < length stack → Valued stored row deep t w → Topped stored row stack top deep n s
      → Topped stored row (set stack n top) w deep (n + 1) (t ∷ s)
  unfolding Topped
  push stack top n w t s h v d =
      let e : n ≡ n + 1 - 1 = omega arith in
      (omega arith, v, subst (λ i. Stacked stored row (set stack n top) deep i s) e (below_new stack top n s h d))
