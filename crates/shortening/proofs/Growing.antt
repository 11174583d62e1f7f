-- What folding does to a tree's size and to the stored text: the tree grows no larger, the text grows at its end, by little, and leaves stay held in it.
-- Assumes nothing.
use mathlib.Core.Path.{◌≡◌}
use mathlib.Core.Bool.{Bool, true, false, cond}
use mathlib.Core.List.{List, ◌++◌}
use Prim.Native.Nat.{ℕ, ◌+◌, ◌*◌, ◌≤◌}
use native.Mathlib.Omega.{arith}
use lib.ListN.{length, length-append}
use lib.Dec.{eqb}
use Rattle.slices.proofs.Extends.{Extends, extends_own, extends_more, extends_then}
use Rattle.cells.specs.Cell.{WellFormed, kind_of, start_of, length_of, word_of}
use Rattle.cells.proofs.Stops.{inside_more}
use Rattle.values.specs.Value.{Value}
use Rattle.integers.specs.Outcome.{cell_at}
use Rattle.operators.specs.declared.Rules.{Rules}
use Rattle.conditions.specs.Ast.{Tree, leaf, unary, binary, size, height, joins}
use Rattle.conditions.proofs.Walk.{height_pos, size_pos}
use Rattle.forms.specs.Held.{LeafHeld}
use Rattle.replacing.specs.Walk.{AllHeld, Literal}
use Rattle.replacing.specs.Fold.{folded, appended, fold}
use Rattle.shortening.proofs.Ways.{literal_at, Folds, same, kept_one, kept_two, value_one, value_two, fold_folds}
use Rattle.replacing.proofs.Literals.{literal_one, literal_two, literal_kind, literal_well, literal_grows, held_literal}

-- a tree and the stored text before it, the folded tree and the stored text after it
pub record Grown (t : Tree ℕ) (s : List ℕ) (t' : Tree ℕ) (s' : List ℕ) : Type 0 where
  pub more : Extends s s'
  pub few : length s' ≤ length s + 1024 * joins t
  pub small : size t' ≤ size t
  pub shallow : height t' ≤ height t
  pub held : AllHeld (length s) t → length s + 1024 * joins t ≤ 65536 → AllHeld (length s') t'

-- ---- a higher mark

-- a leaf that is held below a mark is held below a higher one
leaf_higher : (m n w : ℕ) → m ≤ n → LeafHeld m w → LeafHeld n w
unfolding LeafHeld
leaf_higher m n w l = by (eqb (kind_of w) 4) (eqb (kind_of w) 3)
  where
    by : (x y : Bool) → cond x (Unit {0}) (cond y (start_of w + length_of w ≤ m) (WellFormed m w)) → cond x (Unit {0}) (cond y (start_of w + length_of w ≤ n) (WellFormed n w))
    by true y h = tt
    by false true h = omega arith
    by false false h = inside_more m n w l h

-- and so is a whole tree
pub held_higher : (m n : ℕ) (t : Tree ℕ) → m ≤ n → AllHeld m t → AllHeld n t
unfolding AllHeld
held_higher m n (leaf w) l h = leaf_higher m n w l h
held_higher m n (unary op a) l h = held_higher m n a l h
held_higher m n (binary op a b) l h = (held_higher m n a l h.0, held_higher m n b l h.1)

-- ---- by the ways of folding

-- a leaf stays
grown_same : (w : ℕ) (s : List ℕ) → Grown (leaf w) s (leaf w) s
grown_same w s = record { more = extends_own s; few = omega arith; small = omega arith; shallow = omega arith; held = λ h room. h }

-- a unary operator that stays
grown_one : {op : ℕ} {a x : Tree ℕ} {s s₁ : List ℕ} → Grown a s x s₁ → Grown (unary op a) s (unary op x) s₁
unfolding size height joins AllHeld
grown_one g = record { more = g.more; few = g.few; small = omega arith; shallow = omega arith; held = g.held }

-- a two-sided one
grown_two : {op : ℕ} {a b x y : Tree ℕ} {s s₁ s₂ : List ℕ} → Grown a s x s₁ → Grown b s₁ y s₂ → Grown (binary op a b) s (binary op x y) s₂
unfolding size height joins AllHeld
grown_two {b = b} {x = x} {s = s} {s₁ = s₁} {s₂ = s₂} g k = record {
  more = extends_then g.more k.more;
  few = omega (arith, g.few, k.few);
  small = omega arith;
  shallow = omega arith;
  held = λ h room. (
    held_higher (length s₁) (length s₂) x k.more.longer (g.held h.0 (omega arith)),
    k.held (held_higher (length s) (length s₁) b g.more.longer h.1) (omega (arith, g.few)),
  );
}

-- an operator that gives way to its value, the stored text having grown on the way to it
grown_value : (t : Tree ℕ) (s s₁ : List ℕ) (most : ℕ) (v : Value) → most ≤ 1024 → Extends s s₁ → length s₁ + most ≤ length s + 1024 * joins t → Literal most v
    → Grown t s (literal_at s₁ v) (s₁ ++ appended v)
unfolding size height AllHeld
grown_value t s s₁ most v short m l h = record {
  more = extends_then m (extends_more s₁ (appended v));
  few = omega (arith, length-append s₁ (appended v), literal_grows most v h);
  small = size_pos t;
  shallow = height_pos t;
  held = λ a room. held_literal _ (word_of (cell_at (length s₁) v)) (literal_kind most (length s₁) short (omega arith) v h)
      (rw (length-append s₁ (appended v)) (literal_well most (length s₁) short (omega arith) v h));
}

module _ (R : Rules) (short : R.limit ≤ 1024) where
  -- whatever way a tree folds
  pub folds_grown : {t t' : Tree ℕ} {s s' : List ℕ} → Folds R t s t' s' → Grown t s t' s'
  unfolding joins
  folds_grown (same {w} {s}) = grown_same w s
  folds_grown (kept_one h) = grown_one (folds_grown h)
  folds_grown (kept_two h k) = grown_two (folds_grown h) (folds_grown k)
  folds_grown (value_one {op} {w} {a} {s} {s₁} {v} h i e) =
      let g = folds_grown h in
      grown_value (unary op a) s s₁ 0 v (omega arith) g.more (omega (arith, g.few)) (literal_one R op s₁ w v e)
  folds_grown (value_two {op} {w} {u} {a} {b} {s} {s₁} {s₂} {v} h k l i j e) =
      let g = folds_grown h in
      let q = folds_grown k in
      grown_value (binary op a b) s s₂ R.limit v short (extends_then g.more q.more) (omega (arith, g.few, q.few))
      (literal_two R op s₂ w u v e)

  -- what an accepted folding does
  pub grown : (at : ℕ) (t t' : Tree ℕ) (s s' : List ℕ) → fold R at t s ≡ folded t' s' → Grown t s t' s'
  grown at t t' s s' e = folds_grown (fold_folds R at t s t' s' e)
