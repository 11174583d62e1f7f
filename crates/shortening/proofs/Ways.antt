-- The ways in which a tree folds or is refused: what is proved of folding goes by them. Assumes nothing.
use mathlib.Core.Path.{◌≡◌, refl, subst}
use mathlib.Core.Bool.{Bool, true, false, cond}
use mathlib.Core.List.{List, ◌++◌}
use Prim.Native.Nat.{ℕ, ◌+◌, ◌<◌}
use native.Mathlib.Omega.{arith}
use lib.ListN.{length}
use lib.Dec.{ltb}
use borrow.Author.Tests.{ltb-true}
use Rattle.slices.specs.Bytes.{both}
use Rattle.cells.specs.Cell.{kind_of, word_of}
use Rattle.values.specs.Value.{Value, value_of}
use Rattle.integers.specs.Outcome.{Outcome, value, cell_at}
use Rattle.operators.specs.Operator.{unary_of, binary_of}
use Rattle.operators.specs.declared.Rules.{Rules}
use Rattle.conditions.specs.Ast.{Tree, leaf, unary, binary}
use Rattle.postfix.specs.Postfix.{width}
use Rattle.replacing.specs.Fold.{Folding, folded, and_fold, is_literal, leaf_word_of, appended, replaced, fold_one, fold_two, fold}

-- the leaf that a value becomes, where the stored text was this
abbrev pub literal_at : List ℕ → Value → Tree ℕ
literal_at s v = leaf (word_of (cell_at (length s) v))

-- a tree and the stored text before it; the folded tree and the stored text after it
pub data Folds (R : Rules) : Tree ℕ → List ℕ → Tree ℕ → List ℕ → Type 0 where
  same : {w : ℕ} {s : List ℕ} → Folds R (leaf w) s (leaf w) s
  kept_one : {op : ℕ} {a x : Tree ℕ} {s s₁ : List ℕ} → Folds R a s x s₁ → Folds R (unary op a) s (unary op x) s₁
  kept_two : {op : ℕ} {a b x y : Tree ℕ} {s s₁ s₂ : List ℕ} → Folds R a s x s₁ → Folds R b s₁ y s₂ → Folds R (binary op a b) s (binary op x y) s₂
  value_one : {op w : ℕ} {a : Tree ℕ} {s s₁ : List ℕ} {v : Value} → Folds R a s (leaf w) s₁ → kind_of w < 3 → unary_of R op (value_of s₁ w) ≡ value v
      → Folds R (unary op a) s (literal_at s₁ v) (s₁ ++ appended v)
  value_two : {op w u : ℕ} {a b : Tree ℕ} {s s₁ s₂ : List ℕ} {v : Value} → Folds R a s (leaf w) s₁ → Folds R b s₁ (leaf u) s₂ → op < 47 → kind_of w < 3
      → kind_of u < 3 → binary_of R op (value_of s₂ w) (value_of s₂ u) ≡ value v → Folds R (binary op a b) s (literal_at s₂ v) (s₂ ++ appended v)

-- the offset of a tree, the tree; a refusal's number and place: an operand's, or the operator's own
pub data Refuses (R : Rules) : ℕ → Tree ℕ → ℕ → ℕ → Type 0 where
  only : {at op n p : ℕ} {a : Tree ℕ} → Refuses R at a n p → Refuses R at (unary op a) n p
  left : {at op n p : ℕ} {a b : Tree ℕ} → Refuses R at a n p → Refuses R at (binary op a b) n p
  right : {at op n p : ℕ} {a b : Tree ℕ} → Refuses R (at + width a) b n p → Refuses R at (binary op a b) n p
  own_one : {at op n : ℕ} {a : Tree ℕ} (v : Value) → unary_of R op v ≡ Outcome.refused n → Refuses R at (unary op a) n (at + width a)
  own_two : {at op n : ℕ} {a b : Tree ℕ} (v w : Value) → binary_of R op v w ≡ Outcome.refused n → Refuses R at (binary op a b) n (at + width a + width b)

-- what a folding comes to, it comes to in one of these ways
abbrev Goes : Rules → ℕ → Tree ℕ → List ℕ → Folding → Type 0
Goes R at t s (folded t' s') = Folds R t s t' s'
Goes R at t s (Folding.refused n p) = Refuses R at t n p

-- a literal is a leaf of kind 0, 1 or 2
literal_leaf : (x : Tree ℕ) → is_literal x ≡ true → (x ≡ leaf (leaf_word_of x)) × (kind_of (leaf_word_of x) < 3)
literal_leaf (leaf w) e = (refl, ltb-true (kind_of w) 3 e)
literal_leaf (unary op a) e = absurd (let z : ◌≡◌ {A = ℕ} 0 1 = cc in omega arith)
literal_leaf (binary op a b) e = absurd (let z : ◌≡◌ {A = ℕ} 0 1 = cc in omega arith)

module _ (R : Rules) (at : ℕ) where
  -- an operator over literals gives way to its value, or is refused
  goes_replaced : (place : ℕ) (t : Tree ℕ) (s s₁ : List ℕ) (o : Outcome) → ((v : Value) → o ≡ value v → Folds R t s (literal_at s₁ v) (s₁ ++ appended v))
      → ((n : ℕ) → o ≡ Outcome.refused n → Refuses R at t n place) → Goes R at t s (replaced place s₁ o)
  goes_replaced place t s s₁ (value v) h k = h v refl
  goes_replaced place t s s₁ (Outcome.refused n) h k = k n refl

  -- a unary operator, its operand folded
  goes_one : (op : ℕ) (a x : Tree ℕ) (s s₁ : List ℕ) → Folds R a s x s₁ → Goes R at (unary op a) s (fold_one R (at + width a) op x s₁)
  goes_one op a x s s₁ h = by (is_literal x) refl
    where
      o : Outcome
      o = unary_of R op (value_of s₁ (leaf_word_of x))

      by : (l : Bool) → is_literal x ≡ l → Goes R at (unary op a) s (cond l (replaced (at + width a) s₁ o) (folded (unary op x) s₁))
      by true e =
          let q = literal_leaf x e in
          goes_replaced (at + width a) (unary op a) s s₁ o (λ v f. value_one (subst (λ y. Folds R a s y s₁) q.0 h) q.1 f) (λ n f. own_one _ f)
      by false e = kept_one h

  -- a two-sided one, its operands folded
  goes_two : (op : ℕ) (a b x y : Tree ℕ) (s s₁ s₂ : List ℕ) → Folds R a s x s₁ → Folds R b s₁ y s₂ → Goes R at (binary op a b) s (fold_two R (at + width a + width b) op x y s₂)
  goes_two op a b x y s s₁ s₂ h k = by (ltb op 47) (is_literal x) (is_literal y) refl refl refl
    where
      o : Outcome
      o = binary_of R op (value_of s₂ (leaf_word_of x)) (value_of s₂ (leaf_word_of y))

      by : (c l m : Bool) → ltb op 47 ≡ c → is_literal x ≡ l → is_literal y ≡ m
          → Goes R at (binary op a b) s (cond (both c (both l m)) (replaced (at + width a + width b) s₂ o) (folded (binary op x y) s₂))
      by true true true e f g =
          let p = literal_leaf x f in
          let q = literal_leaf y g in
          goes_replaced (at + width a + width b) (binary op a b) s s₂ o
          (λ v i. value_two (subst (λ z. Folds R a s z s₁) p.0 h) (subst (λ z. Folds R b s₁ z s₂) q.0 k) (ltb-true op 47 e) p.1 q.1 i)
          (λ n i. own_two _ _ i)
      by true true false e f g = kept_two h k
      by true false m e f g = kept_two h k
      by false l m e f g = kept_two h k

-- a whole tree
goes : (R : Rules) (at : ℕ) (t : Tree ℕ) (s : List ℕ) → Goes R at t s (fold R at t s)
unfolding fold
goes R at (leaf w) s = same
goes R at (unary op a) s = first (fold R at a s) (goes R at a s)
  where
    first : (f : Folding) → Goes R at a s f → Goes R at (unary op a) s (and_fold f (λ x s₁. fold_one R (at + width a) op x s₁))
    first (folded x s₁) h = goes_one R at op a x s s₁ h
    first (Folding.refused n p) h = only h
goes R at (binary op a b) s = first (λ s₁. goes R (at + width a) b s₁) (fold R at a s) (goes R at a s)
  where
    next : ℕ
    next = at + width a

    first : ((s₁ : List ℕ) → Goes R next b s₁ (fold R next b s₁)) → (f : Folding) → Goes R at a s f
        → Goes R at (binary op a b) s (and_fold f (λ x s₁. and_fold (fold R next b s₁) (λ y s₂. fold_two R (next + width b) op x y s₂)))
    first later (folded x s₁) h = second (fold R next b s₁) (later s₁)
      where
        second : (f : Folding) → Goes R next b s₁ f → Goes R at (binary op a b) s (and_fold f (λ y s₂. fold_two R (next + width b) op x y s₂))
        second (folded y s₂) k = goes_two R at op a b x y s s₁ s₂ h k
        second (Folding.refused n p) k = right k
    first later (Folding.refused n p) h = left h

module _ (R : Rules) (at : ℕ) (t : Tree ℕ) (s : List ℕ) where
  -- an accepted folding
  pub fold_folds : (t' : Tree ℕ) (s' : List ℕ) → fold R at t s ≡ folded t' s' → Folds R t s t' s'
  fold_folds t' s' e = subst (Goes R at t s) e (goes R at t s)

  -- a refused one
  pub fold_refuses : (n p : ℕ) → fold R at t s ≡ Folding.refused n p → Refuses R at t n p
  fold_refuses n p e = subst (Goes R at t s) e (goes R at t s)
