-- The promise of folding, on trees (Promise.antt has it about the calls): if it is accepted, both conditions evaluate alike on every row, refusal numbers included. Assumes nothing.
use mathlib.Core.Path.{◌≡◌, refl, sym, ap, ap₂, ◌∙◌}
use mathlib.Core.Bool.{Bool, true, false, cond}
use mathlib.Core.List.{List, ◌++◌}
use Prim.Native.Nat.{ℕ, ◌+◌, ◌*◌, ◌≤◌, ◌<◌}
use native.Mathlib.Omega.{arith}
use lib.ListN.{length, take}
use lib.Seq.{take-length}
use lib.Dec.{eqb}
use borrow.Author.Tests.{ne_eqb, lt-ltb}
use Rattle.slices.specs.Splice.{piece}
use Rattle.slices.proofs.Pieces.{piece_front}
use Rattle.slices.proofs.Extends.{Extends}
use Rattle.cells.specs.Cell.{WellFormed, kind_of, body_of, start_of, length_of}
use Rattle.values.specs.Value.{Value, to_bool, from_bool, value_of}
use Rattle.integers.specs.Outcome.{Outcome, value}
use Rattle.operators.specs.Operator.{unary_of, binary_of}
use Rattle.operators.specs.declared.Rules.{Rules}
use Rattle.conditions.specs.Ast.{Tree, Ast, leaf, unary, binary, literal, column, named, map_tree, and_then, decides, two_sided, eval, joins}
use Rattle.conditions.specs.Table.{leaf_of}
use Rattle.conditions.proofs.Giving.{value_more}
use Rattle.forms.specs.Held.{LeafHeld}
use Rattle.replacing.specs.Fold.{folded, appended, fold}
use Rattle.shortening.proofs.Ways.{literal_at, Folds, same, kept_one, kept_two, value_one, value_two, fold_folds}
use Rattle.replacing.specs.Walk.{AllHeld, Literal}
use Rattle.replacing.proofs.Literals.{literal_one, literal_two, leaf_literal, literal_means}
use Rattle.shortening.proofs.Growing.{Grown, held_higher, folds_grown}

-- ---- a longer stored text

module _ {s s' : List ℕ} (m : Extends s s') where
  -- the same text below the old mark
  same_front : take (length s) s' ≡ take (length s) s
  same_front = m.front ∙ sym (take-length s)

  -- a cell that is well formed below the mark means the same there
  pub value_longer : (w : ℕ) → WellFormed (length s) w → value_of s w ≡ value_of s' w
  value_longer w h =
      sym (ap (λ l. value_of l w) (sym (take-length s')) ∙ value_more (length s) (length s') s s' w m.longer h same_front ∙ ap (λ l. value_of l w) (take-length s))

  -- and so does a leaf that is held
  leaf_longer : (w : ℕ) → LeafHeld (length s) w → leaf_of s w ≡ leaf_of s' w
  unfolding LeafHeld leaf_of
  leaf_longer w = by (eqb (kind_of w) 4) (eqb (kind_of w) 3)
    where
      by : (x y : Bool) → cond x (Unit {0}) (cond y (start_of w + length_of w ≤ length s) (WellFormed (length s) w))
          → cond x (column (body_of w)) (cond y (named (piece (start_of w) (length_of w) s)) (literal (value_of s w)))
          ≡ cond x (column (body_of w)) (cond y (named (piece (start_of w) (length_of w) s')) (literal (value_of s' w)))
      by true y h = refl
      by false true h = ap named (piece_front (length s) (start_of w) (length_of w) s s' h (sym same_front))
      by false false h = ap literal (value_longer w h)

  -- and a whole tree
  pub tree_longer : (t : Tree ℕ) → AllHeld (length s) t → map_tree (leaf_of s) t ≡ map_tree (leaf_of s') t
  unfolding map_tree AllHeld
  tree_longer (leaf w) h = ap leaf (leaf_longer w h)
  tree_longer (unary op a) h = ap (unary op) (tree_longer a h)
  tree_longer (binary op a b) h = ap₂ (binary op) (tree_longer a h.0) (tree_longer b h.1)

-- ---- evaluation

module _ (R : Rules) (row : List Value) where
  -- trees alike under a unary operator
  eval_one : (op : ℕ) (a x : Ast) → eval R row a ≡ eval R row x → eval R row (unary op a) ≡ eval R row (unary op x)
  unfolding eval
  eval_one op a x e = ap (λ o. and_then o (unary_of R op)) e

  -- and under a two-sided one
  eval_two : (op : ℕ) (a b x y : Ast) → eval R row a ≡ eval R row x → eval R row b ≡ eval R row y → eval R row (binary op a b) ≡ eval R row (binary op x y)
  unfolding eval
  eval_two op a b x y e f = ap₂ (λ o p. and_then o (λ v. cond (decides op v) (value (from_bool (to_bool v))) (and_then p (two_sided R op v)))) e f

  -- a unary operator over a value
  over_one : (op : ℕ) (a : Ast) (v : Value) → eval R row a ≡ value v → eval R row (unary op a) ≡ unary_of R op v
  unfolding eval
  over_one op a v e = ap (λ o. and_then o (unary_of R op)) e

  -- a two-sided one over two, neither AND nor OR
  over_two : (op : ℕ) (a b : Ast) (v w : Value) → op < 47 → eval R row a ≡ value v → eval R row b ≡ value w → eval R row (binary op a b) ≡ binary_of R op v w
  unfolding eval decides two_sided
  over_two op a b v w l e f = rw (e, f, ne_eqb op 48 (λ q. omega arith), ne_eqb op 49 (λ q. omega arith), lt-ltb op 47 l)

  -- a leaf that is a literal
  eval_literal : (s : List ℕ) (w : ℕ) → kind_of w < 3 → eval R row (map_tree (leaf_of s) (leaf w)) ≡ value (value_of s w)
  unfolding eval map_tree
  eval_literal s w h = rw (leaf_literal s w h)

  -- the leaf that a value became
  eval_value : (most : ℕ) (s : List ℕ) (v : Value) → most ≤ 1024 → length s ≤ 65536 → Literal most v → eval R row (map_tree (leaf_of (s ++ appended v)) (literal_at s v)) ≡ value v
  unfolding eval map_tree
  eval_value most s v short small h = rw (literal_means most s v short small h)

-- ---- by the ways of folding

-- what a tree comes to over a stored text
abbrev eval_in : Rules → List Value → List ℕ → Tree ℕ → Outcome
eval_in R row s t = eval R row (map_tree (leaf_of s) t)

-- both trees evaluate alike, each over its stored text, where the leaves are held and there is room for every joined text
pub record Alike (R : Rules) (t : Tree ℕ) (s : List ℕ) (t' : Tree ℕ) (s' : List ℕ) : Type 0 where
  pub alike : (row : List Value) → AllHeld (length s) t → length s + 1024 * joins t ≤ 65536 → eval_in R row s t ≡ eval_in R row s' t'

module _ (R : Rules) where
  -- the operands of a two-sided operator, over the stored text after both
  module _ {a b x y : Tree ℕ} {s s₁ s₂ : List ℕ} (row : List Value) (g : Grown a s x s₁) (k : Grown b s₁ y s₂) (room : length s + 1024 * (joins a + joins b) ≤ 65536) where
    -- the left one
    left_alike : Alike R a s x s₁ → AllHeld (length s) a → eval_in R row s a ≡ eval_in R row s₂ x
    left_alike i h = i.alike row h (omega arith) ∙ ap (eval R row) (tree_longer k.more x (g.held h (omega arith)))

    -- the right one
    right_alike : Alike R b s₁ y s₂ → AllHeld (length s) b → eval_in R row s b ≡ eval_in R row s₂ y
    right_alike i h =
        ap (eval R row) (tree_longer g.more b h) ∙ i.alike row (held_higher (length s) (length s₁) b g.more.longer h) (omega (arith, g.few))

  -- a unary operator that stays
  alike_one : {op : ℕ} {a x : Tree ℕ} {s s₁ : List ℕ} → Alike R a s x s₁ → Alike R (unary op a) s (unary op x) s₁
  unfolding map_tree AllHeld joins
  alike_one {op} i = record { alike = λ row h room. eval_one R row op _ _ (i.alike row h room) }

  -- a two-sided one
  alike_two : {op : ℕ} {a b x y : Tree ℕ} {s s₁ s₂ : List ℕ} → Grown a s x s₁ → Grown b s₁ y s₂ → Alike R a s x s₁ → Alike R b s₁ y s₂
      → Alike R (binary op a b) s (binary op x y) s₂
  unfolding map_tree AllHeld joins
  alike_two {op} g k i j = record {
    alike = λ row h room. eval_two R row op _ _ _ _ (left_alike row g k (omega arith) i h.0) (right_alike row g k (omega arith) j h.1);
  }

  -- a unary operator that gives way to its value
  value_alike_one : {op w : ℕ} {a : Tree ℕ} {s s₁ : List ℕ} (v : Value) → Grown a s (leaf w) s₁ → Alike R a s (leaf w) s₁ → kind_of w < 3
      → unary_of R op (value_of s₁ w) ≡ value v → Alike R (unary op a) s (literal_at s₁ v) (s₁ ++ appended v)
  unfolding map_tree AllHeld joins
  value_alike_one {op} {w} {s₁ = s₁} v g i k e = record {
    alike = λ row h room. over_one R row op _ (value_of s₁ w) (i.alike row h room ∙ eval_literal R row s₁ w k) ∙ e
        ∙ sym (eval_value R row 0 s₁ v (omega arith) (omega (arith, g.few)) (literal_one R op s₁ w v e));
  }

  -- a two-sided one
  value_alike_two : {op w u : ℕ} {a b : Tree ℕ} {s s₁ s₂ : List ℕ} (v : Value) → R.limit ≤ 1024 → Grown a s (leaf w) s₁ → Grown b s₁ (leaf u) s₂
      → Alike R a s (leaf w) s₁ → Alike R b s₁ (leaf u) s₂ → op < 47 → kind_of w < 3 → kind_of u < 3
      → binary_of R op (value_of s₂ w) (value_of s₂ u) ≡ value v → Alike R (binary op a b) s (literal_at s₂ v) (s₂ ++ appended v)
  unfolding map_tree AllHeld joins
  value_alike_two {op} {w} {u} {s₂ = s₂} v short g k i j below l m e = record {
    alike = λ row h room. over_two R row op _ _ (value_of s₂ w) (value_of s₂ u) below
        (left_alike row g k (omega arith) i h.0 ∙ eval_literal R row s₂ w l) (right_alike row g k (omega arith) j h.1 ∙ eval_literal R row s₂ u m) ∙ e
        ∙ sym (eval_value R row R.limit s₂ v short (omega (arith, g.few, k.few)) (literal_two R op s₂ w u v e));
  }

module _ (R : Rules) (short : R.limit ≤ 1024) where
  -- whatever way a tree folds
  folds_alike : {t t' : Tree ℕ} {s s' : List ℕ} → Folds R t s t' s' → Alike R t s t' s'
  folds_alike same = record { alike = λ row h room. refl }
  folds_alike (kept_one h) = alike_one R (folds_alike h)
  folds_alike (kept_two h k) = alike_two R (folds_grown R short h) (folds_grown R short k) (folds_alike h) (folds_alike k)
  folds_alike (value_one {v = v} h i e) = value_alike_one R v (folds_grown R short h) (folds_alike h) i e
  folds_alike (value_two {v = v} h k l i j e) =
      value_alike_two R v short (folds_grown R short h) (folds_grown R short k) (folds_alike h) (folds_alike k) l i j e

  -- an accepted folding: every row, every outcome
  pub fold_alike : (at : ℕ) (t t' : Tree ℕ) (s s' : List ℕ) → fold R at t s ≡ folded t' s' → AllHeld (length s) t → length s + 1024 * joins t ≤ 65536
      → (row : List Value) → eval R row (map_tree (leaf_of s) t) ≡ eval R row (map_tree (leaf_of s') t')
  fold_alike at t t' s s' e h room row = (folds_alike (fold_folds R at t s t' s' e)).alike row h room
