-- Folding keeps the columns of a condition, in their order. Assumes nothing.
use mathlib.Core.Path.{◌≡◌, refl, sym, ap₂, ◌∙◌}
use mathlib.Core.Bool.{cond}
use mathlib.Core.List.{List, [], ◌∷◌, ◌++◌}
use Prim.Native.Nat.{ℕ, ◌+◌, ◌*◌, ◌≤◌, ◌<◌}
use native.Mathlib.Omega.{arith}
use lib.ListN.{length}
use lib.Dec.{eqb}
use borrow.Author.Tests.{ne_eqb}
use Rattle.cells.specs.Cell.{kind_of, word_of}
use Rattle.values.specs.Value.{Value}
use Rattle.integers.specs.Outcome.{cell_at}
use Rattle.operators.specs.declared.Rules.{Rules}
use Rattle.conditions.specs.Ast.{Tree, leaf, unary, binary, joins}
use Rattle.replacing.specs.Fold.{folded, fold}
use Rattle.shortening.proofs.Ways.{literal_at, Folds, same, kept_one, kept_two, value_one, value_two, fold_folds}
use Rattle.replacing.specs.Walk.{Literal}
use Rattle.replacing.proofs.Literals.{literal_one, literal_two, literal_kind}
use Rattle.shortening.proofs.Growing.{folds_grown}

-- the words of the leaves that are columns, by name (3) or by number (4), left to right
unfoldable pub columns_of : Tree ℕ → List ℕ
columns_of (leaf w) = cond (eqb (kind_of w) 3) (w ∷ []) (cond (eqb (kind_of w) 4) (w ∷ []) [])
columns_of (unary op a) = columns_of a
columns_of (binary op a b) = columns_of a ++ columns_of b

-- a literal is no column
literal_none : (w : ℕ) → kind_of w < 3 → columns_of (leaf w) ≡ []
unfolding columns_of
literal_none w h = rw (ne_eqb (kind_of w) 3 (λ e. omega arith), ne_eqb (kind_of w) 4 (λ e. omega arith))

-- nor is the leaf that a value became
value_none : (most : ℕ) (s : List ℕ) (v : Value) → most ≤ 1024 → length s ≤ 65536 → Literal most v → columns_of (literal_at s v) ≡ []
value_none most s v short small h = literal_none (word_of (cell_at (length s) v)) (literal_kind most (length s) short small v h)

module _ (R : Rules) (short : R.limit ≤ 1024) where
  -- whatever way a tree folds
  folds_columns : {t t' : Tree ℕ} {s s' : List ℕ} → Folds R t s t' s' → length s + 1024 * joins t ≤ 65536 → columns_of t' ≡ columns_of t
  unfolding columns_of joins
  folds_columns same room = refl
  folds_columns (kept_one h) room = folds_columns h room
  folds_columns (kept_two h k) room = ap₂ ◌++◌ (folds_columns h (omega arith)) (folds_columns k (omega (arith, (folds_grown R short h).few)))
  folds_columns (value_one {op} {w} {s₁ = s₁} {v = v} h i e) room =
      value_none 0 s₁ v (omega arith) (omega (arith, (folds_grown R short h).few)) (literal_one R op s₁ w v e)
      ∙ sym (literal_none w i) ∙ folds_columns h room
  folds_columns (value_two {op} {w} {u} {s₁ = s₁} {s₂ = s₂} {v = v} h k l i j e) room =
      let g = folds_grown R short h in
      let q = folds_grown R short k in
      value_none R.limit s₂ v short (omega (arith, g.few, q.few)) (literal_two R op s₂ w u v e)
      ∙ sym (ap₂ ◌++◌ (literal_none w i) (literal_none u j)) ∙ ap₂ ◌++◌ (folds_columns h (omega arith)) (folds_columns k (omega (arith, g.few)))

  -- an accepted folding, where there is room for every joined text
  pub fold_columns : (at : ℕ) (t t' : Tree ℕ) (s s' : List ℕ) → fold R at t s ≡ folded t' s' → length s + 1024 * joins t ≤ 65536 → columns_of t' ≡ columns_of t
  fold_columns at t t' s s' e room = folds_columns (fold_folds R at t s t' s' e) room
