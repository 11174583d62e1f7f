-- The leaf that an operator's value becomes: a literal, which means that value. Assumes nothing.
use mathlib.Core.Path.{◌≡◌, refl, ap, subst, ◌∙◌}
use mathlib.Core.List.{List, ◌++◌}
use Prim.Native.Nat.{ℕ, ◌+◌, ◌≤◌, ◌<◌}
use native.Mathlib.Omega.{arith}
use lib.ListN.{length, take}
use lib.Seq.{drop_at, take_all}
use borrow.Author.Tests.{ne_eqb}
use mir.Facts.{Fits-of_z}
use Rattle.cells.specs.Cell.{WellFormed, Inside, kind_of, word_of}
use Rattle.cells.proofs.Words.{Sized, ref_back}
use Rattle.cells.proofs.Stops.{well_word}
use Rattle.values.specs.Value.{Value, null, int, str, binary, to_value, value_of}
use Rattle.integers.specs.Outcome.{value, cell_at}
use Rattle.operators.specs.Operator.{unary_of, binary_of}
use Rattle.operators.specs.declared.Rules.{Rules}
use Rattle.operators.proofs.Holding.{Holds, value_int32, holds_unary, holds_binary}
use Rattle.conditions.specs.Ast.{literal}
use Rattle.conditions.specs.Table.{leaf_of}
use Rattle.forms.specs.Held.{LeafHeld}
use Rattle.replacing.specs.Walk.{Literal}
use Rattle.replacing.specs.Fold.{appended}
use Rattle.replacing.proofs.Results.{Reached, result_unary, result_binary}

-- ---- what operators give is such a value

-- a result that a cell can hold and that is no Binary
of_result_lem : (most : ℕ) (v : Value) → Reached (value v) → Holds most (value v) → Literal most v
of_result_lem most null r h = tt
of_result_lem most (int z) r h = h.held
of_result_lem most (str b) r h = h.held
of_result_lem most binary r h = r.usual

module _ (R : Rules) (op : ℕ) where
  -- a unary operator gives no text but the empty one
  pub literal_one : (s : List ℕ) (w : ℕ) (v : Value) → unary_of R op (value_of s w) ≡ value v → Literal 0 v
  literal_one s w v e = of_result_lem 0 v (subst Reached e (result_unary R op (value_of s w))) (subst (Holds 0) e (holds_unary 0 R op (value_of s w)))

  -- a two-sided one a text within the limit
  pub literal_two : (s : List ℕ) (w u : ℕ) (v : Value) → binary_of R op (value_of s w) (value_of s u) ≡ value v → Literal R.limit v
  literal_two s w u v e =
      of_result_lem R.limit v (subst Reached e (result_binary R op (value_of s w) (value_of s u)))
      (subst (Holds R.limit) e (holds_binary R op (value_of s w) (value_of s u) (value_int32 s w) (value_int32 s u)))

-- ---- its word at a place in the stored text

-- the stored text grows by no more than such a text is long
pub literal_grows : (most : ℕ) (v : Value) → Literal most v → length (appended v) ≤ most
literal_grows most null h = omega arith
literal_grows most (int z) h = omega arith
literal_grows most (str b) h = h
literal_grows most binary h = absurd h

module _ (most n : ℕ) (short : most ≤ 1024) (small : n ≤ 65536) where
  -- its kind is 0, 1 or 2
  pub literal_kind : (v : Value) → Literal most v → kind_of (word_of (cell_at n v)) < 3
  unfolding word_of
  literal_kind null h = omega arith
  literal_kind (int z) h = omega (arith, (Fits-of_z h).fits)
  literal_kind (str b) h = omega arith
  literal_kind binary h = absurd h

  -- its cell has the code's sizes
  literal_sized : (v : Value) → Literal most v → Sized (cell_at n v)
  unfolding Sized
  literal_sized null h = tt
  literal_sized (int z) h = h
  literal_sized (str b) h = (omega arith, omega arith)
  literal_sized binary h = absurd h

  -- and ends at or before the new mark
  literal_inside : (v : Value) → Inside (n + length (appended v)) (cell_at n v)
  unfolding Inside
  literal_inside null = tt
  literal_inside (int z) = tt
  literal_inside (str b) = omega arith
  literal_inside binary = tt

  -- so the word is well formed there
  pub literal_well : (v : Value) → Literal most v → WellFormed (n + length (appended v)) (word_of (cell_at n v))
  literal_well v h = well_word (n + length (appended v)) (cell_at n v) (literal_sized v h) (literal_inside v)

-- the cell of a value, its text appended
cell_means : (s : List ℕ) (v : Value) → to_value (s ++ appended v) (cell_at (length s) v) ≡ v
unfolding to_value
cell_means s null = refl
cell_means s (int z) = refl
cell_means s (str b) = ap str (ap (take (length b)) (drop_at s b (length s) refl) ∙ take_all (length b) b (omega arith))
cell_means s binary = refl

-- ---- leaves that are literals

-- a leaf of kind 0, 1 or 2 means its cell
pub leaf_literal : (s : List ℕ) (w : ℕ) → kind_of w < 3 → leaf_of s w ≡ literal (value_of s w)
unfolding leaf_of
leaf_literal s w h = rw (ne_eqb (kind_of w) 4 (λ e. omega arith), ne_eqb (kind_of w) 3 (λ e. omega arith))

-- and is held where its cell is well formed
pub held_literal : (used w : ℕ) → kind_of w < 3 → WellFormed used w → LeafHeld used w
unfolding LeafHeld
held_literal used w h k = rw (ne_eqb (kind_of w) 4 (λ e. omega arith), ne_eqb (kind_of w) 3 (λ e. omega arith)) k

-- the leaf that a value becomes means that value
pub literal_means : (most : ℕ) (s : List ℕ) (v : Value) → most ≤ 1024 → length s ≤ 65536 → Literal most v
    → leaf_of (s ++ appended v) (word_of (cell_at (length s) v)) ≡ literal v
literal_means most s v short small h =
    leaf_literal (s ++ appended v) (word_of (cell_at (length s) v)) (literal_kind most (length s) short small v h)
    ∙ ap literal (ap (to_value (s ++ appended v)) (ref_back (cell_at (length s) v) (literal_sized most (length s) short small v h)) ∙ cell_means s v)
