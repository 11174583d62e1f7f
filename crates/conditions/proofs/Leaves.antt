-- Leaves: a column's cell, or the literal's own. Assumes nothing.
use mathlib.Core.Path.{◌≡◌, refl, sym, ap, ◌∙◌}
use mathlib.Core.List.{List}
use Prim.Native.Nat.{ℕ, ◌^◌, ◌/◌, ◌%◌, ◌<◌}
use lib.ListN.{length, get_or, get_or-map}
use mathlib.Core.Bool.{Bool, true, false, cond}
use lib.Dec.{eqb}
use borrow.Author.Tests.{eq-eqb, ne_eqb}
use Rattle.cells.specs.Cell.{WellFormed}
use Rattle.values.specs.Value.{null, value_of}
use Rattle.values.proofs.ByWord.{value_null}
use Rattle.integers.specs.Outcome.{value}
use Rattle.conditions.specs.Ast.{eval}
use Rattle.conditions.specs.Table.{leaf_of, LeafSound, row_of, RowSound, LeafIs}

row_at : (base row : List ℕ) (c : ℕ) → get_or (row_of base row) c null ≡ value_of base (get_or row c 0)
unfolding row_of
row_at base row c = ap (get_or (row_of base row) c) (sym (value_null base)) ∙ get_or-map (λ (w : ℕ). value_of base w) row c 0

-- a sound leaf's column number is below the width
pub column_below : (used n w : ℕ) → w / 2 ^ 56 ≡ 4 → LeafSound used n w → w % 2 ^ 56 < n
unfolding LeafSound
column_below used n w e s = rw (eq-eqb (w / 2 ^ 56) 4 e) at s

-- the cell of a sound column is the row's
pub leaf_column : (used w : ℕ) (row : List ℕ) (r : ℕ) → w / 2 ^ 56 ≡ 4 → LeafSound used (length row) w → RowSound used row → r ≡ get_or row (w % 2 ^ 56) 0 → LeafIs used w row r
unfolding eval leaf_of
leaf_column used w row r e s rs q =
    record {
      exact = rw (eq-eqb (w / 2 ^ 56) 4 e) q;
      means = λ R base. rw (eq-eqb (w / 2 ^ 56) 4 e, q) (ap value (row_at base row (w % 2 ^ 56)));
      within = rw q (rs.cells (w % 2 ^ 56) (column_below used (length row) w e s));
    }

-- the cell of a sound literal is its own word
pub leaf_literal : (used w : ℕ) (row : List ℕ) (r : ℕ) → (w / 2 ^ 56 ≡ 4 → ⊥) → LeafSound used (length row) w → r ≡ w → LeafIs used w row r
unfolding eval leaf_of LeafSound
leaf_literal used w row r e s q = go (eqb (w / 2 ^ 56) 3) refl (rw (ne_eqb (w / 2 ^ 56) 4 e) at s)
  where
    go : (t : Bool) → eqb (w / 2 ^ 56) 3 ≡ t → cond t ⊥ (WellFormed used w) → LeafIs used w row r
    go true f s = absurd s
    go false f s =
        record {
          exact = rw (ne_eqb (w / 2 ^ 56) 4 e) q;
          means = λ R base. rw (ne_eqb (w / 2 ^ 56) 4 e, f, q);
          within = rw q s;
        }
