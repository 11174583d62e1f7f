-- How a leaf is printed, by the kind of its word. Assumes nothing.
use mathlib.Core.Path.{◌≡◌, refl}
use mathlib.Core.Bool.{Bool, true, false}
use mathlib.Core.List.{List, []}
use Prim.Native.Nat.{ℕ, ◌+◌, ◌≤◌}
use native.Mathlib.Omega.{arith}
use lib.ListN.{length, drop, length-take}
use lib.Dec.{eqb}
use borrow.Author.Tests.{eq-eqb, ne_eqb, eqb-true, eqb-false}
use Rattle.slices.specs.Splice.{piece}
use Rattle.cells.specs.Cell.{WellFormed, kind_of, start_of, length_of}
use Rattle.values.specs.Value.{value_of}
use Rattle.conditions.specs.Table.{leaf_of}
use Rattle.forms.specs.Held.{LeafHeld}
use Rattle.display.specs.Display.{display}
use Rattle.display.proofs.Shown.{shown_short}
use Rattle.spelling.specs.Spell.{printed_atom}

module _ (w : ℕ) (e : kind_of w ≡ 3) where
  -- a column's name
  pub atom_name : (stored : List ℕ) → printed_atom (leaf_of stored w) ≡ piece (start_of w) (length_of w) stored
  unfolding leaf_of
  atom_name stored = rw (ne_eqb (kind_of w) 4 (omega arith), eq-eqb (kind_of w) 3 e)

  -- it ends at or before the mark
  pub name_inside : (used : ℕ) → LeafHeld used w → start_of w + length_of w ≤ used
  unfolding LeafHeld
  name_inside used h = rw (ne_eqb (kind_of w) 4 (omega arith), eq-eqb (kind_of w) 3 e) at h

-- a column's number, which no named condition has
pub atom_number : (w : ℕ) → kind_of w ≡ 4 → (stored : List ℕ) → printed_atom (leaf_of stored w) ≡ []
unfolding leaf_of
atom_number w e stored = rw (eq-eqb (kind_of w) 4 e)

module _ (w : ℕ) (n3 : kind_of w ≡ 3 → ⊥) (n4 : kind_of w ≡ 4 → ⊥) where
  -- a literal
  pub atom_literal : (stored : List ℕ) → printed_atom (leaf_of stored w) ≡ display (value_of stored w)
  unfolding leaf_of
  atom_literal stored = rw (ne_eqb (kind_of w) 4 n4, ne_eqb (kind_of w) 3 n3)

  -- it is well formed
  pub literal_well : (used : ℕ) → LeafHeld used w → WellFormed used w
  unfolding LeafHeld
  literal_well used h = rw (ne_eqb (kind_of w) 4 n4, ne_eqb (kind_of w) 3 n3) at h

-- a literal takes at most 400,000 bytes, a name fewer
pub atom_short : (stored : List ℕ) (w : ℕ) → length (printed_atom (leaf_of stored w)) ≤ 400000
atom_short stored w = by (eqb (kind_of w) 3) (eqb (kind_of w) 4) refl refl
  where
    by : (n c : Bool) → eqb (kind_of w) 3 ≡ n → eqb (kind_of w) 4 ≡ c → length (printed_atom (leaf_of stored w)) ≤ 400000
    by true c e f = rw (atom_name w (eqb-true (kind_of w) 3 e) stored) (omega (arith, length-take (length_of w) (drop (start_of w) stored)))
    by false true e f = rw (atom_number w (eqb-true (kind_of w) 4 f) stored) (omega arith)
    by false false e f = rw (atom_literal w (eqb-false (kind_of w) 3 e) (eqb-false (kind_of w) 4 f) stored) (shown_short stored w)
