-- How a cell's value is printed, by the kind of its word. Assumes nothing.
use mathlib.Core.Path.{◌≡◌, refl}
use mathlib.Core.Bool.{Bool, true, false}
use mathlib.Core.List.{List, [], ◌∷◌}
use Prim.Native.Nat.{ℕ, ◌+◌, ◌^◌, ◌%◌, ◌≤◌}
use native.Mathlib.Omega.{arith}
use lib.ListN.{length, drop, length-take}
use lib.Dec.{eqb}
use borrow.Author.Tests.{eqb-true, eqb-false}
use mir.Syntax.{w32}
use mir.Val.{to_z}
use Rattle.slices.specs.Splice.{piece}
use Rattle.cells.specs.Cell.{kind_of, start_of, length_of, WellFormed}
use Rattle.cells.proofs.Words.{ref_int, ref_str, ref_binary, ref_null}
use Rattle.cells.proofs.Stops.{never_stops, ends_inside}
use Rattle.values.specs.Value.{value_of, to_value}
use Rattle.quoting.specs.Quote.{quoted}
use Rattle.display.specs.Display.{decimal, display}
use Rattle.display.proofs.Decimal.{decimal_short}
use Rattle.quoting.proofs.Quoting.{quoted_short}

module _ (stored : List ℕ) (w : ℕ) where
  -- an Int
  pub shown_int : kind_of w ≡ 1 → display (value_of stored w) ≡ decimal (to_z w32 (w % 2 ^ 32))
  unfolding display to_value
  shown_int e = rw (ref_int w e)

  -- a text
  pub shown_text : kind_of w ≡ 2 → display (value_of stored w) ≡ quoted (piece (start_of w) (length_of w) stored)
  unfolding display to_value
  shown_text e = rw (ref_str w e)

  -- Binary
  pub shown_binary : kind_of w ≡ 3 → display (value_of stored w) ≡ 66 ∷ 73 ∷ 78 ∷ 65 ∷ 82 ∷ 89 ∷ 95 ∷ 83 ∷ 84 ∷ 82 ∷ 69 ∷ 65 ∷ 77 ∷ []
  unfolding display to_value
  shown_binary e = rw (ref_binary w e)

  -- any other word is Null's
  pub shown_null : (kind_of w ≡ 1 → ⊥) → (kind_of w ≡ 2 → ⊥) → (kind_of w ≡ 3 → ⊥) → display (value_of stored w) ≡ 78 ∷ 85 ∷ 76 ∷ 76 ∷ []
  unfolding display to_value
  shown_null i s b = rw (ref_null w i s b)

  -- a text of a well-formed word ends within the stored text
  pub text_inside : kind_of w ≡ 2 → WellFormed (length stored) w → start_of w + length_of w ≤ length stored
  text_inside e h = ends_inside (length stored) w e (never_stops (length stored) w 0 h).1

  -- a text has at most 65,535 bytes, and each takes at most 6
  pub shown_short : length (display (value_of stored w)) ≤ 400000
  shown_short = by (eqb (kind_of w) 1) (eqb (kind_of w) 2) (eqb (kind_of w) 3) refl refl refl
    where
      by : (i s b : Bool) → eqb (kind_of w) 1 ≡ i → eqb (kind_of w) 2 ≡ s → eqb (kind_of w) 3 ≡ b → length (display (value_of stored w)) ≤ 400000
      by true s b e f g = rw (shown_int (eqb-true (kind_of w) 1 e)) (omega (arith, decimal_short (to_z w32 (w % 2 ^ 32))))
      by false true b e f g =
          rw (shown_text (eqb-true (kind_of w) 2 f))
          (omega (arith, quoted_short (piece (start_of w) (length_of w) stored), length-take (length_of w) (drop (start_of w) stored)))
      by false false true e f g = rw (shown_binary (eqb-true (kind_of w) 3 g)) (omega arith)
      by false false false e f g = rw (shown_null (eqb-false (kind_of w) 1 e) (eqb-false (kind_of w) 2 f) (eqb-false (kind_of w) 3 g)) (omega arith)
