-- Where a row lies that is there. Assumes nothing.
use mathlib.Core.Path.{◌≡◌, refl, sym, ap, ◌∙◌}
use mathlib.Core.Bool.{Bool, true, false, cond}
use mathlib.Core.List.{List, []}
use Prim.Native.Nat.{ℕ, ◌+◌, ◌*◌, ◌/◌, ◌%◌, ◌≤◌}
use native.Mathlib.Omega.{arith}
use lib.ListN.{length}
use lib.Dec.{ltb, leb, eqb}
use borrow.Author.Tests.{ltb-true, leb-true, ne_eqb}
use Rattle.slices.specs.Splice.{piece}
use Rattle.slices.specs.Bytes.{both}
use Rattle.slices.proofs.Pieces.{piece_length}
use Rattle.slices.proofs.Both.{both_true}
use Rattle.tables.specs.Table.{is_column_count, row_at}
use Rattle.tables.proofs.Reading.{inside}
use Rattle.answers.specs.Row.{PartIs}
use Rattle.answers.specs.declared.Part.{Part}

-- a part that is not empty was picked by its test
picked : (t : Bool) (l : List ℕ) → (length (cond t l []) ≡ 0 → ⊥) → (t ≡ true) × (cond t l [] ≡ l)
picked true l n = (refl, refl)
picked false l n = absurd (n refl)

module _ (rows : List ℕ) (width number : ℕ) (n : length (row_at rows width number) ≡ 0 → ⊥) where
  -- its number is a row's
  tested : both (is_column_count width) (both (eqb (length rows % width) 0) (ltb number (length rows / width))) ≡ true
  unfolding row_at
  tested = (picked (both (is_column_count width) (both (eqb (length rows % width) 0) (ltb number (length rows / width)))) (piece (number * width) width rows) n).0

  pub row_inside : number * width + width ≤ length rows
  row_inside =
      let t = both_true (is_column_count width) (both (eqb (length rows % width) 0) (ltb number (length rows / width))) tested in
      let w = both_true (leb 1 width) (leb width 32) t.0 in
      let k = both_true (eqb (length rows % width) 0) (ltb number (length rows / width)) t.1 in
      inside (length rows) width number (omega (arith, leb-true 1 width w.0)) (ltb-true number (length rows / width) k.1)

  row_piece : row_at rows width number ≡ piece (number * width) width rows
  unfolding row_at
  row_piece = (picked (both (is_column_count width) (both (eqb (length rows % width) 0) (ltb number (length rows / width)))) (piece (number * width) width rows) n).1

  row_long : length (row_at rows width number) ≡ width
  row_long = ap length row_piece ∙ piece_length (number * width) width rows row_inside

  pub part_there : (p : Part) → p.start ≡ number * width → p.length ≡ length (row_at rows width number) → PartIs rows width number p
  part_there p s l = record {
    long = l;
    begins = rw (ne_eqb (length (row_at rows width number)) 0 n) s;
    words = rw (s, l, row_long) (sym row_piece);
  }
