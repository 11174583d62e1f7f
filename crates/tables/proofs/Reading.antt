-- Reading one row: which part it is. Assumes nothing.
use mathlib.Core.Path.{◌≡◌}
use mathlib.Core.List.{List, []}
use Prim.Native.Nat.{ℕ, ◌+◌, ◌*◌, ◌/◌, ◌%◌, ◌≤◌, ◌<◌}
use native.Mathlib.Omega.{arith}
use native.Mathlib.Nat.{le-div_iff_mul-le, add-mul, one-mul}
use lib.ListN.{length}
use borrow.Author.Tests.{lt-ltb, le-ltb, lt-leb, le-leb, eq-eqb, ne_eqb}
use Rattle.slices.specs.Splice.{piece}
use Rattle.tables.specs.Table.{row_at}

module _ (rows : List ℕ) (width number : ℕ) where
  pub no_width : width < 1 → [] ≡ row_at rows width number
  unfolding row_at
  no_width h = rw (lt-leb 1 width h)

  module _ (one : 1 ≤ width) where
    pub wide : 32 < width → [] ≡ row_at rows width number
    unfolding row_at
    wide h = rw (le-leb 1 width one, lt-leb width 32 h)

    module _ (few : width ≤ 32) where
      pub no_multiple : (length rows % width ≡ 0 → ⊥) → [] ≡ row_at rows width number
      unfolding row_at
      no_multiple h = rw (le-leb 1 width one, le-leb width 32 few, ne_eqb (length rows % width) 0 h)

      module _ (m : length rows % width ≡ 0) where
        pub too_large : length rows / width ≤ number → [] ≡ row_at rows width number
        unfolding row_at
        too_large h = rw (le-leb 1 width one, le-leb width 32 few, eq-eqb (length rows % width) 0 m, le-ltb number (length rows / width) h)

        pub there : number < length rows / width → piece (number * width) width rows ≡ row_at rows width number
        unfolding row_at
        there h = rw (le-leb 1 width one, le-leb width 32 few, eq-eqb (length rows % width) 0 m, lt-ltb number (length rows / width) h)

-- a row that is there lies within the rows
pub inside : (n width number : ℕ) → 0 < width → number < n / width → number * width + width ≤ n
inside n width number z h =
    let a : (number + 1) * width ≤ n = (le-div_iff_mul-le z).0 (omega arith) in
    let d : (number + 1) * width ≡ number * width + 1 * width = add-mul number 1 width in
    let e : 1 * width ≡ width = one-mul width in
    omega arith
