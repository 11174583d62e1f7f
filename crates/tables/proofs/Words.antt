-- The first fault of the words given, one list after another. Assumes nothing.
use mathlib.Core.Path.{◌≡◌, refl, sym, ◌∙◌}
use mathlib.Core.Bool.{Bool, true, false}
use mathlib.Core.List.{List, [], ◌∷◌}
use Prim.Native.Nat.{ℕ, ◌+◌, ◌*◌, ◌/◌, ◌%◌, ◌≤◌}
use native.Mathlib.Omega.{arith}
use native.Mathlib.Nat.{div-add-mod'}
use lib.ListN.{length}
use lib.Dec.{leb, eqb}
use borrow.Author.Tests.{eqb-true, leb-true, leb-false, le-leb, lt-leb}
use Rattle.refusals.specs.Stop.{never, or_else}
use Rattle.refusals.proofs.First.{never_both, nothing_behind, in_a_row}
use Rattle.slices.proofs.Both.{both_true}
use Rattle.columns.specs.Column.{columns_stop}
use Rattle.checks.specs.Check.{cells_stop}
use Rattle.tables.specs.Table.{column_count, is_table, are_rows, count_stop, column_words_stop, cell_words_stop, words_stop}

-- two column tables and two tables of rows, one check after another
pub words_are : (used : ℕ) (left right first second : List ℕ) →
    words_stop used (left ∷ right ∷ []) (first ∷ second ∷ [])
    ≡ or_else (columns_stop used 0 left)
    (or_else (columns_stop used (length left) right)
    (or_else (cells_stop used (length left + length right) first) (cells_stop used (length left + length right + length first) second)))
unfolding column_words_stop cell_words_stop
words_are used left right first second =
    let n : length left + (length right + 0) ≡ length left + length right = omega arith in
    let z : 0 + length left ≡ length left = omega arith in
    rw (n, z, nothing_behind (columns_stop used (length left) right), nothing_behind (cells_stop used (length left + length right + length first) second))
    (in_a_row (columns_stop used 0 left) (columns_stop used (length left) right) (or_else (cells_stop used (length left + length right) first) (cells_stop used (length left + length right + length first) second)))

-- a list of columns that isn't given has no fault
pub no_columns : (used place : ℕ) → columns_stop used place [] ≡ never
unfolding columns_stop
no_columns used place = refl

-- a list of cells that isn't given has no fault
pub no_cells : (used place : ℕ) → cells_stop used place [] ≡ never
unfolding cells_stop
no_cells used place = refl

-- where no word is at fault, none of its lists is
pub words_sound : (used : ℕ) (left right first second : List ℕ) → words_stop used (left ∷ right ∷ []) (first ∷ second ∷ []) ≡ never
    → (columns_stop used 0 left ≡ never) × (columns_stop used (length left) right ≡ never) × (cells_stop used (length left + length right) first ≡ never)
    × (cells_stop used (length left + length right + length first) second ≡ never)
words_sound used left right first second h =
    let a = never_both (columns_stop used 0 left) _ (sym (words_are used left right first second) ∙ h) in
    let b = never_both (columns_stop used (length left) right) _ a.1 in
    let c = never_both (cells_stop used (length left + length right) first) _ b.1 in
    (a.0, b.0, c.0, c.1)

-- ---- counts

-- a table has 2 to 64 words, two a column
pub record Counted (columns : List ℕ) : Type 0 where
  pub whole : length columns ≡ 2 * column_count columns
  pub some : 1 ≤ column_count columns
  pub few : column_count columns ≤ 32

-- a list of columns that is a table has so many words
pub table_counted : (columns : List ℕ) → is_table columns ≡ true → Counted columns
unfolding is_table
table_counted columns e =
    let a = both_true (eqb (length columns % 2) 0) _ e in
    let b = both_true (leb 1 (column_count columns)) _ a.1 in
    let m : length columns % 2 ≡ 0 = eqb-true (length columns % 2) 0 a.0 in
    record { whole = omega arith; some = leb-true 1 (column_count columns) b.0; few = leb-true (column_count columns) 32 b.1 }

-- an even number of words is at most 64 exactly if half of it is at most 32
pub halves : (n : ℕ) → n % 2 ≡ 0 → leb n 64 ≡ leb (n / 2) 32
halves n e = by (leb n 64) refl
  where
    by : (x : Bool) → leb n 64 ≡ x → x ≡ leb (n / 2) 32
    by true q = sym (le-leb (n / 2) 32 (omega (arith, leb-true n 64 q)))
    by false q = sym (lt-leb (n / 2) 32 (omega (arith, leb-false n 64 q)))

-- counts that don't stop are right
pub count_right : (x : Bool) → count_stop x ≡ never → x ≡ true
count_right true e = refl
count_right false e = absurd (let z : ◌≡◌ {A = ℕ} 0 1 = cc in omega arith)

-- a whole number of rows
pub rows_whole : (width : ℕ) (rows : List ℕ) → are_rows width rows ≡ true → (length rows ≡ length rows / width * width) × (length rows / width ≤ 4096)
unfolding are_rows
rows_whole width rows e =
    let h = both_true (eqb (length rows % width) 0) _ e in
    (omega (arith, div-add-mod' (length rows) width, eqb-true (length rows % width) 0 h.0), leb-true (length rows / width) 4096 h.1)
