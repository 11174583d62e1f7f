-- Rows searched for a key: a row by its cells, and what one key column tells of a row. Assumes nothing.
use mathlib.Core.Path.{◌≡◌, sym, subst, ◌∙◌}
use mathlib.Core.Bool.{cond}
use mathlib.Core.List.{List, [], ◌∷◌}
use Prim.Native.Nat.{ℕ, ◌+◌, ◌*◌, ◌≤◌, ◌<◌}
use native.Mathlib.Omega.{arith}
use borrow.Author.Count.{below_more}
use lib.ListN.{length, drop, get_or}
use lib.Seq.{get_or-take, get_or-drop}
use denote.Enum.Declared.{tag_of}
use types.Run.{OneOf, miss}
use Rattle.std.specs.contracts.cmp.Ordering.{the_type}
use Rattle.std.specs.declared.cmp.Ordering.{Ordering}
use Rattle.std.specs.declared.cmp.Ordering.TheVariants.{Equal}
use Rattle.slices.proofs.Pieces.{piece_length}
use Rattle.values.specs.Value.{value_of}
use Rattle.values.specs.Order.{order}
use Rattle.rules.specs.Rule.{is_key}
use Rattle.tables.specs.Table.{column_count}
use Rattle.marking.specs.Marks.{part}
use Rattle.marking.proofs.Marking.{row_inside}
use Rattle.keys.specs.Key.{key_order}
use Rattle.keys.specs.Comparable.{Comparable}
use Rattle.keys.proofs.Turns.{rest, leaves, goes_on, end}
use Rattle.sorting.proofs.Reading.{piece_sound}
use Rattle.doubles.specs.Doubles.{SearchAsks}

-- ---- a row of a table

-- its cells are the table's
cell_at : (rows : List ℕ) (width i column : ℕ) → column < width → get_or (part rows width i) column 0 ≡ get_or rows (i * width + column) 0
cell_at rows width i column h = get_or-take width (drop (i * width) rows) column 0 h ∙ get_or-drop (i * width) rows column 0

-- it ends within the table
ends : (rows : List ℕ) (n width : ℕ) → n * width ≤ length rows → (i : ℕ) → i < n → i * width + width ≤ length rows
ends rows n width there i h = omega (arith, row_inside n width i h)

-- ---- the search

-- a cell that is compared is there
pub cell_there : {columns : List ℕ} {used n : ℕ} {rows row : List ℕ} → SearchAsks columns used n rows row → (i : ℕ) → i < n → (column : ℕ) → column < column_count columns
    → i * column_count columns + column < length rows
cell_there {columns} {n = n} {rows} A i h column l = omega (arith, ends rows n (column_count columns) A.there i h)

module _ (columns stored rows row : List ℕ) where
  -- a row has the key that is searched for
  abbrev pub HasKey : ℕ → Type 0
  HasKey i = key_order columns stored (part rows (column_count columns) i) row ≡ Equal

  -- what is left to compare of a row from a column on
  abbrev pub from_column : ℕ → ℕ → Ordering
  from_column i column = rest columns stored (part rows (column_count columns) i) row column

  module _ {n : ℕ} (A : SearchAsks columns (length stored) n rows row) {i : ℕ} (h : i < n) where
    -- a row of the table can be compared with the one searched for
    full : length (part rows (column_count columns) i) ≡ column_count columns
    full = piece_length (i * column_count columns) (column_count columns) rows (ends rows n (column_count columns) A.there i h)

    comparable : Comparable columns (length stored) (part rows (column_count columns) i) row
    comparable =
        record {
          whole = A.paired;
          first_full = full;
          second_full = A.full;
          first_sound = piece_sound (length stored) rows (i * column_count columns) (column_count columns) (ends rows n (column_count columns) A.there i h) A.rows_sound;
          second_sound = A.row_sound;
        }

    -- no column differs
    pub all_equal : {column : ℕ} → column_count columns ≤ column → key_order columns stored (part rows (column_count columns) i) row ≡ from_column i column → HasKey i
    all_equal {column} l e = e ∙ end columns stored _ row column (omega (arith, full))

    module _ {column : ℕ} (l : column < column_count columns) (e : key_order columns stored (part rows (column_count columns) i) row ≡ from_column i column)
        (o : Ordering)
        (f : o ≡ cond (is_key (get_or columns (2 * column + 1) 0)) (order (value_of stored (get_or rows (i * column_count columns + column) 0)) (value_of stored (get_or row column 0))) Equal) where
      -- the column's order, in the row's own words
      here : o ≡ cond (is_key (get_or columns (2 * column + 1) 0)) (order (value_of stored (get_or (part rows (column_count columns) i) column 0)) (value_of stored (get_or row column 0))) Equal
      here = rw (cell_at rows (column_count columns) i column l) f

      -- a column that differs tells that the row hasn't the key
      differs : (o ≡ Equal → ⊥) → HasKey i → ⊥
      differs k q = k (sym (leaves columns stored _ row column comparable (rw full l) o here k) ∙ sym e ∙ q)

      -- so it is passed by
      pub passed : (o ≡ Equal → ⊥) → ((k : ℕ) → k < i → HasKey k → ⊥) → (k : ℕ) → k < i + 1 → HasKey k → ⊥
      passed k none = below_more (λ m. HasKey m → ⊥) i none (differs k)

      -- one that doesn't leaves the later ones
      pub next_column : o ≡ Equal → key_order columns stored (part rows (column_count columns) i) row ≡ from_column i (column + 1)
      next_column q = e ∙ goes_on columns stored _ row column comparable (rw full l) o here q

-- an order that is one of the other two isn't Equal
pub not_equal : (o : Ordering) → OneOf (0 ∷ 2 ∷ []) (tag_of the_type o) → o ≡ Equal → ⊥
not_equal o k e = miss (0 ∷ 2 ∷ []) 1 tt (subst (λ x. OneOf (0 ∷ 2 ∷ []) (tag_of the_type x)) e k)
