-- Old and new rows checked for double keys, one after another: what the search for a row's key asks, and what it tells. Assumes nothing.
use mathlib.Core.Path.{◌≡◌, sym, ap₂, ◌∙◌}
use mathlib.Core.Bool.{Bool, true, false}
use mathlib.Core.List.{List, ◌++◌}
use Prim.Native.Nat.{ℕ, ◌+◌, ◌-◌, ◌*◌, ◌≤◌, ◌<◌}
use native.Mathlib.Nat.{zero-add, mul-le-mul_right}
use native.Mathlib.Omega.{arith}
use lib.ListN.{length}
use Rattle.refusals.specs.Stop.{stop}
use Rattle.tables.specs.Table.{column_count}
use Rattle.marking.specs.Marks.{part}
use Rattle.marking.proofs.Marking.{row_read, row_read_lem}
use Rattle.keys.specs.Key.{key_order}
use Rattle.sorting.specs.Sorted.{Compare, double_stop, new_stop}
use Rattle.sorting.specs.Rows.{compare_rows, RowsSound}
use Rattle.sorting.proofs.Reading.{row_full, row_sound}
use Rattle.sorting.proofs.Joined.{part_old, part_new}
use Rattle.std.specs.Prelude.{Option, Some, None, is_some}
use Rattle.doubles.specs.Doubles.{SearchAsks, FirstEqual, FoundEqual}
use Rattle.doubles.proofs.Among.{found, not_found, double_turn, new_turn}

-- a search that finds a row, and one that finds none
module _ {columns stored rows : List ℕ} {n : ℕ} {row : List ℕ} where
  pub found_some : (o : Option ℕ) → is_some o ≡ true → FoundEqual columns stored rows n row o → (r : ℕ) × FirstEqual columns stored rows n row r × (r < n)
  found_some (Some r) e h = (r, h.0, h.1)
  found_some None e h = absurd (let z : ◌≡◌ {A = Bool} false true = e in let y : ◌≡◌ {A = ℕ} 0 1 = cc in omega arith)

  pub found_none : (o : Option ℕ) → is_some o ≡ false → FoundEqual columns stored rows n row o → FirstEqual columns stored rows n row n
  found_none (Some r) e h = absurd (let z : ◌≡◌ {A = Bool} true false = e in let y : ◌≡◌ {A = ℕ} 0 1 = cc in omega arith)
  found_none None e h = h

-- the key of a row of one table may be searched for among the first rows of another, or of the same
pub search_asks : {columns : List ℕ} {used m n : ℕ} {searched rows : List ℕ} → RowsSound columns used m searched → RowsSound columns used n rows → (i k : ℕ) → i < n → k ≤ m
    → SearchAsks columns used k searched (row_read rows (column_count columns) i)
search_asks {columns} {m = m} {rows = rows} R S i k h l =
    let fewer : k * column_count columns ≤ m * column_count columns = mul-le-mul_right (column_count columns) l in
    rw (row_read_lem rows (column_count columns) i) (record {
      paired = R.paired;
      there = omega (arith, fewer, R.whole);
      full = row_full S i h;
      rows_sound = R.sound;
      row_sound = row_sound S i h;
    })

-- ---- an old row

module _ (columns stored rows : List ℕ) (n i : ℕ) (h : i < n) (r : ℕ) (F : FirstEqual columns stored rows i (row_read rows (column_count columns) i) r) where
  -- the rows as the definition numbers them
  old_same : (j : ℕ) → j < i → compare_rows columns stored rows (0 + j) i ≡ key_order columns stored (part rows (column_count columns) j) (row_read rows (column_count columns) i)
  old_same j l = rw (zero-add j, row_read_lem rows (column_count columns) i)

  -- an earlier one has its key, or none has
  pub old_twice : r < i → double_stop (compare_rows columns stored rows) i (n - i) ≡ stop 14 i
  old_twice l = double_turn (compare_rows columns stored rows) i n h ∙ (rw (found F (compare_rows columns stored rows) i 0 old_same l))

  pub old_on : i ≤ r → double_stop (compare_rows columns stored rows) i (n - i) ≡ double_stop (compare_rows columns stored rows) (i + 1) (n - (i + 1))
  old_on l = double_turn (compare_rows columns stored rows) i n h ∙ (rw (not_found F (compare_rows columns stored rows) i 0 old_same l))

-- ---- a new row

module _ (columns stored old : List ℕ) (m : ℕ) (new : List ℕ) (whole : length old ≡ m * column_count columns) (n k : ℕ) (h : k < n) where
  -- old and new rows by key
  abbrev all : Compare
  all = compare_rows columns stored (old ++ new)

  -- the new row in the whole
  here : part (old ++ new) (column_count columns) (m + k) ≡ row_read new (column_count columns) k
  here = part_new old new (column_count columns) m whole k ∙ sym (row_read_lem new (column_count columns) k)

  module _ (r : ℕ) (F : FirstEqual columns stored old m (row_read new (column_count columns) k) r) where
    old_numbered : (j : ℕ) → j < m → all (0 + j) (m + k) ≡ key_order columns stored (part old (column_count columns) j) (row_read new (column_count columns) k)
    old_numbered j l = rw (zero-add j) (ap₂ (key_order columns stored) (part_old old new (column_count columns) m whole j l) here)

    -- an old row has its key
    pub taken : r < m → new_stop all m k (n - k) ≡ stop 11 k
    taken l = new_turn all k n m h ∙ (rw (found F all (m + k) 0 old_numbered l))

    module _ (none : m ≤ r) (s : ℕ) (G : FirstEqual columns stored new k (row_read new (column_count columns) k) s) where
      new_numbered : (j : ℕ) → j < k → all (m + j) (m + k) ≡ key_order columns stored (part new (column_count columns) j) (row_read new (column_count columns) k)
      new_numbered j l = ap₂ (key_order columns stored) (part_new old new (column_count columns) m whole j) here

      -- an earlier new row has its key, or none has
      pub repeated : s < k → new_stop all m k (n - k) ≡ stop 12 k
      repeated l = new_turn all k n m h ∙ (rw (not_found F all (m + k) 0 old_numbered none, found G all (m + k) m new_numbered l))

      pub new_on : k ≤ s → new_stop all m k (n - k) ≡ new_stop all m (k + 1) (n - (k + 1))
      new_on l = new_turn all k n m h ∙ (rw (not_found F all (m + k) 0 old_numbered none, not_found G all (m + k) m new_numbered l))
