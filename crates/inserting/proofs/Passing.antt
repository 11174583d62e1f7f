-- What insert looks at before it writes: what is known where no check stops it, and what stops it where nothing before does. Assumes nothing.
use mathlib.Core.Path.{◌≡◌, sym, ◌∙◌}
use mathlib.Core.List.{List, [], ◌∷◌, ◌++◌}
use Prim.Native.Nat.{ℕ, ◌≤◌}
use native.Mathlib.Omega.{arith}
use mathlib.Core.Bool.{true}
use Rattle.std.specs.Prelude.{Result, Err, ⊤}
use Rattle.refusals.specs.declared.Refusal.{Refusal}
use Rattle.refusals.specs.Stop.{never, or_else, checked_of}
use Rattle.refusals.proofs.First.{never_both, nothing_behind, refused_first}
use Rattle.slices.specs.Bytes.{both}
use Rattle.slices.proofs.Both.{both_true}
use Rattle.checks.specs.Check.{room_stop}
use Rattle.checks.proofs.Turns.{room_there, cells_sound}
use Rattle.tables.specs.Table.{column_count, is_table, are_rows, count_stop, words_stop}
use Rattle.tables.proofs.Words.{Counted, table_counted, words_sound, count_right, rows_whole}
use Rattle.sorting.specs.Sorted.{double_stop, new_stop}
use Rattle.sorting.specs.Rows.{compare_rows, RowsSound}
use Rattle.doubles.specs.Doubles.{values_stop}
use Rattle.inserting.specs.Insert.{rows_in, lent_stop, keys_stop}

-- ---- 10, counts, words

-- what is known where none of these stops it
pub record Lent (columns old new : List ℕ) (size used : ℕ) : Type 0 where
  pub inside : used ≤ size
  pub table : Counted columns
  pub old_rows : RowsSound columns used (rows_in columns old) old
  pub new_rows : RowsSound columns used (rows_in columns new) new

-- where no check stops it, all this holds of what it was lent
pub lent : (columns old new : List ℕ) (size used : ℕ) → lent_stop columns old new size used ≡ never → Lent columns old new size used
lent columns old new size used e =
    let r = never_both (room_stop 0 size used) _ e in
    let c = never_both (count_stop (both (is_table columns) (both (are_rows (column_count columns) old) (are_rows (column_count columns) new)))) _ r.1 in
    let w = words_sound used columns [] old new (never_both (words_stop used (columns ∷ [] ∷ []) (old ∷ new ∷ [])) never c.1).0 in
    let t = both_true (is_table columns) _ (count_right _ c.0) in
    let b = both_true (are_rows (column_count columns) old) _ t.1 in
    let table : Counted columns = table_counted columns t.0 in
    let h = rows_whole (column_count columns) old b.0 in
    let k = rows_whole (column_count columns) new b.1 in
    record {
      inside = omega (arith, (room_there 0 size used r.0).1);
      table = table;
      old_rows = record { paired = table.whole; filled = table.some; whole = h.0; few = h.1; sound = record { cells = cells_sound used _ old w.2 } };
      new_rows = record { paired = table.whole; filled = table.some; whole = k.0; few = k.1; sound = record { cells = cells_sound used _ new w.3 } };
    }

-- ---- 13, 14, 11, 12

module _ (columns stored old : List ℕ) (m : ℕ) (new : List ℕ) (n : ℕ) where
  pub keys_never : keys_stop columns stored old m new n ≡ never → (double_stop (compare_rows columns stored (old ++ new)) 0 m ≡ never) × (new_stop (compare_rows columns stored (old ++ new)) m 0 n ≡ never)
  keys_never e =
      let a = never_both (values_stop columns stored 0 new) (or_else (double_stop (compare_rows columns stored (old ++ new)) 0 m) (or_else (new_stop (compare_rows columns stored (old ++ new)) m 0 n) never)) e in
      let b = never_both (double_stop (compare_rows columns stored (old ++ new)) 0 m) (or_else (new_stop (compare_rows columns stored (old ++ new)) m 0 n) never) a.1 in
      (b.0, sym (nothing_behind (new_stop (compare_rows columns stored (old ++ new)) m 0 n)) ∙ b.1)

-- ---- what stops insert where nothing before it does

pub words_stop_lem : (columns old new : List ℕ) (size used : ℕ) → room_stop 0 size used ≡ never → is_table columns ≡ true → are_rows (column_count columns) old ≡ true
    → are_rows (column_count columns) new ≡ true → words_stop used (columns ∷ [] ∷ []) (old ∷ new ∷ []) ≡ lent_stop columns old new size used
words_stop_lem columns old new size used R T O e = rw (R, T, O, e) (sym (nothing_behind (words_stop used (columns ∷ [] ∷ []) (old ∷ new ∷ []))))

-- a new value is not valid
pub values_stop_lem : (columns stored old : List ℕ) (m : ℕ) (new : List ℕ) (n : ℕ) (a : Result ⊤ Refusal) → checked_of a ≡ values_stop columns stored 0 new
    → (r : Refusal) → a ≡ Err r → checked_of a ≡ keys_stop columns stored old m new n
values_stop_lem columns stored old m new n a f r e = refused_first a (values_stop columns stored 0 new) _ r e f
