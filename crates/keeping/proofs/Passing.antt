-- What every call on one table looks at first: which check stops it, and what is known where none does. Assumes nothing.
use mathlib.Core.Path.{◌≡◌, sym}
use mathlib.Core.Bool.{Bool, true, false}
use mathlib.Core.List.{List, [], ◌∷◌}
use Prim.Native.Nat.{ℕ, ◌*◌, ◌≤◌}
use native.Mathlib.Omega.{arith}
use lib.ListN.{length}
use Rattle.refusals.specs.Stop.{never, stop}
use Rattle.refusals.proofs.First.{never_both, nothing_behind}
use Rattle.slices.specs.Bytes.{both}
use Rattle.slices.proofs.Both.{both_true}
use Rattle.checks.specs.Check.{room_stop, cells_stop}
use Rattle.evaluation.proofs.Stopping.{row_right}
use Rattle.tables.specs.Table.{column_count, is_table, are_rows, count_stop, words_stop}
use Rattle.tables.proofs.Words.{Counted, table_counted, words_sound, count_right, rows_whole}
use Rattle.testing.specs.Test.{room_for}
use Rattle.marking.specs.Marks.{TableAsks}
use Rattle.marking.proofs.Lists.{cells_anywhere}
use Rattle.keeping.specs.Table.{row_count, table_stop}

-- ---- which check stops it

module _ (counts : Bool) (b columns rows : List ℕ) (size used : ℕ) where
  -- each check in turn
  module _ (R : room_stop (room_for b) size used ≡ never) where
    module _ (T : is_table columns ≡ true) where
      pub rows_stop_lem : are_rows (column_count columns) rows ≡ false → stop 8 0 ≡ table_stop counts b columns rows size used
      rows_stop_lem e = rw (R, T, e)

      module _ (W : are_rows (column_count columns) rows ≡ true) where
        pub words_stop_lem : counts ≡ true → words_stop used (columns ∷ [] ∷ []) (rows ∷ [] ∷ []) ≡ table_stop counts b columns rows size used
        words_stop_lem e = rw (R, T, W, e) (sym (nothing_behind (words_stop used (columns ∷ [] ∷ []) (rows ∷ [] ∷ []))))

-- ---- where none does

-- what is known of a table that was passed
pub record Passed (counts : Bool) (b columns rows : List ℕ) (size used : ℕ) : Type 0 where
  pub right : counts ≡ true
  pub room : room_stop (room_for b) size used ≡ never
  pub table : Counted columns
  pub whole : length rows ≡ row_count columns rows * column_count columns
  pub few : row_count columns rows ≤ 4096
  pub cells : (place : ℕ) → cells_stop used place rows ≡ never

-- nothing stopped it
pub table_passed : (counts : Bool) (b columns rows : List ℕ) (size used : ℕ) → table_stop counts b columns rows size used ≡ never → Passed counts b columns rows size used
table_passed counts b columns rows size used e =
    let r = never_both (room_stop (room_for b) size used) _ e in
    let c = never_both (count_stop (both (both (is_table columns) (are_rows (column_count columns) rows)) counts)) _ r.1 in
    let w = words_sound used columns [] rows [] (never_both (words_stop used (columns ∷ [] ∷ []) (rows ∷ [] ∷ [])) never c.1).0 in
    let n = both_true (both (is_table columns) (are_rows (column_count columns) rows)) counts (count_right _ c.0) in
    let t = both_true (is_table columns) _ n.0 in
    let h = rows_whole (column_count columns) rows t.1 in
    record {
      right = n.1;
      room = r.0;
      table = table_counted columns t.0;
      whole = h.0;
      few = h.1;
      cells = λ place. cells_anywhere used _ place rows w.2;
    }

-- its rows may be marked
pub passed_asks : {counts : Bool} {b columns rows : List ℕ} {used : ℕ} (text marks : List ℕ) → Passed counts b columns rows (length text) used → length marks ≡ 4096
    → TableAsks b used (row_count columns rows) (column_count columns) rows text marks
passed_asks text marks P l =
    record {
      room = P.room;
      wide = row_right _ P.table.some P.table.few;
      whole = P.whole;
      cells = P.cells;
      few = P.few;
      space = omega (arith, P.few);
    }
