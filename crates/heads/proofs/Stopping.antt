-- The words' own check is the last to stop the call; what is known where none does. Assumes nothing.
use mathlib.Core.Path.{◌≡◌}
use mathlib.Core.Bool.{true}
use mathlib.Core.List.{List, [], ◌∷◌}
use Prim.Native.Nat.{ℕ, ◌+◌, ◌≤◌}
use lib.ListN.{length}
use lib.Dec.{ltb, leb}
use borrow.Author.Tests.{le-ltb, le-leb, leb-true}
use Rattle.refusals.specs.Stop.{Stop, never, stop_if}
use Rattle.refusals.proofs.First.{never_both}
use Rattle.slices.specs.Bytes.{both}
use Rattle.slices.proofs.Both.{both_true}
use Rattle.columns.specs.Column.{columns_stop}
use Rattle.checks.specs.Check.{room_stop, cells_stop}
use Rattle.checks.proofs.Turns.{room_there}
use Rattle.tables.specs.Table.{column_count, is_table, are_sides, count_stop, cell_words_stop, words_stop}
use Rattle.tables.proofs.Words.{Counted, table_counted, count_right, words_sound}
use Rattle.heads.specs.Heads.{head_stop}

-- what is known where no check stops the call
pub record Passed (left right : List ℕ) (size used : ℕ) : Type 0 where
  pub small : size ≤ 65536
  pub room : used + 32768 ≤ size
  pub left_counted : Counted left
  pub right_counted : Counted right
  pub few : column_count left + column_count right ≤ 32
  pub left_sound : columns_stop used 0 left ≡ never
  pub right_sound : columns_stop used (length left) right ≡ never

module _ (left_name left right_name right : List ℕ) (size used : ℕ) where
  -- the first stop
  abbrev whole : Stop
  whole = head_stop left_name left right_name right size used

  module _ (room : room_stop 32768 size used ≡ never) where
    module _ (l : is_table left ≡ true) (r : is_table right ≡ true) (few : column_count left + column_count right ≤ 32) where
      -- the counts are right
      sides : are_sides left right ≡ true
      sides = rw (l, r, le-leb (column_count left + column_count right) 32 few)

      -- the words' own check is left
      pub the_words : length left_name ≤ 255 → length right_name ≤ 255 → words_stop used (left ∷ right ∷ []) ([] ∷ [] ∷ []) ≡ whole
      unfolding cell_words_stop cells_stop
      the_words n m = rw (room, sides, le-ltb 255 (length left_name) n, le-ltb 255 (length right_name) m)

  -- nothing stops the call
  pub passed : whole ≡ never → Passed left right size used
  unfolding cell_words_stop cells_stop
  passed h =
      let a = never_both (room_stop 32768 size used) _ h in
      let b = never_both (count_stop (are_sides left right)) _ a.1 in
      let c = never_both (stop_if (ltb 255 (length left_name)) 3 0) _ b.1 in
      let d = never_both (stop_if (ltb 255 (length right_name)) 3 0) _ c.1 in
      let there = room_there 32768 size used a.0 in
      let counts = both_true (both (is_table left) (is_table right)) (leb (column_count left + column_count right) 32) (count_right _ b.0) in
      let tables = both_true (is_table left) (is_table right) counts.0 in
      let words = words_sound used left right [] [] d.1 in
      record {
        small = there.0;
        room = there.1;
        left_counted = table_counted left tables.0;
        right_counted = table_counted right tables.1;
        few = leb-true (column_count left + column_count right) 32 counts.1;
        left_sound = words.0;
        right_sound = words.1;
      }
