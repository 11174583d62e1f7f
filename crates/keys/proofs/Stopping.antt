-- The checks of two rows: what is given where one of them stops, and what is known where none does. Assumes nothing.
use mathlib.Core.Path.{◌≡◌}
use mathlib.Core.List.{List, [], ◌∷◌}
use Prim.Native.Nat.{ℕ, ◌≤◌}
use native.Mathlib.Omega.{arith}
use lib.ListN.{length, take}
use lib.Seq.{length-take-le}
use lib.Dec.{eqb}
use borrow.Author.Tests.{eqb-true}
use Rattle.refusals.specs.Stop.{never, stop_of}
use Rattle.refusals.specs.declared.Refusal.{Refusal}
use Rattle.refusals.proofs.First.{never_both}
use Rattle.slices.specs.Bytes.{both}
use Rattle.slices.proofs.Both.{both_true}
use Rattle.checks.specs.Check.{room_stop}
use Rattle.checks.proofs.Turns.{room_there, cells_sound}
use Rattle.tables.specs.Table.{column_count, is_table, count_stop, words_stop}
use Rattle.tables.proofs.Words.{words_sound, table_counted, count_right}
use Rattle.keys.specs.Key.{key_order, pick, rows_stop, earlier_of}
use Rattle.keys.specs.Comparable.{Comparable}

module _ (columns text : List ℕ) (used : ℕ) (first second : List ℕ) where
  -- a refusal gives the empty part
  pub nothing_given : (r : Refusal) → rows_stop columns (length text) used first second ≡ stop_of r → [] ≡ earlier_of columns text used first second
  unfolding earlier_of
  nothing_given r e = rw e

  module _ (passed : rows_stop columns (length text) used first second ≡ never) where
    -- where no check stops, one of the two rows is picked
    pub one_given : pick (key_order columns (take used text) first second) first second ≡ earlier_of columns text used first second
    unfolding earlier_of
    one_given = rw passed

    -- the mark lies inside the text
    pub inside : used ≤ length text
    inside = omega (arith, (room_there 0 (length text) used (never_both (room_stop 0 (length text) used) _ passed).0).1)

    -- and the rows are such as comparing asks
    pub comparable : Comparable columns (length (take used text)) first second
    comparable =
        let later = (never_both (room_stop 0 (length text) used) _ passed).1 in
        let c = never_both (count_stop (both (is_table columns) (both (eqb (length first) (column_count columns)) (eqb (length second) (column_count columns))))) _ later in
        let t = both_true (is_table columns) (both (eqb (length first) (column_count columns)) (eqb (length second) (column_count columns))) (count_right _ c.0) in
        let l = both_true (eqb (length first) (column_count columns)) _ t.1 in
        let q = words_sound used columns [] first second (never_both (words_stop used (columns ∷ [] ∷ []) (first ∷ second ∷ [])) never c.1).0 in
        rw (length-take-le used text inside)
        (record {
          whole = (table_counted columns t.0).whole;
          first_full = eqb-true (length first) (column_count columns) l.0;
          second_full = eqb-true (length second) (column_count columns) l.1;
          first_sound = record { cells = cells_sound used _ first q.2 };
          second_sound = record { cells = cells_sound used _ second q.3 };
        })
