-- The call `update` from its parts: what stops it in document 01's order, and the rows that the marks tell. Assumes nothing.
use mathlib.Core.Path.{◌≡◌, refl, sym, ap}
use mathlib.Core.Bool.{cond}
use mathlib.Core.List.{List}
use Prim.Native.Nat.{ℕ, ◌<◌}
use native.Mathlib.Omega.{arith}
use lib.ListN.{length, take, get_or}
use lib.Seq.{length-take-le}
use lib.Dec.{eqb}
use Rattle.refusals.specs.Stop.{Stop, never, stop_of}
use Rattle.refusals.specs.declared.Refusal.{Refusal}
use Rattle.refusals.proofs.First.{first_stops}
use Rattle.writing.specs.Writing.{WrittenIs}
use Rattle.writing.proofs.Answers.{refused_is}
use Rattle.checks.proofs.Turns.{room_there}
use Rattle.testing.specs.Test.{room_for}
use Rattle.marking.specs.RowList.{is_true}
use Rattle.marking.specs.Marks.{part}
use Rattle.marking.proofs.Lists.{mark_true}
use Rattle.checks.specs.Check.{short_stop}
use Rattle.operators.specs.Operator.{base}
use Rattle.selecting.proofs.Calls.{two_stop, written_as, Question, width_of, count_of, test_for, TableStop, condition_for, rows_for, PassedBy, MarkedBy, passed_rows}
use Rattle.setting.specs.Sets.{are_sets, sets_stop, applied}
use Rattle.updating.specs.Update.{updated, UpdateIs}
use Rattle.setting.specs.Asked.{all_words, AllAsked}
use Rattle.setting.proofs.Setting.{sets_within}
use Rattle.setting.proofs.Rows.{all_same}
use Rattle.std.specs.Prelude.{Result, Ok, Err}

-- what the call is to answer and to write; its list is the sets
abbrev pub Updates : Question → List ℕ → Result ℕ Refusal → Type 0
Updates q after = UpdateIs base q.columns q.rows q.list q.condition (take q.used q.text) (length q.text) q.used q.out after

-- where its table stops it
abbrev pub TableFor : Question → Stop
TableFor q = TableStop (are_sets q.list) q

-- where its sets stop it
abbrev pub SetsFor : Question → Stop
SetsFor q = sets_stop q.used (take q.used q.text) q.columns 0 q.list

module _ (q : Question) where
  -- the stored text ends at the mark
  pub stored_length : PassedBy (are_sets q.list) q → length (take q.used q.text) ≡ q.used
  stored_length P = length-take-le q.used q.text (omega (arith, (room_there (room_for q.condition) (length q.text) q.used P.room).1))

  module _ (T : TableFor q ≡ never) where
    -- a set that is refused
    pub update_sets : (r : Refusal) → stop_of r ≡ SetsFor q → Updates q q.out (Err r)
    update_sets r e = refused_is _ _ _ _ r (rw T (first_stops (SetsFor q) _ r (sym e)))

    module _ (S : SetsFor q ≡ never) (text' marks marks' : List ℕ) where
      -- a condition or a row that is refused
      pub update_refused : (r : Refusal) → MarkedBy q text' marks marks' (Err r) → Updates q q.out (Err r)
      update_refused r W = refused_is _ _ _ _ r (rw (T, S) (two_stop (condition_for q) (rows_for q) _ r W.says))

      module _ (k : ℕ) (W : MarkedBy q text' marks marks' (Ok k)) where
        -- a mark of 1 is a true row
        marked : (j : ℕ) → j < count_of q → eqb (get_or marks' j 0) 1 ≡ is_true (test_for q j)
        marked j h = rw W.says.2 (mark_true (test_for q) (count_of q) marks j h)

        -- what is answered once all rows are written
        pub update_written : (after : List ℕ) (a : Result ℕ Refusal)
            → WrittenIs q.out after a (short_stop (length q.out) (length (all_words q.list q.rows (width_of q) (count_of q) marks'))) (count_of q)
            (all_words q.list q.rows (width_of q) (count_of q) marks') → Updates q after a
        update_written after a h =
            let w : all_words q.list q.rows (width_of q) (count_of q) marks' ≡ updated (test_for q) q.columns q.rows q.list
            = all_same _ _ 0 (count_of q) (λ j l i. ap (λ x. cond x (applied q.list (part q.rows (width_of q) j)) (part q.rows (width_of q) j)) (marked j (omega arith))) in
            written_as q.out after a (rw (T, S, ← w) (passed_rows q text' marks marks' k W _)) refl w h

  -- the rows may be written
  pub update_asks : PassedBy (are_sets q.list) q → SetsFor q ≡ never → (marks : List ℕ) → length marks ≡ 4096
      → AllAsked q.list q.rows marks (width_of q) (count_of q)
  update_asks P S marks l =
      record { within = sets_within q.used (take q.used q.text) q.columns 0 q.list S; whole = P.whole; marked = omega (arith, P.few) }
