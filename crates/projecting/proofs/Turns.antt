-- Rows written one after another: the invariant of the loop, a row passed by, a row written, and the end. Assumes nothing.
use mathlib.Core.Path.{◌≡◌, sym, ap, subst, ◌∙◌}
use mathlib.Core.Bool.{Bool, true, false}
use mathlib.Core.List.{List, [], ◌++◌}
use Prim.Native.Nat.{ℕ, ◌+◌, ◌-◌, ◌*◌, ◌≤◌, ◌<◌}
use native.Mathlib.Omega.{arith}
use lib.ListN.{length, get_or, length-append}
use borrow.Author.Tests.{eq-eqb}
use Rattle.refusals.specs.Stop.{never}
use Rattle.slices.specs.Splice.{splice, Wrote}
use Rattle.slices.proofs.Splice.{splice_nil, splice_append, wrote_length}
use Rattle.slices.proofs.Pieces.{piece_length}
use Rattle.marking.specs.RowList.{kept_from, words_of}
use Rattle.marking.specs.Marks.{part}
use Rattle.marking.proofs.Lists.{kept_turn, kept_end, words_none, words_more}
use Rattle.marking.proofs.Marking.{row_inside, row_read, row_read_lem}
use Rattle.projecting.specs.Project.{projected, list_stop, has_mark, marked_words, RowsAsked}

-- what is left to write from a row on
abbrev pub rest : (ℕ → List ℕ) → (ℕ → Bool) → ℕ → ℕ → List ℕ
rest row keeps n i = words_of row (kept_from keeps i (n - i))

-- rows written up to a number: writing what is left at the place reached gives the result
pub record Writing (row : ℕ → List ℕ) (keeps : ℕ → Bool) (n : ℕ) (d out : List ℕ) (at i : ℕ) : Type 0 where
  pub below : i ≤ n
  pub long : length out ≡ length d
  pub place : at + length (rest row keeps n i) ≡ length (words_of row (kept_from keeps 0 n))
  pub list : splice out at (rest row keeps n i) ≡ splice d 0 (words_of row (kept_from keeps 0 n))

module _ (row : ℕ → List ℕ) (keeps : ℕ → Bool) (n : ℕ) (d : List ℕ) where
  module _ (out : List ℕ) (at i : ℕ) (W : Writing row keeps n d out at i) (room : length (words_of row (kept_from keeps 0 n)) ≤ length d) where
    -- all is written
    pub writing_end : n ≤ i → Wrote d 0 (words_of row (kept_from keeps 0 n)) at out
    writing_end h =
        let e : rest row keeps n i ≡ [] = ap (words_of row) (kept_end i n h keeps) ∙ words_none row in
        record { room = omega arith; place = omega (arith, W.place, ap length e); list = sym (splice_nil out at) ∙ (rw e at W.list) }

    module _ (h : i < n) where
      -- a row passed by
      pub writing_skip : keeps i ≡ false → Writing row keeps n d out at (i + 1)
      writing_skip q =
          let e : rest row keeps n i ≡ rest row keeps n (i + 1) = ap (words_of row) (kept_turn i n h keeps ∙ rw q) in
          record { below = omega arith; long = W.long; place = rw e at W.place; list = rw e at W.list }

      module _ (q : keeps i ≡ true) where
        -- the row, and what is left behind it
        here : rest row keeps n i ≡ row i ++ rest row keeps n (i + 1)
        here = ap (words_of row) (kept_turn i n h keeps ∙ rw q) ∙ words_more row i _

        -- a row has room
        pub row_room : at + length (row i) ≤ length out
        row_room = omega (arith, W.place, W.long, ap length here, length-append (row i) (rest row keeps n (i + 1)))

        -- a row written
        pub writing_turn : (p : ℕ) (out' : List ℕ) → Wrote out at (row i) p out' → Writing row keeps n d out' p (i + 1)
        writing_turn p out' w =
            record {
              below = omega arith;
              long = wrote_length w ∙ W.long;
              place = omega (arith, w.place, W.place, ap length here, length-append (row i) (rest row keeps n (i + 1)));
              list = rw (w.list, w.place, splice_append out at (row i) (rest row keeps n (i + 1)) (omega (arith, row_room)), ← here) W.list;
            }

-- ---- the rows of a table, projected

module _ {list rows marks : List ℕ} {width n : ℕ} (A : RowsAsked list rows marks width n) (mark : ℕ) (d : List ℕ) (room : length (marked_words list rows width n marks mark) ≤ length d) where
  -- the loop's invariant
  abbrev WritingRows : List ℕ → ℕ → ℕ → Type 0
  WritingRows = Writing (λ j. projected list (part rows width j)) (has_mark marks mark) n d

  module _ {out : List ℕ} {at i : ℕ} (W : WritingRows out at i) (h : i < n) (e : get_or marks i 0 ≡ mark) where
    -- the row has the mark and its length
    marked : has_mark marks mark i ≡ true
    marked = eq-eqb (get_or marks i 0) mark e

    long : length (part rows width i) ≡ width
    long = piece_length (i * width) width rows (omega (arith, row_inside n width i h, A.whole))

    -- what the row's projection asks, the row as the code reads it
    pub project_asks : (list_stop (length (row_read rows width i)) 0 list ≡ never) × (at + length (projected list (row_read rows width i)) ≤ length out)
    project_asks = rw (row_read_lem rows width i, long) (A.listed, row_room _ (has_mark marks mark) n d out at i W room h marked)

    -- the row's projection is written
    pub project_wrote : (p : ℕ) (out' : List ℕ) → Wrote out at (projected list (row_read rows width i)) p out' → WritingRows out' p (i + 1)
    project_wrote p out' w =
        writing_turn _ (has_mark marks mark) n d out at i W room h marked p out' (subst (λ r. Wrote out at (projected list r) p out') (row_read_lem rows width i) w)
