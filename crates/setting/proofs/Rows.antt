-- A row written by its mark, and all rows one after another: a turn of the loop, how many words they take, and a short output. Assumes nothing.
use mathlib.Core.Path.{◌≡◌, refl, sym, ap, subst, ◌∙◌}
use mathlib.Core.Bool.{Bool, true, false, cond}
use mathlib.Core.List.{List, ◌++◌}
use Prim.Native.Nat.{ℕ, zero, suc, ◌+◌, ◌-◌, ◌*◌, ◌≤◌, ◌<◌}
use native.Mathlib.Omega.{arith}
use lib.ListN.{length, take, drop, get_or}
use lib.Seq.{take_at, drop_at, length-take-le}
use lib.Dec.{eqb}
use borrow.Author.Tests.{eq-eqb, lt-ltb}
use Rattle.refusals.specs.declared.Refusal.TheVariants.{OutputShort}
use Rattle.slices.specs.Splice.{piece, splice, Wrote}
use Rattle.slices.proofs.Splice.{wrote_kept}
use Rattle.slices.proofs.Pieces.{piece_length}
use Rattle.writing.specs.Writing.{WrittenIs}
use Rattle.writing.proofs.Answers.{refused_is}
use Rattle.marking.specs.RowList.{kept_from, words_of}
use Rattle.marking.specs.Marks.{part}
use Rattle.marking.proofs.Lists.{kept_below, words_length, kept_all}
use Rattle.marking.proofs.Marking.{row_inside, row_read, row_read_lem}
use Rattle.projecting.proofs.Turns.{Writing, row_room, writing_turn}
use Rattle.checks.specs.Check.{short_stop}
use Rattle.setting.specs.Sets.{applied}
use Rattle.setting.specs.Asked.{Within, row_after, all_words, AllAsked}
use Rattle.setting.proofs.Setting.{applied_length}
use Rattle.std.specs.Prelude.{Err}

-- ---- one row

module _ {out row e : List ℕ} {at p : ℕ} (w : Wrote out at row p e) (sets : List ℕ) where
  -- how much was written
  size : p - at ≡ length row
  size = omega (arith, w.place)

  -- what stands from the place on
  from : drop at e ≡ row ++ drop (at + length row) out
  unfolding splice
  from = ap (drop at) w.list ∙ drop_at (take at out) (row ++ drop (at + length row) out) at (length-take-le at out (omega (arith, w.room)))

  -- the part that is lent is the row
  lent : piece at (p - at) e ≡ row
  lent = rw (from, size) (take_at row (drop (at + length row) out) (length row) refl)

  module _ (mark : ℕ) where
    -- a row that was lent and set
    pub row_set : mark ≡ 1 → (new : List ℕ) → new ≡ applied sets (piece at (p - at) e)
        → Wrote out at (row_after sets mark row) p (take at e ++ (new ++ drop (p - at) (drop at e)))
    unfolding splice
    row_set m new f =
        let n : length (applied sets row) ≡ length row = applied_length sets row in
        rw (eq-eqb mark 1 m) (record {
          room = rw n w.room;
          place = rw n w.place;
          list = rw (f, lent, wrote_kept w, from, size, n, drop_at row (drop (at + length row) out) (length row) refl);
        })

-- a row keeps its length, whatever its mark
pub row_length : (sets row : List ℕ) (mark : ℕ) → length (row_after sets mark row) ≡ length row
row_length sets row mark = by (eqb mark 1)
  where
    by : (x : Bool) → length (cond x (applied sets row) row) ≡ length row
    by true = applied_length sets row
    by false = refl

-- ---- all rows

-- rows that agree where they are asked have the same words
pub all_same : (f g : ℕ → List ℕ) (i n : ℕ) → ((j : ℕ) → i ≤ j → j < i + n → f j ≡ g j)
    → words_of f (kept_from (λ j. true) i n) ≡ words_of g (kept_from (λ j. true) i n)
unfolding kept_from words_of
all_same f g i zero h = refl
all_same f g i (suc n) h = rw (h i (omega arith) (omega arith), all_same f g (suc i) n (λ j l m. h j (omega arith) (omega arith)))

module _ {sets rows marks : List ℕ} {width n : ℕ} (A : AllAsked sets rows marks width n) where
  -- a row of the table has its width
  long : (i : ℕ) → i < n → length (part rows width i) ≡ width
  long i h = piece_length (i * width) width rows (omega (arith, row_inside n width i h, A.whole))

  -- all rows take as many words as they have
  pub all_length : length (all_words sets rows width n marks) ≡ length rows
  all_length =
      words_length _ width (kept_from (λ j. true) 0 n) (λ j l.
      let i = get_or (kept_from (λ k. true) 0 n) j 0 in
      row_length sets (part rows width i) (get_or marks i 0) ∙ long i (omega (arith, kept_below (λ k. true) 0 n j l)))
      ∙ ap (λ k. k * width) (kept_all 0 n) ∙ sym A.whole

  module _ (d : List ℕ) (fits : length rows ≤ length d) where
    -- an output as long as the rows has room for what is written
    pub all_room : length (all_words sets rows width n marks) ≤ length d
    all_room = rw all_length fits

    -- rows written up to a number
    abbrev WritingAll : List ℕ → ℕ → ℕ → Type 0
    WritingAll = Writing (λ j. row_after sets (get_or marks j 0) (part rows width j)) (λ j. true) n d

    module _ {out : List ℕ} {at i : ℕ} (W : WritingAll out at i) (h : i < n) where
      -- what the row asks, as the code reads it
      pub turn_asks : Within (length (row_read rows width i)) sets × (at + length (row_read rows width i) ≤ length out)
      turn_asks =
          let r = row_room _ (λ j. true) n d out at i W all_room h refl in
          rw (row_read_lem rows width i, long i h) (A.within, omega (arith, r, row_length sets (part rows width i) (get_or marks i 0), long i h))

      -- one row more is written
      pub turn_wrote : (p : ℕ) (out' : List ℕ) → Wrote out at (row_after sets (get_or marks i 0) (row_read rows width i)) p out' → WritingAll out' p (i + 1)
      turn_wrote p out' w =
          writing_turn _ (λ j. true) n d out at i W all_room h refl p out' (subst (λ r. Wrote out at (row_after sets (get_or marks i 0) r) p out') (row_read_lem rows width i) w)

  -- the output is short
  pub all_short : (d : List ℕ) → length d < length rows
      → WrittenIs d d (Err (OutputShort (length rows))) (short_stop (length d) (length (all_words sets rows width n marks))) n (all_words sets rows width n marks)
  all_short d h = refused_is d _ n _ (OutputShort (length rows)) (rw (all_length, lt-ltb (length d) (length rows) h))
