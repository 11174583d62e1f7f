-- The rows of one mark written, or 9: how many words they take, their room, and what is answered where they have none. Assumes nothing.
use mathlib.Core.Path.{◌≡◌, sym, ap, ◌∙◌}
use mathlib.Core.List.{List, [], ◌∷◌}
use Prim.Native.Nat.{ℕ, ◌*◌, ◌≤◌, ◌<◌}
use native.Mathlib.Omega.{arith}
use native.Mathlib.Nat.{mul-le-mul}
use lib.ListN.{length, get_or, replicate, length-replicate, length-map}
use borrow.Author.Tests.{lt-ltb}
use Rattle.refusals.specs.declared.Refusal.TheVariants.{OutputShort}
use Rattle.slices.proofs.Pieces.{piece_length}
use Rattle.writing.specs.Writing.{WrittenIs}
use Rattle.writing.proofs.Answers.{refused_is}
use Rattle.marking.specs.RowList.{kept_from}
use Rattle.marking.specs.Marks.{part}
use Rattle.marking.proofs.Lists.{kept_few, kept_below, words_length}
use Rattle.marking.proofs.Marking.{row_inside}
use Rattle.projecting.specs.Project.{projected, has_mark, marked_words}
use Rattle.checks.specs.Check.{short_stop}
use Rattle.keeping.specs.Kept.{KeptAsks}
use Rattle.std.specs.Prelude.{Err}

-- a projected row has at most 32 words
few_words : (list row : List ℕ) → length row ≤ 32 → length list ≤ 32 → length (projected list row) ≤ 32
few_words [] row h k = h
few_words (c ∷ list) row h k = rw (length-map list (λ i. get_or row i 0)) k

module _ {list rows marks : List ℕ} {width n mark count : ℕ} (A : KeptAsks list rows marks width n mark count)
    (w : ℕ) (f : (row : List ℕ) → length row ≡ width → length (projected list row) ≡ w) where
  -- the words that the rows take, and that their number fits
  pub kept_needed : length (marked_words list rows width n marks mark) ≡ count * w
  kept_needed =
      words_length _ w (kept_from (has_mark marks mark) 0 n) (λ j l.
      let i = get_or (kept_from (has_mark marks mark) 0 n) j 0 in
      let h : i < n = omega (arith, kept_below (has_mark marks mark) 0 n j l) in
      f (part rows width i) (piece_length (i * width) width rows (omega (arith, row_inside n width i h, A.asked.whole))))
      ∙ ap (λ k. k * w) (sym A.counted)

  pub kept_fits : count * w ≤ 131072
  kept_fits =
      let row : List ℕ = replicate width 0 in
      let l : length row ≡ width = length-replicate width 0 in
      let a : w ≤ 32 = omega (arith, f row l, few_words list row (omega (arith, A.narrow)) A.short) in
      let b : count ≤ 4096 = omega (arith, A.counted, A.few, kept_few (has_mark marks mark) 0 n) in
      mul-le-mul b a

  module _ (out : List ℕ) where
    -- the output is short
    pub kept_short : length out < count * w
        → WrittenIs out out (Err (OutputShort (count * w))) (short_stop (length out) (length (marked_words list rows width n marks mark))) count (marked_words list rows width n marks mark)
    kept_short h = refused_is out _ count _ (OutputShort (count * w)) (rw (kept_needed, lt-ltb (length out) (count * w) h))

    module _ (h : count * w ≤ length out) where
      pub kept_room : length (marked_words list rows width n marks mark) ≤ length out
      kept_room = rw kept_needed h
