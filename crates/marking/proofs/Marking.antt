-- Rows marked one after another: a row with no condition, and the loop over the rows. Assumes nothing.
use mathlib.Core.Path.{◌≡◌, refl, sym, ap, ◌∙◌}
use mathlib.Core.Bool.{Bool, true, false, cond}
use mathlib.Core.List.{List, ◌∷◌}
use Prim.Native.Nat.{ℕ, ◌+◌, ◌-◌, ◌*◌, ◌≤◌, ◌<◌}
use native.Mathlib.Omega.{arith}
use native.Mathlib.Nat.{add-mul, one-mul, mul-le-mul_right, add-sub_cancel_left}
use native.Mathlib.Numerals.{add-one}
use lib.ListN.{length, take, set, length-set}
use Rattle.refusals.specs.Stop.{never, stop_of, or_else}
use Rattle.refusals.specs.declared.Refusal.{Refusal}
use Rattle.slices.specs.Splice.{piece, splice}
use Rattle.slices.proofs.Splice.{splice_nil, splice_set}
use Rattle.slices.proofs.Pieces.{piece_length}
use Rattle.operators.specs.Operator.{base}
use Rattle.testing.specs.Test.{test, TestAsks}
use Rattle.testing.proofs.Testing.{no_condition}
use Rattle.marking.specs.RowList.{Test, is_true, stop_at, kept_from, true_rows, refused_from}
use Rattle.marking.specs.Marks.{part, test_of, flags_from, MarkAsks, MarkedIs, Says}
use Rattle.marking.specs.Whole.{RowIs}
use Rattle.marking.proofs.Lists.{kept_turn, refused_turn, flags_turn, kept_end, refused_end, flags_end, cells_part}
use Rattle.std.specs.Prelude.{Result, Ok, Err}

-- ---- one row

module _ (used place count : ℕ) (before : List ℕ) where
  -- no condition
  pub row_untested : (nodes row : List ℕ) (b : List ℕ) → TestAsks b used count nodes row before → count ≡ 0
      → RowIs used place count before before (Ok 1) (test base b used (take used before) row)
  row_untested nodes row b A e =
      let s = no_condition used count nodes row before place b A e in
      record { kept = refl; alone = λ z. refl; says = rw s.says (refl, refl) }

-- ---- the loop

-- Ok marked up to a number: what is left says the rest. The invariant of the loop over the rows
pub record Marking (t : Test) (n : ℕ) (before : List ℕ) (i k : ℕ) (marks : List ℕ) : Type 0 where
  pub below : i ≤ n
  pub few : k ≤ i
  pub long : length marks ≡ length before
  pub refused : refused_from t 0 n ≡ refused_from t i (n - i)
  pub counted : length (true_rows t n) ≡ k + length (kept_from (λ j. is_true (t j)) i (n - i))
  pub marked : splice before 0 (flags_from t 0 n) ≡ splice marks i (flags_from t i (n - i))

module _ (t : Test) (n : ℕ) (before : List ℕ) where
  module _ (i k : ℕ) (marks : List ℕ) (M : Marking t n before i k marks) where
    -- every row is marked
    pub marking_end : n ≤ i → Says never t n before marks (Ok k)
    marking_end h = (
      M.refused ∙ refused_end i n h t,
      sym (M.counted ∙ (rw (kept_end i n h (λ j. is_true (t j))) (omega arith))),
      sym (M.marked ∙ (rw (flags_end i n h t) (splice_nil marks i))),
    )

    module _ (h : i < n) where
      -- a row is refused
      pub marking_refused : (r : Refusal) → stop_at (t i) i ≡ stop_of r → refused_from t 0 n ≡ stop_of r
      marking_refused r e = M.refused ∙ refused_turn i n h t ∙ ap (λ s. or_else s (refused_from t (i + 1) (n - (i + 1)))) e

      -- a row is marked
      pub marking_turn : (m : ℕ) → n ≤ length before → stop_at (t i) i ≡ never → m ≡ cond (is_true (t i)) 1 0 → Marking t n before (i + 1) (k + m) (set marks i m)
      marking_turn m room e f =
          let b = by (is_true (t i)) in
          record {
            below = omega arith;
            few = rw f (omega (arith, b.0, M.few));
            long = length-set marks i m ∙ M.long;
            refused = M.refused ∙ refused_turn i n h t ∙ ap (λ s. or_else s (refused_from t (i + 1) (n - (i + 1)))) e;
            counted = M.counted ∙ (rw (kept_turn i n h (λ j. is_true (t j)), f) b.1);
            marked = M.marked ∙ (rw (flags_turn i n h t, ← f, add-one i) (sym (splice_set marks i m _ (omega (arith, M.long)))));
          }
        where
          by : (x : Bool) → (cond x 1 0 ≤ 1) × (k + length (cond x (i ∷ kept_from (λ j. is_true (t j)) (i + 1) (n - (i + 1))) (kept_from (λ j. is_true (t j)) (i + 1) (n - (i + 1))))
              ≡ k + cond x 1 0 + length (kept_from (λ j. is_true (t j)) (i + 1) (n - (i + 1))))
          by true = (omega arith, omega arith)
          by false = (omega arith, omega arith)

-- ---- a row of a table

-- a row that is there lies within the rows
pub row_inside : (n width i : ℕ) → i < n → i * width + width ≤ n * width
row_inside n width i h =
    let a : (i + 1) * width ≤ n * width = mul-le-mul_right width (omega arith) in
    omega (arith, a, add-mul i 1 width, one-mul width)

-- a row as the code reads it
abbrev pub row_read : List ℕ → ℕ → ℕ → List ℕ
row_read rows width i = piece (i * width) (i * width + width - i * width) rows

-- it is the row of that number
pub row_read_lem : (rows : List ℕ) (width i : ℕ) → row_read rows width i ≡ part rows width i
row_read_lem rows width i = ap (λ k. piece (i * width) k rows) (add-sub_cancel_left (i * width) width)

-- what the loop over the rows keeps: the stored text, all of it where there is no condition, and the marks so far
pub record MarkLoop (count used n width : ℕ) (nodes rows text₀ marks₀ text marks : List ℕ) (k i : ℕ) : Type 0 where
  pub kept : take used text ≡ take used text₀
  pub size : length text ≡ length text₀
  pub alone : count ≡ 0 → text ≡ text₀
  pub marking : (b : List ℕ) → MarkAsks b used count n width nodes rows text₀ marks₀ → Marking (test_of base b used (take used text₀) rows width) n marks₀ i k marks

module _ (count used n width : ℕ) (nodes rows text₀ marks₀ : List ℕ) where
  module _ {text marks : List ℕ} {k i : ℕ} (L : MarkLoop count used n width nodes rows text₀ marks₀ text marks k i) where
    -- the loop ends
    pub loop_end : n ≤ i → (b : List ℕ) → MarkAsks b used count n width nodes rows text₀ marks₀
        → MarkedIs (test_of base b used (take used text₀) rows width) n used text₀ text marks₀ marks (Ok k)
    loop_end h b A = record { kept = L.kept; says = marking_end _ n marks₀ i k marks (L.marking b A) h }

    module _ (h : i < n) where
      -- what the test of the row asks
      pub row_asks : (b : List ℕ) → MarkAsks b used count n width nodes rows text₀ marks₀ → TestAsks b used count nodes (row_read rows width i) text
      row_asks b A =
          let l : length (part rows width i) ≡ width = piece_length (i * width) width rows (omega (arith, row_inside n width i h, A.table.whole)) in
          rw (row_read_lem rows width i) (record {
            bytes = A.bytes;
            long = A.long;
            ready = rw l A.ready;
            room = rw L.size A.table.room;
            width = rw l A.table.wide;
            cells = cells_part used 0 0 (i * width) width rows (A.table.cells 0);
          })

      module _ (text' : List ℕ) (one : Result ℕ Refusal)
          (f : (b : List ℕ) → TestAsks b used count nodes (row_read rows width i) text → RowIs used i count text text' one (test base b used (take used text) (row_read rows width i))) where
        -- what the row's mark says, in the stored text of the start
        marked_one : (b : List ℕ) → MarkAsks b used count n width nodes rows text₀ marks₀
            → RowIs used i count text text' one (test_of base b used (take used text₀) rows width i)
        marked_one b A =
            let r : RowIs used i count text text' one (test base b used (take used text) (row_read rows width i)) = f b (row_asks b A) in
            rw (← row_read_lem rows width i, ← L.kept) r

        -- with no condition the text is as it was
        pub loop_alone : (b : List ℕ) → MarkAsks b used count n width nodes rows text₀ marks₀ → count ≡ 0 → text' ≡ text₀
        loop_alone b A z = (f b (row_asks b A)).alone z ∙ L.alone z

      module _ (text' : List ℕ) (e : length text' ≡ length text) where
        -- a row is marked
        pub loop_turn : (b : List ℕ) → MarkAsks b used count n width nodes rows text₀ marks₀ → (m : ℕ)
            → ((b : List ℕ) → TestAsks b used count nodes (row_read rows width i) text → RowIs used i count text text' (Ok m) (test base b used (take used text) (row_read rows width i)))
            → MarkLoop count used n width nodes rows text₀ marks₀ text' (set marks i m) (k + m) (i + 1)
        loop_turn b A m f =
            record {
              kept = (marked_one text' (Ok m) f b A).kept ∙ L.kept;
              size = e ∙ L.size;
              alone = loop_alone text' (Ok m) f b A;
              marking = λ b A. let s = (marked_one text' (Ok m) f b A).says in marking_turn _ n marks₀ i k marks (L.marking b A) h m A.table.space s.0 s.1;
            }

        -- a row is refused
        pub loop_refused : (r : Refusal) → ((b : List ℕ) → TestAsks b used count nodes (row_read rows width i) text → RowIs used i count text text' (Err r) (test base b used (take used text) (row_read rows width i)))
            → (b : List ℕ) → MarkAsks b used count n width nodes rows text₀ marks₀
            → MarkedIs (test_of base b used (take used text₀) rows width) n used text₀ text' marks₀ marks (Err r)
        loop_refused r f b A =
            record {
              kept = (marked_one text' (Err r) f b A).kept ∙ L.kept;
              says = marking_refused _ n marks₀ i k marks (L.marking b A) h r (marked_one text' (Err r) f b A).says;
            }
