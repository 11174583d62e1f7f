-- Laws of rows told by their numbers: a turn and the end of a loop over them, how many are kept, and which. Assumes nothing.
use mathlib.Core.Path.{◌≡◌, refl, sym, ap, ap₂, ◌∙◌}
use mathlib.Core.Bool.{Bool, true, false, not, cond}
use mathlib.Core.List.{List, [], ◌∷◌, ◌++◌}
use mathlib.Core.Logic.{⊎_elim}
use Prim.Native.Nat.{ℕ, zero, suc, ◌+◌, ◌-◌, ◌*◌, ◌≤◌, ◌<◌}
use native.Mathlib.Omega.{arith}
use native.Mathlib.Nat.{eq-or-lt_of_le, add-zero, zero-add, zero-mul, suc-mul}
use native.Mathlib.Numerals.{add-one}
use lib.ListN.{length, take, drop, get_or, length-append, get_or-append}
use lib.Seq.{take-length}
use lib.Dec.{eqb}
use Rattle.refusals.specs.Stop.{never, stop, or_else}
use Rattle.refusals.proofs.First.{never_both}
use Rattle.cells.specs.Cell.{cell_stop}
use Rattle.cells.proofs.Stops.{never_stops, stop_never}
use Rattle.checks.specs.Check.{cells_stop}
use Rattle.slices.specs.Splice.{piece, splice}
use Rattle.slices.proofs.Splice.{splice_start}
use Rattle.testing.specs.Test.{refuses}
use Rattle.marking.specs.RowList.{Test, is_true, stop_at, kept_from, true_rows, other_rows, refused_from, words_of}
use Rattle.marking.specs.Marks.{flags_from}

-- ---- a turn and the end of a loop over n rows

module _ (i n : ℕ) where
  module _ (h : i < n) where
    -- one more is left
    left : n - i ≡ suc (n - (i + 1))
    left = omega arith

    -- a row is kept or not, refused or not, and has its mark
    pub kept_turn : (keeps : ℕ → Bool)
        → kept_from keeps i (n - i) ≡ cond (keeps i) (i ∷ kept_from keeps (i + 1) (n - (i + 1))) (kept_from keeps (i + 1) (n - (i + 1)))
    unfolding kept_from
    kept_turn keeps = rw (left, add-one i)

    pub refused_turn : (t : Test) → refused_from t i (n - i) ≡ or_else (stop_at (t i) i) (refused_from t (i + 1) (n - (i + 1)))
    unfolding refused_from
    refused_turn t = rw (left, add-one i)

    pub flags_turn : (t : Test) → flags_from t i (n - i) ≡ cond (is_true (t i)) 1 0 ∷ flags_from t (i + 1) (n - (i + 1))
    unfolding flags_from
    flags_turn t = rw (left, add-one i)

  module _ (h : n ≤ i) where
    -- none is left
    none : n - i ≡ 0
    none = omega arith

    -- past the last row nothing is kept, refused or marked
    pub kept_end : (keeps : ℕ → Bool) → kept_from keeps i (n - i) ≡ []
    unfolding kept_from
    kept_end keeps = rw none

    pub refused_end : (t : Test) → refused_from t i (n - i) ≡ never
    unfolding refused_from
    refused_end t = rw none

    pub flags_end : (t : Test) → flags_from t i (n - i) ≡ []
    unfolding flags_from
    flags_end t = rw none

-- where there is no first refusal, no row is refused
pub none_refused : (t : Test) (k n j number : ℕ) → refused_from t k n ≡ never → k ≤ j → j < k + n → t j ≡ refuses number → ⊥
unfolding refused_from
none_refused t k zero j number h l b e = let z : ⊥ = omega arith in z
none_refused t k (suc n) j number h l b e =
    let r = never_both (stop_at (t k) k) (refused_from t (suc k) n) h in
    ⊎_elim
    (λ q. let f : stop number k ≡ never = ap (λ o. stop_at o k) (sym (ap t q ∙ e)) ∙ r.0 in absurd (let z : ◌≡◌ {A = ℕ} 0 1 = cc in omega arith))
    (λ q. none_refused t (suc k) n j number r.1 q (omega arith) e)
    (eq-or-lt_of_le l)

-- ---- how many, and which

-- no more are kept than are asked
pub kept_few : (keeps : ℕ → Bool) (i n : ℕ) → length (kept_from keeps i n) ≤ n
unfolding kept_from
kept_few keeps i zero = omega arith
kept_few keeps i (suc n) = by (keeps i) (kept_few keeps (suc i) n)
  where
    by : (x : Bool) → length (kept_from keeps (suc i) n) ≤ n → length (cond x (i ∷ kept_from keeps (suc i) n) (kept_from keeps (suc i) n)) ≤ suc n
    by true h = omega arith
    by false h = omega arith

-- a number that is kept is one of those asked
pub kept_below : (keeps : ℕ → Bool) (i n j : ℕ) → j < length (kept_from keeps i n) → get_or (kept_from keeps i n) j 0 < i + n
unfolding kept_from
kept_below keeps i zero j h = absurd (let z : ⊥ = omega arith in z)
kept_below keeps i (suc n) j h = by (keeps i) j (kept_below keeps (suc i) n) h
  where
    by : (x : Bool) (j : ℕ) → ((k : ℕ) → k < length (kept_from keeps (suc i) n) → get_or (kept_from keeps (suc i) n) k 0 < suc i + n)
        → j < length (cond x (i ∷ kept_from keeps (suc i) n) (kept_from keeps (suc i) n))
        → get_or (cond x (i ∷ kept_from keeps (suc i) n) (kept_from keeps (suc i) n)) j 0 < i + suc n
    by true zero r h = omega arith
    by true (suc j) r h = omega (arith, r j (omega arith))
    by false j r h = omega (arith, r j h)

-- two tests that agree on the rows asked keep the same
pub kept_same : (f g : ℕ → Bool) (i n : ℕ) → ((j : ℕ) → i ≤ j → j < i + n → f j ≡ g j) → kept_from f i n ≡ kept_from g i n
unfolding kept_from
kept_same f g i zero h = refl
kept_same f g i (suc n) h =
    rw (h i (omega arith) (omega arith), kept_same f g (suc i) n (λ j l m. h j (omega arith) (omega arith)))

-- a test that always holds keeps all
pub kept_all : (i n : ℕ) → length (kept_from (λ j. true) i n) ≡ n
unfolding kept_from
kept_all i zero = refl
kept_all i (suc n) = ap suc (kept_all (suc i) n)

-- each row is kept by a test or by its opposite
pub kept_both : (keeps : ℕ → Bool) (i n : ℕ) → length (kept_from keeps i n) + length (kept_from (λ j. not (keeps j)) i n) ≡ n
unfolding kept_from
kept_both keeps i zero = refl
kept_both keeps i (suc n) = by (keeps i) (kept_both keeps (suc i) n)
  where
    by : (x : Bool) → length (kept_from keeps (suc i) n) + length (kept_from (λ j. not (keeps j)) (suc i) n) ≡ n
        → length (cond x (i ∷ kept_from keeps (suc i) n) (kept_from keeps (suc i) n))
        + length (cond (not x) (i ∷ kept_from (λ j. not (keeps j)) (suc i) n) (kept_from (λ j. not (keeps j)) (suc i) n)) ≡ suc n
    by true h = omega arith
    by false h = omega arith

-- the true rows and the other rows are all
pub true_and_other : (t : Test) (n : ℕ) → length (true_rows t n) + length (other_rows t n) ≡ n
true_and_other t n = kept_both (λ i. is_true (t i)) 0 n

-- ---- marks

-- there is a mark for each row
pub flags_length : (t : Test) (i n : ℕ) → length (flags_from t i n) ≡ n
unfolding flags_from
flags_length t i zero = refl
flags_length t i (suc n) = ap suc (flags_length t (suc i) n)

-- a row's mark is 1 where its test is true, else 0
pub flag_at : (t : Test) (i n j : ℕ) → j < n → get_or (flags_from t i n) j 0 ≡ cond (is_true (t (i + j))) 1 0
unfolding flags_from
flag_at t i zero j h = absurd (let z : ⊥ = omega arith in z)
flag_at t i (suc n) zero h = rw (add-zero i)
flag_at t i (suc n) (suc j) h =
    let e : suc i + j ≡ i + suc j = omega arith in
    flag_at t (suc i) n j (omega arith) ∙ ap (λ k. cond (is_true (t k)) 1 0) e

-- the mark of a row, where the marks were written over others
mark_at : (t : Test) (n : ℕ) (before : List ℕ) (j : ℕ) → j < n → get_or (splice before 0 (flags_from t 0 n)) j 0 ≡ cond (is_true (t j)) 1 0
mark_at t n before j h =
    rw (splice_start before (flags_from t 0 n), get_or-append (flags_from t 0 n) (drop (length (flags_from t 0 n)) before) 0 j (rw (flags_length t 0 n) h))
    (flag_at t 0 n j h ∙ rw (zero-add j))

-- a mark of 1 tells a true row
pub mark_true : (t : Test) (n : ℕ) (before : List ℕ) (j : ℕ) → j < n → eqb (get_or (splice before 0 (flags_from t 0 n)) j 0) 1 ≡ is_true (t j)
mark_true t n before j h = rw (mark_at t n before j h) (by (is_true (t j)))
  where
    by : (x : Bool) → eqb (cond x 1 0) 1 ≡ x
    by true = refl
    by false = refl

-- a mark of 0 tells any other
pub mark_other : (t : Test) (n : ℕ) (before : List ℕ) (j : ℕ) → j < n → eqb (get_or (splice before 0 (flags_from t 0 n)) j 0) 0 ≡ not (is_true (t j))
mark_other t n before j h = rw (mark_at t n before j h) (by (is_true (t j)))
  where
    by : (x : Bool) → eqb (cond x 1 0) 0 ≡ not x
    by true = refl
    by false = refl

-- ---- words

module _ (row : ℕ → List ℕ) where
  -- the words of no row, and of one more
  pub words_none : words_of row [] ≡ []
  unfolding words_of
  words_none = refl

  pub words_more : (i : ℕ) (numbers : List ℕ) → words_of row (i ∷ numbers) ≡ row i ++ words_of row numbers
  unfolding words_of
  words_more i numbers = refl

  -- rows of one length
  pub words_length : (width : ℕ) (numbers : List ℕ) → ((j : ℕ) → j < length numbers → length (row (get_or numbers j 0)) ≡ width)
      → length (words_of row numbers) ≡ length numbers * width
  unfolding words_of
  words_length width [] h = sym (zero-mul width)
  words_length width (i ∷ numbers) h =
      let r = words_length width numbers (λ j l. h (suc j) (omega arith)) in
      rw (length-append (row i) (words_of row numbers), suc-mul (length numbers) width) (omega (arith, r, h 0 (omega arith)))

-- rows that agree have the same words
pub words_same : (f g : ℕ → List ℕ) (numbers : List ℕ) → ((j : ℕ) → f j ≡ g j) → words_of f numbers ≡ words_of g numbers
unfolding words_of
words_same f g [] h = refl
words_same f g (i ∷ numbers) h = ap₂ ◌++◌ (h i) (words_same f g numbers h)

-- ---- sound cells

-- a cell is sound at any place
cell_anywhere : (used w p q : ℕ) → cell_stop used w p ≡ never → cell_stop used w q ≡ never
cell_anywhere used w p q h = let s = never_stops used w p h in stop_never used w q s.0 s.1

-- the front of sound cells is sound, whatever its place
pub cells_front : (used p q n : ℕ) (ws : List ℕ) → cells_stop used p ws ≡ never → cells_stop used q (take n ws) ≡ never
unfolding cells_stop
cells_front used p q zero [] h = refl
cells_front used p q zero (w ∷ ws) h = refl
cells_front used p q (suc n) [] h = refl
cells_front used p q (suc n) (w ∷ ws) h =
    let s = never_both (cell_stop used w p) (cells_stop used (suc p) ws) h in
    rw (cell_anywhere used w p q s.0) (cells_front used (suc p) (suc q) n ws s.1)

-- what is left of sound cells behind a front is sound
cells_left : (used p n : ℕ) (ws : List ℕ) → cells_stop used p ws ≡ never → cells_stop used (p + n) (drop n ws) ≡ never
unfolding cells_stop
cells_left used p zero ws h = rw (add-zero p) h
cells_left used p (suc n) [] h = refl
cells_left used p (suc n) (w ∷ ws) h =
    let e : p + suc n ≡ suc p + n = omega arith in
    rw e (cells_left used (suc p) n ws (never_both (cell_stop used w p) (cells_stop used (suc p) ws) h).1)

-- a part of sound cells is sound, whatever its place
pub cells_part : (used p q start size : ℕ) (ws : List ℕ) → cells_stop used p ws ≡ never → cells_stop used q (piece start size ws) ≡ never
cells_part used p q start size ws h = cells_front used (p + start) q size (drop start ws) (cells_left used p start ws h)

-- a place says nothing of soundness
pub cells_anywhere : (used p q : ℕ) (ws : List ℕ) → cells_stop used p ws ≡ never → cells_stop used q ws ≡ never
cells_anywhere used p q ws h = let r = cells_front used p q (length ws) ws h in rw (take-length ws) at r
