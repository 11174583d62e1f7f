-- The columns from a word on: a turn of a loop over them, and its end. Assumes nothing.
use mathlib.Core.Path.{◌≡◌, refl, sym, ap, ◌∙◌}
use mathlib.Core.Bool.{Bool, true, false}
use mathlib.Core.List.{List, [], ◌∷◌}
use Prim.Native.Nat.{ℕ, suc, ◌+◌, ◌≤◌, ◌<◌}
use native.Mathlib.Omega.{arith}
use native.Mathlib.Numerals.{add-one}
use lib.ListN.{length, drop, get_or, length-drop}
use lib.Seq.{drop-cons}
use Rattle.refusals.specs.Stop.{never, or_else}
use Rattle.refusals.proofs.First.{never_both}
use Rattle.slices.specs.Splice.{piece}
use Rattle.slices.specs.Bytes.{same_bytes}
use Rattle.cells.specs.Cell.{start_of, length_of}
use Rattle.columns.specs.Column.{column_stop, columns_stop, names, nowhere, found, first_from, column_named}
use Rattle.columns.proofs.Stops.{name_inside}

-- two elements, then the rest
drop_two : (l : List ℕ) (i : ℕ) → i + 1 < length l → drop i l ≡ get_or l i 0 ∷ get_or l (i + 1) 0 ∷ drop (i + 2) l
drop_two l i h =
    let e : suc (suc i) ≡ i + 2 = omega arith in
    let f : suc i ≡ i + 1 = omega arith in
    drop-cons l i 0 (omega arith) ∙ ap (λ x. get_or l i 0 ∷ x) (drop-cons l (suc i) 0 (omega arith) ∙ (rw (e, f)))

-- fewer than two are left
few_left : (l : List ℕ) (i : ℕ) → length l ≤ i + 1 → length (drop i l) ≤ 1
few_left l i h = rw length-drop (omega arith)

module _ (used p : ℕ) where
  pub columns_turn : (cs : List ℕ) (i : ℕ) → i + 1 < length cs
      → columns_stop used p (drop i cs) ≡ or_else (column_stop used (get_or cs i 0) (get_or cs (i + 1) 0) p) (columns_stop used (p + 2) (drop (i + 2) cs))
  unfolding columns_stop
  columns_turn cs i h = rw (drop_two cs i h)

  few : (l : List ℕ) → length l ≤ 1 → columns_stop used p l ≡ never
  unfolding columns_stop
  few [] h = refl
  few (a ∷ []) h = refl
  few (a ∷ b ∷ l) h = absurd (let z : ⊥ = omega arith in z)

  pub columns_end : (cs : List ℕ) (i : ℕ) → length cs ≤ i + 1 → columns_stop used p (drop i cs) ≡ never
  columns_end cs i h = few (drop i cs) (few_left cs i h)

-- ---- the search for a name

-- what is known partway: the columns left are sound, and the search goes on among their names
pub record Searching (stored columns name : List ℕ) (i number : ℕ) : Type 0 where
  pub passed : number ≤ i
  pub sound : columns_stop (length stored) i (drop i columns) ≡ never
  pub left : column_named stored columns name ≡ first_from (λ other. same_bytes other name) number (names stored (drop i columns))

module _ (stored columns name : List ℕ) where
  pub searching_start : columns_stop (length stored) 0 columns ≡ never → Searching stored columns name 0 0
  searching_start h = record { passed = omega arith; sound = h; left = refl }

  module _ (i number : ℕ) (s : Searching stored columns name i number) (h : i + 1 < length columns) where
    both : (column_stop (length stored) (get_or columns i 0) (get_or columns (i + 1) 0) i ≡ never) × (columns_stop (length stored) (i + 2) (drop (i + 2) columns) ≡ never)
    both = never_both _ _ (sym (columns_turn (length stored) i columns i h) ∙ s.sound)

    pub searching_inside : start_of (get_or columns i 0) + length_of (get_or columns i 0) ≤ length stored
    unfolding column_stop
    searching_inside = name_inside (length stored) (get_or columns i 0) i (never_both _ _ both.0).0

    -- the name that is looked at
    abbrev here : List ℕ
    here = piece (start_of (get_or columns i 0)) (length_of (get_or columns i 0)) stored

    pub searching_found : same_bytes here name ≡ true → column_named stored columns name ≡ found number
    unfolding names first_from
    searching_found e = s.left ∙ rw (drop_two columns i h, e)

    pub searching_turn : same_bytes here name ≡ false → Searching stored columns name (i + 2) (number + 1)
    unfolding names first_from
    searching_turn e = record { passed = omega (arith, s.passed); sound = both.1; left = s.left ∙ rw (drop_two columns i h, e, add-one number) }

  none : (p : List ℕ → Bool) (n : ℕ) (l : List ℕ) → length l ≤ 1 → first_from p n (names stored l) ≡ nowhere
  unfolding names first_from
  none p n [] h = refl
  none p n (a ∷ []) h = refl
  none p n (a ∷ b ∷ l) h = absurd (let z : ⊥ = omega arith in z)

  pub searching_end : (i number : ℕ) → Searching stored columns name i number → length columns ≤ i + 1 → column_named stored columns name ≡ nowhere
  searching_end i number s h = s.left ∙ none _ number (drop i columns) (few_left columns i h)
