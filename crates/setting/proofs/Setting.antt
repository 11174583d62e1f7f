-- The sets from one on: what one of them is refused with, a turn of a loop over them, and its end. Assumes nothing.
use mathlib.Core.Path.{◌≡◌, refl, sym, ap, subst, ◌∙◌}
use mathlib.Core.Bool.{Bool, not}
use mathlib.Core.List.{List, [], ◌∷◌}
use Prim.Native.Nat.{ℕ, suc, ◌+◌, ◌*◌, ◌/◌, ◌≤◌, ◌<◌}
use native.Mathlib.Omega.{arith}
use native.Mathlib.Numerals.{add-one}
use lib.ListN.{length, drop, set, get_or, length-drop, length-set}
use lib.Dec.{leb}
use borrow.Author.Tests.{le-leb, lt-leb, leb-false}
use Rattle.slices.proofs.Pieces.{pair_drop}
use Rattle.refusals.specs.Stop.{never, stop, stop_if, stop_of, or_else}
use Rattle.refusals.specs.declared.Refusal.{Refusal}
use Rattle.refusals.proofs.First.{first_stops, nothing_behind, never_both, not_stopped, last_of_four}
use Rattle.cells.specs.Cell.{cell_stop, ref_of, Inside}
use Rattle.cells.specs.declared.ValueRef.{ValueRef}
use Rattle.cells.proofs.Stops.{well_formed, well_inside}
use Rattle.values.specs.Value.{to_value, value_of}
use Rattle.rules.specs.Rule.{is_valid_value}
use Rattle.tables.specs.Table.{column_count}
use Rattle.setting.specs.Sets.{sets_stop, applied}
use Rattle.setting.specs.Asked.{set_stop, Within}

-- ---- one set

module _ (used : ℕ) (stored columns : List ℕ) (index c cell : ℕ) where
  -- its column is none
  pub set_column : column_count columns ≤ c → stop 4 index ≡ set_stop used stored columns index c cell
  unfolding set_stop
  set_column h = rw (le-leb (column_count columns) c h)

  module _ (h : c < column_count columns) where
    -- its cell is refused
    pub set_cell : (r : Refusal) → stop_of r ≡ cell_stop used cell index → stop_of r ≡ set_stop used stored columns index c cell
    unfolding set_stop
    set_cell r e = rw (lt-leb (column_count columns) c h) (sym (first_stops (cell_stop used cell index) _ r (sym e)))

    module _ (e : never ≡ cell_stop used cell index) (long : length stored ≡ used) (v : ValueRef) (is : v ≡ ref_of cell) (x : Bool)
        (g : (s : List ℕ) → Inside (length s) v → x ≡ is_valid_value (get_or columns (2 * c + 1) 0) (to_value s v)) where
      -- what the code asks of the cell in its column is what the definition asks
      valid : is_valid_value (get_or columns (2 * c + 1) 0) (value_of stored cell) ≡ x
      valid =
          let i : Inside (length stored) v = rw (long, is) (well_inside used cell (well_formed used cell index (sym e))) in
          ap (λ w. is_valid_value (get_or columns (2 * c + 1) 0) (to_value stored w)) (sym is) ∙ sym (g stored i)

      -- its cell is valid in its column, or it isn't
      pub set_valid : stop_if (not x) 13 index ≡ set_stop used stored columns index c cell
      unfolding set_stop
      set_valid = rw (lt-leb (column_count columns) c h, ← e, valid) (sym (nothing_behind (stop_if (not x) 13 index)))

-- ---- a turn and the end of a loop over the sets

-- fewer than two words are left
few_left : (sets : List ℕ) (k : ℕ) → length sets / 2 ≤ k → length (drop (2 * k) sets) ≤ 1
few_left sets k h = rw length-drop (omega arith)

module _ (used : ℕ) (stored columns : List ℕ) where
  -- the first of the sets, then the others
  one_first : (k c cell : ℕ) (sets : List ℕ)
      → sets_stop used stored columns k (c ∷ cell ∷ sets) ≡ or_else (set_stop used stored columns k c cell) (sets_stop used stored columns (suc k) sets)
  unfolding sets_stop set_stop
  one_first k c cell sets =
      last_of_four (stop_if (leb (column_count columns) c) 4 k) (cell_stop used cell k)
      (stop_if (not (is_valid_value (get_or columns (2 * c + 1) 0) (value_of stored cell))) 13 k) (sets_stop used stored columns (suc k) sets)

  -- the set that a turn looks at, then those that are left
  pub sets_turn : (sets : List ℕ) (k : ℕ) → k < length sets / 2
      → sets_stop used stored columns k (drop (2 * k) sets)
      ≡ or_else (set_stop used stored columns k (get_or sets (2 * k) 0) (get_or sets (2 * k + 1) 0)) (sets_stop used stored columns (k + 1) (drop (2 * (k + 1)) sets))
  sets_turn sets k h = ap (sets_stop used stored columns k) (pair_drop sets k h) ∙ one_first k _ _ _ ∙ rw (add-one k)

  -- where no set is left, none is refused
  few : (k : ℕ) (l : List ℕ) → length l ≤ 1 → sets_stop used stored columns k l ≡ never
  unfolding sets_stop
  few k [] h = refl
  few k (a ∷ []) h = refl
  few k (a ∷ b ∷ l) h = absurd (let z : ⊥ = omega arith in z)

  pub sets_end : (sets : List ℕ) (k : ℕ) → length sets / 2 ≤ k → sets_stop used stored columns k (drop (2 * k) sets) ≡ never
  sets_end sets k h = few k (drop (2 * k) sets) (few_left sets k h)

  -- sets that aren't refused are of columns that are there
  pub sets_within : (k : ℕ) (sets : List ℕ) → sets_stop used stored columns k sets ≡ never → Within (column_count columns) sets
  unfolding sets_stop Within
  sets_within k [] e = tt
  sets_within k (c ∷ []) e = tt
  sets_within k (c ∷ cell ∷ sets) e =
      let a = never_both (stop_if (leb (column_count columns) c) 4 k) _ e in
      let b = never_both (cell_stop used cell k) _ a.1 in
      let d = never_both (stop_if (not (is_valid_value (get_or columns (2 * c + 1) 0) (value_of stored cell))) 13 k) _ b.1 in
      let f = never_both (sets_stop used stored columns (suc k) sets) never d.1 in
      (leb-false (column_count columns) c (not_stopped _ 4 k a.0), sets_within (suc k) sets f.0)

-- ---- the sets applied

-- a row keeps its length
pub applied_length : (sets row : List ℕ) → length (applied sets row) ≡ length row
unfolding applied
applied_length [] row = refl
applied_length (c ∷ []) row = refl
applied_length (c ∷ cell ∷ sets) row = applied_length sets (set row c cell) ∙ length-set row c cell

-- sets applied partway: applying what is left gives the result
pub record Applying (sets start row : List ℕ) (k : ℕ) : Type 0 where
  pub long : length row ≡ length start
  pub within : Within (length start) (drop (2 * k) sets)
  pub list : applied (drop (2 * k) sets) row ≡ applied sets start

module _ {sets start row : List ℕ} {k : ℕ} (A : Applying sets start row k) where
  module _ (h : k < length sets / 2) where
    -- the column that a turn sets is there, and those that are left are
    here : (get_or sets (2 * k) 0 < length start) × Within (length start) (drop (2 * (k + 1)) sets)
    unfolding Within
    here = subst (Within (length start)) (pair_drop sets k h) A.within

    pub applying_inside : get_or sets (2 * k) 0 < length row
    applying_inside = omega (arith, here.0, A.long)

    -- one more applied
    pub applying_turn : Applying sets start (set row (get_or sets (2 * k) 0) (get_or sets (2 * k + 1) 0)) (k + 1)
    unfolding applied
    applying_turn = record { long = length-set row _ _ ∙ A.long; within = here.1; list = sym (ap (λ s. applied s row) (pair_drop sets k h)) ∙ A.list }

  -- where no set is left, the row is the result
  alone : (l : List ℕ) → length l ≤ 1 → applied l row ≡ row
  unfolding applied
  alone [] h = refl
  alone (a ∷ []) h = refl
  alone (a ∷ b ∷ l) h = absurd (let z : ⊥ = omega arith in z)

  pub applying_end : length sets / 2 ≤ k → row ≡ applied sets start
  applying_end h = sym (alone (drop (2 * k) sets) (few_left sets k h)) ∙ A.list
