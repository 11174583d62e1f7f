-- A list of columns: a turn and the end of its check, what an accepted one is, and a row's listed columns. Assumes nothing.
use mathlib.Core.Path.{◌≡◌, refl, sym, ap, ◌∙◌}
use mathlib.Core.List.{List, [], ◌∷◌, map}
use Prim.Native.Nat.{ℕ, zero, suc, ◌+◌, ◌≤◌, ◌<◌}
use native.Mathlib.Omega.{arith}
use native.Mathlib.Numerals.{add-one}
use lib.ListN.{length, drop, set, get_or, drop_of_length-le, length-map, get_or-map}
use lib.Seq.{drop-cons}
use lib.Dec.{leb}
use borrow.Author.Tests.{le-leb, lt-leb, leb-false}
use Rattle.refusals.specs.Stop.{never, stop, stop_if, or_else}
use Rattle.refusals.proofs.First.{never_both, not_stopped}
use Rattle.slices.specs.Splice.{Wrote}
use Rattle.slices.proofs.Splice.{Copying, copying_turn, copying_end}
use Rattle.projecting.specs.Project.{projected, list_stop}

-- ---- the check

module _ (width : ℕ) (list : List ℕ) (i : ℕ) where
  module _ (h : i < length list) where
    -- the list from an entry on
    here : list_stop width i (drop i list) ≡ or_else (stop_if (leb width (get_or list i 0)) 4 i) (list_stop width (i + 1) (drop (i + 1) list))
    unfolding list_stop
    here = rw (drop-cons list i 0 h, add-one i)

    -- an entry that is no column, and one that is
    pub list_stops : width ≤ get_or list i 0 → list_stop width i (drop i list) ≡ stop 4 i
    list_stops l = here ∙ rw (le-leb width (get_or list i 0) l)

    pub list_turn : get_or list i 0 < width → list_stop width i (drop i list) ≡ list_stop width (i + 1) (drop (i + 1) list)
    list_turn l = here ∙ rw (lt-leb width (get_or list i 0) l)

  -- the list at its end
  pub list_end : length list ≤ i → list_stop width i (drop i list) ≡ never
  unfolding list_stop
  list_end h = rw (drop_of_length-le list h)

-- an empty list is accepted
pub empty_list : (width index : ℕ) → list_stop width index [] ≡ never
unfolding list_stop
empty_list width index = refl

-- each entry of an accepted list is a column
pub list_sound : (width p : ℕ) (list : List ℕ) → list_stop width p list ≡ never → (i : ℕ) → i < length list → get_or list i 0 < width
unfolding list_stop
list_sound width p [] h i l = absurd (let z : ⊥ = omega arith in z)
list_sound width p (c ∷ list) h zero l = leb-false width c (not_stopped _ 4 p (never_both (stop_if (leb width c) 4 p) (list_stop width (suc p) list) h).0)
list_sound width p (c ∷ list) h (suc i) l = list_sound width (suc p) list (never_both (stop_if (leb width c) 4 p) (list_stop width (suc p) list) h).1 i (omega arith)

-- ---- a row's listed columns

-- a list that isn't empty gives the row's cells at its numbers
pub some_columns : (list row : List ℕ) → (length list ≡ 0 → ⊥) → projected list row ≡ map (λ i. get_or row i 0) list
some_columns [] row n = absurd (n refl)
some_columns (c ∷ list) row n = refl

-- a list that isn't empty gives as many cells as it has numbers
pub some_length : (list row : List ℕ) → (length list ≡ 0 → ⊥) → length (projected list row) ≡ length list
some_length list row n = ap length (some_columns list row n) ∙ length-map list (λ i. get_or row i 0)

module _ (list row d : List ℕ) (at : ℕ) (n : length list ≡ 0 → ⊥) (room : at + length (projected list row) ≤ length d) where
  -- a turn of the loop over the list, and its end
  pub project_turn : (out : List ℕ) (i : ℕ) → Copying (projected list row) d at out i → i < length list
      → Copying (projected list row) d at (set out (at + i) (get_or row (get_or list i 0) 0)) (i + 1)
  project_turn out i c h =
      copying_turn c room _ (get_or row 0 0) (rw (some_length list row n) h) (rw (some_columns list row n) (sym (get_or-map (λ j. get_or row j 0) list i 0)))

  pub project_end : (out : List ℕ) (i : ℕ) → Copying (projected list row) d at out i → length list ≤ i → Wrote d at (projected list row) (at + length list) out
  project_end out i c h =
      let w : Wrote d at (projected list row) (at + length (projected list row)) out = copying_end c room (rw (some_length list row n) h) in
      rw (some_length list row n) at w
