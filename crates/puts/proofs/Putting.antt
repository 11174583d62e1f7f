-- Laws of bytes put one after another. Assumes nothing.
use mathlib.Core.Path.{◌≡◌, refl, sym, ap, ◌∙◌}
use mathlib.Core.Bool.{Bool, true, false, cond}
use mathlib.Core.List.{List, [], ◌∷◌, ◌++◌}
use Prim.Native.Nat.{ℕ, suc, ◌+◌, ◌≤◌, ◌<◌}
use native.Mathlib.Nat.{add-zero, add-suc, suc-add}
use native.Mathlib.Omega.{arith}
use native.Mathlib.Numerals.{add-one}
use lib.ListN.{length, drop, set, get_or, length-append, length-set}
use lib.Seq.{drop-cons, set_out}
use Rattle.slices.specs.Splice.{splice}
use Rattle.slices.proofs.Splice.{splice_nil, splice_set}
use Rattle.puts.specs.Put.{put, Puts}

-- one list after another
pub put_append : (l : List ℕ) (i : ℕ) (s t : List ℕ) → put l i (s ++ t) ≡ put (put l i s) (i + length s) t
unfolding put
put_append l i [] t = rw add-zero
put_append l i (b ∷ s) t = put_append (set l i b) (suc i) s t ∙ rw (suc-add, add-suc)

-- the length stays
pub length_put : (l : List ℕ) (i : ℕ) (s : List ℕ) → length (put l i s) ≡ length l
unfolding put
length_put l i [] = refl
length_put l i (b ∷ s) = length_put (set l i b) (suc i) s ∙ length-set l i b

-- where there is room, it is the list written over
pub put_splice : (l : List ℕ) (i : ℕ) (s : List ℕ) → i + length s ≤ length l → put l i s ≡ splice l i s
unfolding put
put_splice l i [] h = sym (splice_nil l i)
put_splice l i (b ∷ s) h =
    put_splice (set l i b) (suc i) s (rw length-set (omega arith)) ∙ splice_set l i b s (omega arith)

-- an empty output stays empty
pub put_empty : (i : ℕ) (s : List ℕ) → put [] i s ≡ []
unfolding put
put_empty i [] = refl
put_empty i (b ∷ s) = put_empty (suc i) s

-- nothing put
pub puts_none : (l : List ℕ) (at : ℕ) → Puts l at [] at l
unfolding put
puts_none l at = record { place = sym (add-zero at); list = refl }

-- one byte
pub puts_inside : (l : List ℕ) (at b : ℕ) → Puts l at (b ∷ []) (at + 1) (set l at b)
unfolding put
puts_inside l at b = record { place = refl; list = refl }

-- a byte without room
pub puts_beyond : (l : List ℕ) (at b : ℕ) → length l ≤ at → Puts l at (b ∷ []) (at + 1) l
unfolding put
puts_beyond l at b h = record { place = refl; list = sym (set_out l at b h) }

-- one thing after another
pub puts_then : {l : List ℕ} {at : ℕ} {s : List ℕ} {p : ℕ} {e : List ℕ} {t : List ℕ} {q : ℕ} {f : List ℕ}
    → Puts l at s p e → Puts e p t q f → Puts l at (s ++ t) q f
puts_then {l} {at} {s} {p} {e} {t} v w =
    record {
      place = omega (arith, length-append s t, v.place, w.place);
      list = w.list ∙ (rw (v.list, v.place) (sym (put_append l at s t)));
    }

-- two results of one putting are equal
pub puts_once : {l : List ℕ} {at : ℕ} {s : List ℕ} {p q : ℕ} {e f : List ℕ} → Puts l at s p e → Puts l at s q f → (p ≡ q) × (e ≡ f)
puts_once v w = (v.place ∙ sym w.place, v.list ∙ sym w.list)

-- partway: putting the rest where it has come to gives the same as putting the whole; the invariant of a loop that puts
pub record Partway (l : List ℕ) (at : ℕ) (whole : List ℕ) (e : List ℕ) (p : ℕ) (rest : List ℕ) : Type 0 where
  pub place : p + length rest ≡ at + length whole
  pub list : put e p rest ≡ put l at whole

-- nothing was put yet
pub partway_start : (l : List ℕ) (at : ℕ) (whole : List ℕ) → Partway l at whole l at whole
partway_start l at whole = record { place = refl; list = refl }

module _ {l : List ℕ} {at : ℕ} {whole e : List ℕ} {p : ℕ} {rest : List ℕ} (h : Partway l at whole e p rest) where
  -- a part of the rest was put
  pub partway_turn : {s : List ℕ} {q : ℕ} {f : List ℕ} (t : List ℕ) → rest ≡ s ++ t → Puts e p s q f → Partway l at whole f q t
  partway_turn {s} t k w =
      record {
        place = omega (arith, h.place, ap length k, length-append s t, w.place);
        list = rw (w.list, w.place) (sym (put_append e p s t) ∙ ap (put e p) (sym k) ∙ h.list);
      }

  -- all was put
  pub partway_end : rest ≡ [] → Puts l at whole p e
  unfolding put
  partway_end k = record { place = omega (arith, h.place, ap length k); list = sym (ap (put e p) k) ∙ h.list }

  -- the length stays on the way too
  pub partway_length : length e ≡ length l
  partway_length = sym (length_put e p rest) ∙ ap length h.list ∙ length_put l at whole

-- what is left of a list from an index on: its element there, and the rest
pub split_at : (l : List ℕ) (i : ℕ) → i < length l → drop i l ≡ (get_or l i 0 ∷ []) ++ drop (i + 1) l
split_at l i h = rw (add-one, drop-cons l i 0 h)

-- of two lists that are short, either is
pub either : (t : Bool) (a b : List ℕ) (n : ℕ) → length a ≤ n → length b ≤ n → length (cond t a b) ≤ n
either true a b n h k = h
either false a b n h k = k
