-- Laws of a list written over another, for any element. Assumes nothing.
use Rattle.std.proofs.Common.{◌≡◌, ℕ, suc, ◌+◌, ◌-◌, ◌<◌, ◌≤◌, List, [], ◌∷◌, ◌++◌, length, get_or, take, drop, set, sym, refl, ap, ◌∙◌, append_assoc, add-zero, add_assoc, add-suc, suc-add, zero-add, add-one, arith, length-append, length-drop, length-set, take-append-drop, drop_of_length-le, length-take, length-take-le, drop-cons, drop-drop, take-suc-set, take_at, drop-set-lt}
use lib.Seq.{drop-append-add}
use borrow.Rule.Slice.PartMut.{put_mid}
use Rattle.slices.specs.Splice.{splice, Wrote}

module _ {A : Type 0} where
  pub splice_nil : (d : List A) (at : ℕ) → splice d at [] ≡ d
  unfolding splice
  splice_nil d at = rw add-zero (take-append-drop at d)

  pub splice_start : (d s : List A) → splice d 0 s ≡ s ++ drop (length s) d
  unfolding splice
  splice_start d s = rw zero-add

  pub length_splice : (d : List A) (at : ℕ) (s : List A) → at + length s ≤ length d → length (splice d at s) ≡ length d
  unfolding splice
  length_splice d at s h = simp (length-append, length-take, length-drop) (omega arith)

  -- what lies below the place is kept, and then what was written stands there
  pub take_splice : (d : List A) (at : ℕ) (s : List A) → at ≤ length d → take at (splice d at s) ≡ take at d
  unfolding splice
  take_splice d at s h = take_at (take at d) (s ++ drop (at + length s) d) at (length-take-le at d h)

  pub front_splice : (d : List A) (at : ℕ) (s : List A) → at ≤ length d → take (at + length s) (splice d at s) ≡ take at d ++ s
  unfolding splice
  front_splice d at s h =
      let f : length (take at d ++ s) ≡ at + length s = length-append (take at d) s ∙ ap (λ n. n + length s) (length-take-le at d h) in
      ap (take (at + length s)) (sym (append_assoc (take at d) s (drop (at + length s) d)))
      ∙ take_at (take at d ++ s) (drop (at + length s) d) (at + length s) f

  -- one list after another
  pub splice_append : (d : List A) (at : ℕ) (s t : List A) → at ≤ length d → splice (splice d at s) (at + length s) t ≡ splice d at (s ++ t)
  unfolding splice
  splice_append d at s t h =
      let f : length (take at d ++ s) ≡ at + length s = length-append (take at d) s ∙ ap (λ n. n + length s) (length-take-le at d h) in
      let e : take at d ++ (s ++ drop (at + length s) d) ≡ (take at d ++ s) ++ drop (at + length s) d = sym (append_assoc (take at d) s (drop (at + length s) d)) in
      rw (e, take_at (take at d ++ s) (drop (at + length s) d) (at + length s) f, ← f, drop-append-add, f, drop-drop, length-append, add_assoc)
      (simp append_assoc)

  -- one element, then the rest
  pub splice_set : (d : List A) (at : ℕ) (x : A) (xs : List A) → at < length d → splice (set d at x) (suc at) xs ≡ splice d at (x ∷ xs)
  unfolding splice
  splice_set d at x xs h = rw (take-suc-set, append_assoc, drop-set-lt (suc at + length xs) d at x (omega arith), suc-add, add-suc)

  -- a turn of a copy: z is what stands past the end
  pub splice_turn : (src out : List A) (at i : ℕ) (z : A) → i < length src → at + i < length out
      → splice (set out (at + i) (get_or src i z)) (at + (i + 1)) (drop (i + 1) src) ≡ splice out (at + i) (drop i src)
  splice_turn src out at i z h k = rw (add-one, add-suc, drop-cons src i z) (splice_set out (at + i) (get_or src i z) (drop (suc i) src) k)

  -- nothing written, and one thing after another
  pub wrote_none : (d : List A) (at : ℕ) → at ≤ length d → Wrote d at [] at d
  wrote_none d at h = record { room = omega arith; place = omega arith; list = sym (splice_nil d at) }

  pub wrote_length : {d : List A} {at : ℕ} {s : List A} {p : ℕ} {e : List A} → Wrote d at s p e → length e ≡ length d
  wrote_length {d} {at} {s} w = ap length w.list ∙ length_splice d at s w.room

  pub wrote_then : {d : List A} {at : ℕ} {s : List A} {p : ℕ} {e : List A} {t : List A} {q : ℕ} {f : List A}
      → Wrote d at s p e → Wrote e p t q f → Wrote d at (s ++ t) q f
  wrote_then {d} {at} {s} {p} {e} {t} {q} {f} v w =
      record {
        room = omega (arith, wrote_length v, length-append s t, v.place, w.room);
        place = omega (arith, length-append s t, v.place, w.place);
        list = w.list ∙ (rw (v.list, v.place) (splice_append d at s t (omega (arith, v.room))));
      }

  -- after `copy_from_slice` into a part of d: what was written is what stands in the part now
  pub wrote_mid : {d s e : List A} {at : ℕ} → at + length s ≤ length d → e ≡ s → Wrote d at s (at + length s) (put_mid at (at + length s - at) d e)
  unfolding splice
  wrote_mid {d} {s} {e} {at} h f =
      let q : at + length s - at ≡ length s = omega arith in
      record { room = h; place = refl; list = rw (f, q, drop-drop) }

  -- what lies below the place is kept
  pub wrote_kept : {d : List A} {at : ℕ} {s : List A} {p : ℕ} {e : List A} → Wrote d at s p e → take at e ≡ take at d
  wrote_kept {d} {at} {s} w = ap (take at) w.list ∙ take_splice d at s (omega (arith, w.room))

  -- up to the place after it stands what was there and what was written
  pub wrote_front : {d : List A} {at : ℕ} {s : List A} {p : ℕ} {e : List A} → Wrote d at s p e → take p e ≡ take at d ++ s
  wrote_front {d} {at} {s} {p} {e} w = ap (λ n. take n e) w.place ∙ ap (take (at + length s)) w.list ∙ front_splice d at s (omega (arith, w.room))

  -- two results of one writing are equal
  pub wrote_once : {d : List A} {at : ℕ} {s : List A} {p q : ℕ} {e f : List A} → Wrote d at s p e → Wrote d at s q f → (p ≡ q) × (e ≡ f)
  wrote_once v w = (v.place ∙ sym w.place, v.list ∙ sym w.list)

  -- A copy partway: i elements of src stand in out, and writing what is left at the place reached gives the result. The invariant of a loop that copies
  pub record Copying (src d : List A) (at : ℕ) (out : List A) (i : ℕ) : Type 0 where
    pub below : i ≤ length src
    pub long : length out ≡ length d
    pub list : splice out (at + i) (drop i src) ≡ splice d at src

  pub copying_start : (src d : List A) (at : ℕ) → Copying src d at d 0
  copying_start src d at = record { below = omega arith; long = refl; list = rw add-zero }

  module _ {src d : List A} {at : ℕ} {out : List A} {i : ℕ} (c : Copying src d at out i) (room : at + length src ≤ length d) where
    pub copying_turn : (x z : A) → i < length src → x ≡ get_or src i z → Copying src d at (set out (at + i) x) (i + 1)
    copying_turn x z h e =
        record {
          below = omega arith;
          long = length-set out (at + i) x ∙ c.long;
          list = rw e (splice_turn src out at i z h (omega (arith, c.long)) ∙ c.list);
        }

    pub copying_end : length src ≤ i → Wrote d at src (at + length src) out
    copying_end h =
        let f : drop i src ≡ [] = drop_of_length-le src h in
        record { room = room; place = refl; list = sym (splice_nil out (at + i)) ∙ (rw f at c.list) }

-- one element written
pub wrote_one : (d : List ℕ) (at x : ℕ) → at < length d → Wrote d at (x ∷ []) (at + 1) (set d at x)
wrote_one d at x h = record { room = omega arith; place = refl; list = sym (splice_nil (set d at x) (suc at)) ∙ splice_set d at x [] h }
