-- Laws of a part of a list. Assumes nothing.
use Rattle.std.proofs.Common.{◌≡◌, ℕ, zero, suc, ◌+◌, ◌-◌, ◌*◌, ◌/◌, ◌<◌, ◌≤◌, List, [], ◌∷◌, length, get_or, take, drop, sym, refl, ap, ◌∙◌, append_assoc, arith, length-drop, length-take, drop-cons, take-take}
use native.Mathlib.Nat.{sub-zero, zero-sub, suc-sub-suc}
use lib.Seq.{take-nil}
use Rattle.std.specs.List.{copy_within}
use Rattle.slices.specs.Splice.{piece, splice, Wrote}

module _ {A : Type 0} where
  -- a front cut off: a part of a front is a front of the part
  pub drop_take : (s m : ℕ) (l : List A) → drop s (take m l) ≡ take (m - s) (drop s l)
  drop_take zero m l = rw sub-zero
  drop_take (suc s) zero [] = rw zero-sub
  drop_take (suc s) zero (a ∷ l) = rw zero-sub
  drop_take (suc s) (suc m) [] = sym (take-nil (suc m - suc s))
  drop_take (suc s) (suc m) (a ∷ l) = drop_take s m l ∙ rw suc-sub-suc

  -- a part that ends within a front is the same part of the whole
  pub piece_take : (m s n : ℕ) (l : List A) → s + n ≤ m → piece s n (take m l) ≡ piece s n l
  piece_take m s n l h = ap (take n) (drop_take s m l) ∙ take-take n (m - s) (drop s l) (omega arith)

  pub piece_length : (s n : ℕ) (l : List A) → s + n ≤ length l → length (piece s n l) ≡ n
  piece_length s n l h = simp (length-take, length-drop) (omega arith)

  -- two lists with one front have the same parts there
  pub piece_front : (m s n : ℕ) (k l : List A) → s + n ≤ m → take m k ≡ take m l → piece s n k ≡ piece s n l
  piece_front m s n k l h e = sym (piece_take m s n k h) ∙ ap (piece s n) e ∙ piece_take m s n l h

  -- after `copy_within`
  pub wrote_within : {d e : List A} (from n to : ℕ) → from + n ≤ to → to + n ≤ length d → e ≡ copy_within d from (from + n) to → Wrote d to (piece from n d) (to + n) e
  unfolding splice
  wrote_within {d} {e} from n to h k f =
      let long : length (piece from n d) ≡ n = piece_length from n d (omega arith) in
      let q : from + n - from ≡ n = omega arith in
      record { room = rw long k; place = rw long; list = rw (f, q, long, append_assoc) }

-- a front is as long as it is
pub take_own : (n : ℕ) (l : List ℕ) → take (length (take n l)) l ≡ take n l
take_own zero l = refl
take_own (suc n) [] = refl
take_own (suc n) (x ∷ l) = ap (λ y. x ∷ y) (take_own n l)

-- of words two by two: the two at an index, then the rest
pub pair_drop : (l : List ℕ) (i : ℕ) → i < length l / 2 → drop (2 * i) l ≡ get_or l (2 * i) 0 ∷ get_or l (2 * i + 1) 0 ∷ drop (2 * (i + 1)) l
pair_drop l i h =
    let e : suc (suc (2 * i)) ≡ 2 * (i + 1) = omega arith in
    let f : suc (2 * i) ≡ 2 * i + 1 = omega arith in
    drop-cons l (2 * i) 0 (omega arith) ∙ ap (λ x. get_or l (2 * i) 0 ∷ x) (drop-cons l (suc (2 * i)) 0 (omega arith) ∙ rw (e, f))
