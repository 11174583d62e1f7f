-- A number written byte by byte, the low one first: the loop's invariant and its turns. Assumes nothing.
use mathlib.Core.Path.{◌≡◌, refl, sym, ap, ◌∙◌}
use mathlib.Core.List.{List, ◌∷◌}
use Prim.Native.Nat.{ℕ, zero, suc, ◌+◌, ◌-◌, ◌/◌, ◌%◌, ◌≤◌, ◌<◌}
use native.Mathlib.Omega.{arith}
use native.Mathlib.Numerals.{add-one}
use lib.ListN.{length, drop, set, get_or, length-set}
use lib.Seq.{drop-cons}
use Rattle.slices.specs.Splice.{Wrote}
use Rattle.slices.proofs.Splice.{Copying, copying_turn, copying_end, splice_set}
use Rattle.postfix.specs.Postfix.{little}

-- a number in n bytes has n bytes
pub length_little : (n x : ℕ) → length (little n x) ≡ n
unfolding little
length_little zero x = refl
length_little (suc n) x = ap suc (length_little n (x / 256))

-- one byte, then what is left of the number
little_next : (m n x : ℕ) → m ≡ suc n → little m x ≡ x % 256 ∷ little n (x / 256)
unfolding little
little_next m n x e = rw e

-- i bytes of x stand in out, and rest is what is left of it
pub record Writing (n x : ℕ) (d : List ℕ) (at : ℕ) (out : List ℕ) (rest i : ℕ) : Type 0 where
  pub copying : Copying (little n x) d at out i
  pub left : drop i (little n x) ≡ little (n - i) rest

module _ {n x : ℕ} {d : List ℕ} {at : ℕ} {out : List ℕ} {rest i : ℕ} (w : Writing n x d at out rest i) (room : at + n ≤ length d) where
  -- there is room for the number's bytes
  full : at + length (little n x) ≤ length d
  full = omega (arith, length_little n x)

  -- one byte more
  pub writing_turn : i < n → Writing n x d at (set out (at + i) (rest % 256)) (rest / 256) (i + 1)
  writing_turn h =
      let e : get_or (little n x) i 0 ∷ drop (suc i) (little n x) ≡ rest % 256 ∷ little (n - suc i) (rest / 256) =
      sym (drop-cons (little n x) i 0 (omega (arith, length_little n x))) ∙ w.left ∙ little_next (n - i) (n - suc i) rest (omega arith) in
      record {
        copying = copying_turn w.copying full (rest % 256) 0 (omega (arith, length_little n x)) (cc);
        left = rw add-one (cc);
      }

  -- all bytes are written
  pub writing_end : n ≤ i → Wrote d at (little n x) (at + n) out
  writing_end h =
      let v : Wrote d at (little n x) (at + length (little n x)) out = copying_end w.copying full (omega (arith, length_little n x)) in
      rw (length_little n x) at v

-- one element, then the rest
pub wrote_first : {d : List ℕ} {at x : ℕ} {xs : List ℕ} {p : ℕ} {e : List ℕ} → at < length d → Wrote (set d at x) (at + 1) xs p e → Wrote d at (x ∷ xs) p e
wrote_first {d} {at} {x} {xs} h w = record {
  room = omega (arith, w.room, length-set d at x);
  place = omega (arith, w.place);
  list = w.list ∙ rw add-one (splice_set d at x xs h);
}
