-- Comparing an output with its result and the rubbish behind it, and a text with what is stored at its start. Assumes nothing.
use mathlib.Core.Path.{◌≡◌, refl, sym, ap, ◌∙◌}
use mathlib.Core.Bool.{Bool, true, false, ◌&&◌}
use mathlib.Core.List.{List, [], ◌∷◌, ◌++◌}
use Prim.Native.Nat.{ℕ, suc, ◌+◌, ◌-◌, ◌≤◌, ◌<◌, min}
use native.Mathlib.Omega.{arith}
use native.Mathlib.Numerals.{add-one}
use lib.ListN.{length, take, drop, get_or, length-append, drop_of_length-le, take-append-drop, length-take}
use lib.Dec.{ltb, eqb}
use lib.Seq.{drop-cons, take-append_seam, take-take, take_all, take-length, take-add}
use borrow.Author.Tests.{eq-eqb, ne_eqb, ltb-true, ltb-false}
use Rattle.std.specs.Prelude.{nat_eq}
use Rattle.std.specs.Cmp.Lexicographic.{pointwise}
use Rattle.refusals.proofs.Bools.{true_false}
use Rattle.slices.specs.Bytes.{both, same_bytes}
use Rattle.slices.specs.Splice.{piece}
use Rattle.slices.proofs.Bytes.{same_self, same_eq, differ}
use Rattle.replay.specs.Compare.{rubbish_from, output_after}

-- what two lists have at their start doesn't tell them apart
same_front : (l a b : List ℕ) → same_bytes (l ++ a) (l ++ b) ≡ same_bytes a b
unfolding same_bytes
same_front [] a b = refl
same_front (x ∷ l) a b = rw (eq-eqb x x refl) (same_front l a b)

-- std's `==` of words tells whether they are the same
pub eq_same : (a b : List ℕ) → pointwise nat_eq a b ≡ same_bytes a b
unfolding same_bytes
eq_same [] [] = refl
eq_same [] (y ∷ b) = refl
eq_same (x ∷ a) [] = refl
eq_same (x ∷ a) (y ∷ b) = rw (eq_same a b) (go (eqb x y))
  where
    go : (f : Bool) → (f && same_bytes a b) ≡ both f (same_bytes a b)
    go true = refl
    go false = refl

-- ---- rubbish behind a result

module _ (f : ℕ → ℕ) (out : List ℕ) (i : ℕ) where
  module _ (h : i < length out) where
    -- one more is left
    left : length out - i ≡ suc (length out - (i + 1))
    left = omega arith

    -- an element that isn't the rubbish
    pub rubbish_differs : (get_or out i 0 ≡ f i → ⊥) → same_bytes (drop i out) (rubbish_from f i (length out - i)) ≡ false
    unfolding same_bytes rubbish_from
    rubbish_differs n = rw (left, drop-cons out i 0 h, ne_eqb (get_or out i 0) (f i) n)

    -- one that is, then the rest
    pub rubbish_agrees : get_or out i 0 ≡ f i
        → same_bytes (drop i out) (rubbish_from f i (length out - i)) ≡ same_bytes (drop (i + 1) out) (rubbish_from f (i + 1) (length out - (i + 1)))
    unfolding same_bytes rubbish_from
    rubbish_agrees e = rw (left, drop-cons out i 0 h, eq-eqb (get_or out i 0) (f i) e, add-one i)

  -- nothing is left
  pub rubbish_end : length out ≤ i → same_bytes (drop i out) (rubbish_from f i (length out - i)) ≡ true
  unfolding same_bytes rubbish_from
  rubbish_end h = let e : length out - i ≡ 0 = omega arith in rw (e, drop_of_length-le out h)

module _ (f : ℕ → ℕ) (out result : List ℕ) where
  -- an output that is shorter than the result
  pub output_short : length out < length result → same_bytes out (output_after f result (length out)) ≡ false
  output_short h = differ out _ (λ e. omega (arith, ap length e, length-append result (rubbish_from f (length result) (length out - length result))))

  -- one that begins with something else
  pub output_other : same_bytes (take (length result) out) result ≡ false → same_bytes out (output_after f result (length out)) ≡ false
  output_other n =
      differ out _ (λ e. true_false (sym (ap (λ l. same_bytes l result) (ap (take (length result)) e ∙ take-append_seam result _) ∙ same_self result) ∙ n))

  -- one that begins with it: the rest tells
  pub output_begins : same_bytes (take (length result) out) result ≡ true
      → same_bytes out (output_after f result (length out)) ≡ same_bytes (drop (length result) out) (rubbish_from f (length result) (length out - length result))
  output_begins e =
      let q : out ≡ result ++ drop (length result) out = sym (take-append-drop (length result) out) ∙ ap (λ l. l ++ drop (length result) out) (same_eq (take (length result) out) result e) in
      ap (λ l. same_bytes l (output_after f result (length out))) q ∙ same_front result (drop (length result) out) (rubbish_from f (length result) (length out - length result))

-- ---- a text with something stored at its start

-- a text that is too short
pub text_short : (text stored : List ℕ) → length text < length stored → same_bytes (take (length stored) text) stored ≡ false
text_short text stored h = differ _ stored (λ e. let q : length (take (length stored) text) ≡ length stored = ap length e in omega (arith, length-take (length stored) text))

module _ (text stored new : List ℕ) (mark end : ℕ) (e : end ≡ min mark (length text)) where
  -- up to the mark or the end
  to_end : take mark text ≡ take end text
  to_end = by (ltb mark (length text)) refl
    where
      by : (x : Bool) → ltb mark (length text) ≡ x → take mark text ≡ take end text
      by true q = let h = ltb-true mark (length text) q in let d : mark ≡ end = omega arith in ap (λ n. take n text) d
      by false q =
          let h = ltb-false mark (length text) q in
          let d : end ≡ length text = omega arith in
          take_all mark text h ∙ sym (take-length text) ∙ ap (λ n. take n text) (sym d)

  -- it ends before the stored bytes do
  pub mark_early : end < length stored → same_bytes (take mark text) (stored ++ new) ≡ false
  mark_early h =
      differ _ _ (λ q. omega (arith, ap length (sym to_end ∙ q), length-append stored new, length-take end text))

  module _ (h : length stored ≤ end) where
    -- the text up to there: as long as the stored bytes are, then the rest
    split : take mark text ≡ take (length stored) text ++ piece (length stored) (end - length stored) text
    split =
        let q : end ≡ length stored + (end - length stored) = omega arith in
        to_end ∙ ap (λ n. take n text) q ∙ take-add (length stored) (end - length stored) text

    -- the stored bytes aren't there
    pub stored_other : same_bytes (take (length stored) text) stored ≡ false → same_bytes (take mark text) (stored ++ new) ≡ false
    stored_other n =
        differ _ _ (λ q. true_false (sym (ap (λ l. same_bytes l stored) (front q) ∙ same_self stored) ∙ n))
      where
        front : take mark text ≡ stored ++ new → take (length stored) text ≡ stored
        front q = sym (take-take (length stored) end text h) ∙ ap (take (length stored)) (sym to_end ∙ q) ∙ take-append_seam stored new

    -- they are: the rest tells
    pub stored_there : same_bytes (take (length stored) text) stored ≡ true
        → same_bytes (piece (length stored) (end - length stored) text) new ≡ same_bytes (take mark text) (stored ++ new)
    stored_there q =
        sym (same_front stored (piece (length stored) (end - length stored) text) new)
        ∙ ap (λ l. same_bytes (l ++ piece (length stored) (end - length stored) text) (stored ++ new)) (sym (same_eq (take (length stored) text) stored q))
        ∙ ap (λ l. same_bytes l (stored ++ new)) (sym split)
