-- Laws of comparing two texts: as an order, and from the end. Assumes nothing.
use Rattle.std.proofs.Common.{◌≡◌, ℕ, suc, ◌-◌, ◌<◌, ◌≤◌, Bool, true, false, eqb, ltb, List, [], ◌∷◌, length, get_or, drop, sym, refl, ap, ◌∙◌, subst, ap₂, le_antisymm, arith, drop_of_length-le, drop-cons, ltb-false, ltb-true, le-ltb, eq-eqb, eqb-true}
use Rattle.std.specs.Ordering.{nat_cmp, ordering_then}
use Rattle.std.specs.Cmp.{nat_cmp_is}
use Rattle.std.specs.Cmp.Lexicographic.{slice_cmp}
use Rattle.slices.specs.Bytes.{by_bytes, by_tests, same_bytes, both, is_equal}
use Rattle.std.specs.declared.cmp.Ordering.{Ordering}
use Rattle.std.specs.declared.cmp.Ordering.TheVariants.{Less, Equal, Greater}

-- ---- std's order of slices

-- of two bytes
nat_order : (a b : ℕ) → nat_cmp a b ≡ by_tests (ltb a b) (ltb b a) Equal
nat_order a b = sym (go (ltb a b) (ltb b a) (ltb-true a b) (ltb-false a b) (ltb-true b a) (ltb-false b a))
  where
    go : (f g : Bool) → (f ≡ true → a < b) → (f ≡ false → b ≤ a) → (g ≡ true → b < a) → (g ≡ false → a ≤ b) → by_tests f g Equal ≡ nat_cmp a b
    go true g h k l m = nat_cmp_is a b Less (h refl)
    go false true h k l m = nat_cmp_is a b Greater (l refl)
    go false false h k l m = nat_cmp_is a b Equal (le_antisymm (m refl) (k refl))

-- is that of texts
pub slice_order : (a b : List ℕ) → slice_cmp nat_cmp a b ≡ by_bytes a b
unfolding by_bytes
slice_order [] [] = refl
slice_order [] (b ∷ t) = refl
slice_order (a ∷ s) [] = refl
slice_order (a ∷ s) (b ∷ t) = rw (nat_order a b) (go (ltb a b) (ltb b a) (slice_order s t))
  where
    go : (f g : Bool) → slice_cmp nat_cmp s t ≡ by_bytes s t → ordering_then (by_tests f g Equal) (slice_cmp nat_cmp s t) ≡ by_tests f g (by_bytes s t)
    go true g e = refl
    go false true e = refl
    go false false e = e

-- ---- equal texts

-- no text comes before itself
pub bytes_self : (l : List ℕ) → by_bytes l l ≡ Equal
unfolding by_bytes
bytes_self [] = refl
bytes_self (a ∷ l) = rw (le-ltb a a (omega arith)) (bytes_self l)

-- texts of which neither comes first are equal
pub bytes_equal : (a b : List ℕ) → by_bytes a b ≡ Equal → a ≡ b
unfolding by_bytes
bytes_equal [] [] e = refl
bytes_equal [] (b ∷ t) e = absurd (let z : ◌≡◌ {A = ℕ} 0 1 = cc in omega arith)
bytes_equal (a ∷ s) [] e = absurd (let z : ◌≡◌ {A = ℕ} 0 1 = cc in omega arith)
bytes_equal (a ∷ s) (b ∷ t) e = go (ltb a b) (ltb b a) (ltb-false a b) (ltb-false b a) (bytes_equal s t) e
  where
    go : (f g : Bool) → (f ≡ false → b ≤ a) → (g ≡ false → a ≤ b) → (by_bytes s t ≡ Equal → s ≡ t) → by_tests f g (by_bytes s t) ≡ Equal → a ∷ s ≡ b ∷ t
    go true g h k r e = absurd (let z : ◌≡◌ {A = ℕ} 0 1 = cc in omega arith)
    go false true h k r e = absurd (let z : ◌≡◌ {A = ℕ} 0 1 = cc in omega arith)
    go false false h k r e = ap₂ ◌∷◌ (le_antisymm (k refl) (h refl)) (r e)

-- a text is the same as itself
pub same_self : (l : List ℕ) → same_bytes l l ≡ true
unfolding same_bytes
same_self [] = refl
same_self (a ∷ l) = rw (eq-eqb a a refl) (same_self l)

-- texts that are the same byte by byte are equal
pub same_eq : (a b : List ℕ) → same_bytes a b ≡ true → a ≡ b
unfolding same_bytes
same_eq [] [] e = refl
same_eq [] (b ∷ t) e = absurd (let z : ◌≡◌ {A = ℕ} 0 1 = cc in omega arith)
same_eq (a ∷ s) [] e = absurd (let z : ◌≡◌ {A = ℕ} 0 1 = cc in omega arith)
same_eq (a ∷ s) (b ∷ t) e = go (eqb a b) (λ f. eqb-true a b f) (same_eq s t) e
  where
    go : (f : Bool) → (f ≡ true → a ≡ b) → (same_bytes s t ≡ true → s ≡ t) → both f (same_bytes s t) ≡ true → a ∷ s ≡ b ∷ t
    go true h k e = ap₂ ◌∷◌ (h refl) (k e)
    go false h k e = absurd (let z : ◌≡◌ {A = ℕ} 0 1 = cc in omega arith)

-- texts that are not the same
pub differ : (a b : List ℕ) → (a ≡ b → ⊥) → same_bytes a b ≡ false
differ a b n = go (same_bytes a b) refl
  where
    go : (f : Bool) → same_bytes a b ≡ f → f ≡ false
    go true e = absurd (n (same_eq a b e))
    go false e = refl

-- texts of different lengths are not the same
pub same_length : (a b : List ℕ) → (length a ≡ length b → ⊥) → same_bytes a b ≡ false
same_length a b n = differ a b (λ e. n (ap length e))

-- two texts are the same exactly if neither comes first
pub same_order : (a b : List ℕ) → same_bytes a b ≡ is_equal (by_bytes a b)
same_order a b = go (by_bytes a b) refl
  where
    self : a ≡ b → by_bytes a b ≡ Equal
    self f = ap (by_bytes a) (sym f) ∙ bytes_self a

    go : (o : Ordering) → by_bytes a b ≡ o → same_bytes a b ≡ is_equal o
    go Less e = differ a b (λ f. let q = self f in let z : ◌≡◌ {A = ℕ} 0 1 = cc in omega arith)
    go Equal e = ap (same_bytes a) (sym (bytes_equal a b e)) ∙ same_self a
    go Greater e = differ a b (λ f. let q = self f in let z : ◌≡◌ {A = ℕ} 0 1 = cc in omega arith)

-- ---- from the end

module _ (a b : List ℕ) where
  -- nothing is left after the ends
  pub ends_alike : length a ≡ length b → drop (length a) a ≡ drop (length a) b
  ends_alike e =
      let h : length a ≤ length a = omega arith in
      let k : length b ≤ length a = omega arith in
      drop_of_length-le a h ∙ sym (drop_of_length-le b k)

  module _ (i : ℕ) where
    -- a byte that differs
    pub differ_before : (get_or a (i - 1) 0 ≡ get_or b (i - 1) 0 → ⊥) → same_bytes a b ≡ false
    differ_before d = differ a b (λ e. d (ap (λ l. get_or l (i - 1) 0) e))

    -- a byte that agrees, before ends that do
    pub agree_before : 0 < i → i ≤ length a → i ≤ length b → get_or a (i - 1) 0 ≡ get_or b (i - 1) 0 → drop i a ≡ drop i b → drop (i - 1) a ≡ drop (i - 1) b
    agree_before h m n e f =
        let q : i ≡ suc (i - 1) = omega arith in
        let g : drop (suc (i - 1)) a ≡ drop (suc (i - 1)) b = subst (λ k. drop k a ≡ drop k b) q f in
        drop-cons a (i - 1) 0 (omega arith) ∙ ap₂ ◌∷◌ e g ∙ sym (drop-cons b (i - 1) 0 (omega arith))

-- texts that agree from the start on are the same
pub all_agree : (a b : List ℕ) (i : ℕ) → i ≤ 0 → drop i a ≡ drop i b → same_bytes a b ≡ true
all_agree a b i h e =
    let q : i ≡ 0 = omega arith in
    let f : a ≡ b = subst (λ k. drop k a ≡ drop k b) q e in
    ap (same_bytes a) (sym f) ∙ same_self a
