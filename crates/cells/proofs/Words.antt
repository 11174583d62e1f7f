-- Words and cells: the cell of a word by its kind, and that each is the other's. Assumes nothing.
use mathlib.Core.Path.{◌≡◌, refl, sym, ap, ap₂, ◌∙◌}
use mathlib.Core.Bool.{Bool, true, false}
use Prim.Native.Nat.{ℕ, ◌+◌, ◌*◌, ◌^◌, ◌/◌, ◌%◌, ◌<◌}
use native.Mathlib.Omega.{arith}
use lib.Dec.{eqb}
use borrow.Author.Tests.{eq-eqb, ne_eqb, ltb-true, eqb-true, eqb-false}
use mir.Syntax.{w32}
use mir.Val.{SFits, to_z, of_z}
use mir.Facts.{to_z-of_z, of_z-to_z, sfits_to_z, Fits-of_z}
use Rattle.cells.specs.Cell.{kind_of, body_of, bodies_of, is_cell, start_of, length_of, word_of, ref_of}
use Rattle.cells.specs.declared.ValueRef.{ValueRef}
use Rattle.cells.specs.declared.ValueRef.TheVariants.{Null, Int, Str, Binary}

-- ---- the cell of a word, by its kind

module _ (w : ℕ) where
  pub ref_int : kind_of w ≡ 1 → ref_of w ≡ Int (to_z w32 (w % 2 ^ 32))
  unfolding ref_of
  ref_int e = rw (eq-eqb (kind_of w) 1 e)

  pub ref_str : kind_of w ≡ 2 → ref_of w ≡ Str (start_of w) (length_of w)
  unfolding ref_of
  ref_str e = rw (ne_eqb (kind_of w) 1 (omega arith), eq-eqb (kind_of w) 2 e)

  pub ref_binary : kind_of w ≡ 3 → ref_of w ≡ Binary
  unfolding ref_of
  ref_binary e = rw (ne_eqb (kind_of w) 1 (omega arith), ne_eqb (kind_of w) 2 (omega arith), eq-eqb (kind_of w) 3 e)

  pub ref_null : (kind_of w ≡ 1 → ⊥) → (kind_of w ≡ 2 → ⊥) → (kind_of w ≡ 3 → ⊥) → ref_of w ≡ Null
  unfolding ref_of
  ref_null i s b = rw (ne_eqb (kind_of w) 1 i, ne_eqb (kind_of w) 2 s, ne_eqb (kind_of w) 3 b)

-- an Int that a call gave, held in 32 bits
pub held_int : (n : ℕ) → n < 2 ^ 32 → to_z w32 (of_z w32 (to_z w32 n)) ≡ to_z w32 n
held_int n h = to_z-of_z (sfits_to_z {w = w32} {n = n} (record { fits = h }))

-- ---- how many bodies a kind has

module _ (k : ℕ) where
  pub bodies_other : (k ≡ 0 → ⊥) → (k ≡ 1 → ⊥) → (k ≡ 2 → ⊥) → (k ≡ 3 → ⊥) → bodies_of k ≡ 0
  unfolding bodies_of
  bodies_other n i s b = rw (ne_eqb k 0 n, ne_eqb k 1 i, ne_eqb k 2 s, ne_eqb k 3 b)

-- ---- each is the other's

module _ (w : ℕ) (h : is_cell w ≡ true) where
  few : body_of w < bodies_of (kind_of w)
  unfolding is_cell
  few = ltb-true (body_of w) (bodies_of (kind_of w)) h

  bodies_are : (k m : ℕ) → bodies_of k ≡ m → kind_of w ≡ k → body_of w < m
  bodies_are k m e f = let q : body_of w < bodies_of (kind_of w) = few in rw (f, e) at q

  pub null_word : kind_of w ≡ 0 → w ≡ 0
  unfolding bodies_of
  null_word e = omega (arith, bodies_are 0 1 refl e)

  pub int_word : kind_of w ≡ 1 → w ≡ 1 * 2 ^ 56 + w % 2 ^ 32
  unfolding bodies_of
  int_word e = omega (arith, bodies_are 1 (2 ^ 32) refl e)

  pub str_word : kind_of w ≡ 2 → w ≡ 2 * 2 ^ 56 + (start_of w * 65536 + length_of w)
  unfolding bodies_of
  str_word e = omega (arith, bodies_are 2 (2 ^ 48) refl e)

  pub binary_word : kind_of w ≡ 3 → w ≡ 3 * 2 ^ 56
  unfolding bodies_of
  binary_word e = omega (arith, bodies_are 3 1 refl e)

  -- the kinds that a cell has
  pub four_kinds : (kind_of w ≡ 1 → ⊥) → (kind_of w ≡ 2 → ⊥) → (kind_of w ≡ 3 → ⊥) → kind_of w ≡ 0
  four_kinds i s b = go (eqb (kind_of w) 0) refl
    where
      go : (t : Bool) → eqb (kind_of w) 0 ≡ t → kind_of w ≡ 0
      go true e = eqb-true (kind_of w) 0 e
      go false e =
          let z : bodies_of (kind_of w) ≡ 0 = bodies_other (kind_of w) (eqb-false (kind_of w) 0 e) i s b in
          absurd (omega (arith, few, z))

  -- a well-formed word is the word of its cell
  pub word_back : word_of (ref_of w) ≡ w
  unfolding word_of
  word_back = go (eqb (kind_of w) 1) (eqb (kind_of w) 2) (eqb (kind_of w) 3) refl refl refl
    where
      go : (i s b : Bool) → eqb (kind_of w) 1 ≡ i → eqb (kind_of w) 2 ≡ s → eqb (kind_of w) 3 ≡ b → word_of (ref_of w) ≡ w
      go true s b e f g =
          let k : kind_of w ≡ 1 = eqb-true (kind_of w) 1 e in
          rw (ref_int w k, of_z-to_z {w = w32} {n = w % 2 ^ 32} (record { fits = omega arith })) (sym (int_word k))
      go false true b e f g = let k : kind_of w ≡ 2 = eqb-true (kind_of w) 2 f in rw (ref_str w k) (sym (str_word k))
      go false false true e f g = let k : kind_of w ≡ 3 = eqb-true (kind_of w) 3 g in rw (ref_binary w k) (sym (binary_word k))
      go false false false e f g =
          let i = eqb-false (kind_of w) 1 e in
          let s = eqb-false (kind_of w) 2 f in
          let b = eqb-false (kind_of w) 3 g in
          rw (ref_null w i s b) (sym (null_word (four_kinds i s b)))

-- a cell whose parts have the sizes that the code gives them
unfoldable pub Sized : ValueRef → Type 0
Sized Null = Unit {0}
Sized (Int number) = SFits w32 number
Sized (Str start length) = (start < 2 ^ 32) × (length < 65536)
Sized Binary = Unit {0}

-- such a cell is the cell of its word
pub ref_back : (r : ValueRef) → Sized r → ref_of (word_of r) ≡ r
unfolding word_of Sized
ref_back Null h = ref_null 0 (λ e. omega arith) (λ e. omega arith) (λ e. omega arith)
ref_back (Int number) h =
    let b : of_z w32 number < 2 ^ 32 = (Fits-of_z h).fits in
    let k : (1 * 2 ^ 56 + of_z w32 number) / 2 ^ 56 ≡ 1 = omega arith in
    let l : (1 * 2 ^ 56 + of_z w32 number) % 2 ^ 32 ≡ of_z w32 number = omega arith in
    ref_int (1 * 2 ^ 56 + of_z w32 number) k ∙ ap Int (ap (to_z w32) l ∙ to_z-of_z h)
ref_back (Str start length) h =
    let w : ℕ = 2 * 2 ^ 56 + (start * 65536 + length) in
    let k : (2 * 2 ^ 56 + (start * 65536 + length)) / 2 ^ 56 ≡ 2 = omega (arith, h.0, h.1) in
    let s : (2 * 2 ^ 56 + (start * 65536 + length)) / 65536 % 2 ^ 32 ≡ start = omega (arith, h.0, h.1) in
    let l : (2 * 2 ^ 56 + (start * 65536 + length)) % 65536 ≡ length = omega (arith, h.0, h.1) in
    ref_str (2 * 2 ^ 56 + (start * 65536 + length)) k ∙ ap₂ Str s l
ref_back Binary h = ref_binary (3 * 2 ^ 56) refl
