-- Values by their words: two different words of cells mean different values, unless both are texts. Assumes nothing.
use mathlib.Core.Path.{◌≡◌, refl, sym, ap, ◌∙◌}
use mathlib.Core.List.{List}
use mathlib.Core.Bool.{Bool, true, false}
use Prim.Native.Nat.{ℕ, ◌%◌, ◌^◌}
use native.Mathlib.Omega.{arith}
use lib.Dec.{eqb}
use borrow.Author.Tests.{eqb-true, eqb-false}
use mir.Syntax.{w32}
use mir.Val.{to_z}
use Rattle.slices.specs.Splice.{piece}
use Rattle.slices.specs.Bytes.{is_equal, same_bytes}
use Rattle.slices.proofs.Bytes.{same_order}
use Rattle.std.specs.declared.cmp.Ordering.{Ordering}
use Rattle.std.specs.declared.cmp.Ordering.TheVariants.{Less, Equal, Greater}
use Rattle.cells.specs.Cell.{kind_of, start_of, length_of, is_cell, ref_of, word_of}
use Rattle.cells.specs.declared.ValueRef.{ValueRef}
use Rattle.cells.specs.declared.ValueRef.TheVariants.{Null, Int, Str, Binary}
use Rattle.cells.proofs.Words.{ref_int, ref_str, ref_binary, ref_null, word_back}
use Rattle.values.specs.Value.{null, int, str, to_value, value_of}
use Rattle.values.specs.Order.{by_ints, order}
use Rattle.values.proofs.Ordered.{order_equal}

-- ---- by kind

-- a word of kind 1 means the Int of its low 32 bits
pub value_int : (t : List ℕ) (w : ℕ) → kind_of w ≡ 1 → value_of t w ≡ int (to_z w32 (w % 2 ^ 32))
unfolding to_value
value_int t w e = rw (ref_int w e)

-- a word of kind 2 means the part of the text that it points at
pub value_str : (t : List ℕ) (w : ℕ) → kind_of w ≡ 2 → value_of t w ≡ str (piece (start_of w) (length_of w) t)
unfolding to_value
value_str t w e = rw (ref_str w e)

-- the word 0
pub value_null : (t : List ℕ) → value_of t 0 ≡ null
unfolding to_value
value_null t = rw (ref_null 0 (λ e. omega arith) (λ e. omega arith) (λ e. omega arith))

-- two Ints
pub ints_order : (t : List ℕ) (a b : ℕ) (o : Ordering) → kind_of a ≡ 1 → kind_of b ≡ 1
    → o ≡ by_ints (to_z w32 (a % 2 ^ 32)) (to_z w32 (b % 2 ^ 32)) → o ≡ order (value_of t a) (value_of t b)
unfolding order
ints_order t a b o e f g = rw (value_int t a e, value_int t b f) g

-- two texts are equal values exactly if their bytes are the same
pub strs_equal : (t : List ℕ) (a b : ℕ) (r : Bool) → kind_of a ≡ 2 → kind_of b ≡ 2
    → r ≡ same_bytes (piece (start_of a) (length_of a) t) (piece (start_of b) (length_of b) t) → r ≡ is_equal (order (value_of t a) (value_of t b))
unfolding order
strs_equal t a b r e f g = rw (value_str t a e, value_str t b f) (g ∙ same_order (piece (start_of a) (length_of a) t) (piece (start_of b) (length_of b) t))

-- ---- different words

-- a text
abbrev pub is_str : ValueRef → Bool
is_str Null = false
is_str (Int z) = false
is_str (Str s n) = true
is_str Binary = false

-- a word of another kind is no text's
pub not_str : (w : ℕ) → (kind_of w ≡ 2 → ⊥) → is_str (ref_of w) ≡ false
not_str w n = go (eqb (kind_of w) 1) (eqb (kind_of w) 3) refl refl
  where
    go : (i b : Bool) → eqb (kind_of w) 1 ≡ i → eqb (kind_of w) 3 ≡ b → is_str (ref_of w) ≡ false
    go true b e f = rw (ref_int w (eqb-true (kind_of w) 1 e))
    go false true e f = rw (ref_binary w (eqb-true (kind_of w) 3 f))
    go false false e f = rw (ref_null w (eqb-false (kind_of w) 1 e) n (eqb-false (kind_of w) 3 f))

-- two cells that mean the same, each in its text: where it is no text, they are one cell
pub one_ref : (x y : List ℕ) (r s : ValueRef) → is_str r ≡ false → to_value x r ≡ to_value y s → r ≡ s
unfolding to_value
one_ref x y Null Null h e = refl
one_ref x y Null (Int k) h e = absurd (let z : ◌≡◌ {A = ℕ} 0 1 = cc in omega arith)
one_ref x y Null (Str p m) h e = absurd (let z : ◌≡◌ {A = ℕ} 0 1 = cc in omega arith)
one_ref x y Null Binary h e = absurd (let z : ◌≡◌ {A = ℕ} 0 1 = cc in omega arith)
one_ref x y (Int m) Null h e = absurd (let z : ◌≡◌ {A = ℕ} 0 1 = cc in omega arith)
one_ref x y (Int m) (Int k) h e = cc
one_ref x y (Int m) (Str p n) h e = absurd (let z : ◌≡◌ {A = ℕ} 0 1 = cc in omega arith)
one_ref x y (Int m) Binary h e = absurd (let z : ◌≡◌ {A = ℕ} 0 1 = cc in omega arith)
one_ref x y (Str s n) r h e = absurd (let z : ◌≡◌ {A = ℕ} 0 1 = cc in omega arith)
one_ref x y Binary Null h e = absurd (let z : ◌≡◌ {A = ℕ} 0 1 = cc in omega arith)
one_ref x y Binary (Int k) h e = absurd (let z : ◌≡◌ {A = ℕ} 0 1 = cc in omega arith)
one_ref x y Binary (Str p m) h e = absurd (let z : ◌≡◌ {A = ℕ} 0 1 = cc in omega arith)
one_ref x y Binary Binary h e = refl

-- and one word
pub one_word : (x y : List ℕ) (a b : ℕ) → is_cell a ≡ true → is_cell b ≡ true → is_str (ref_of a) ≡ false → value_of x a ≡ value_of y b → a ≡ b
one_word x y a b h k n e = sym (word_back a h) ∙ ap word_of (one_ref x y (ref_of a) (ref_of b) n e) ∙ word_back b k

module _ (t : List ℕ) (a b : ℕ) (h : is_cell a ≡ true) (k : is_cell b ≡ true) (d : a ≡ b → ⊥) where
  unequal : (value_of t a ≡ value_of t b → ⊥) → false ≡ is_equal (order (value_of t a) (value_of t b))
  unequal n = go (order (value_of t a) (value_of t b)) refl
    where
      go : (o : Ordering) → order (value_of t a) (value_of t b) ≡ o → false ≡ is_equal o
      go Less e = refl
      go Equal e = absurd (n (order_equal (value_of t a) (value_of t b) e))
      go Greater e = refl

  pub left_no_text : (kind_of a ≡ 2 → ⊥) → false ≡ is_equal (order (value_of t a) (value_of t b))
  left_no_text n = unequal (λ e. d (one_word t t a b h k (not_str a n) e))

  pub right_no_text : (kind_of b ≡ 2 → ⊥) → false ≡ is_equal (order (value_of t a) (value_of t b))
  right_no_text n = unequal (λ e. d (sym (one_word t t b a k h (not_str b n) (sym e))))
