-- The operators by the kinds of their operands, and what leaves the text as it was. Assumes nothing.
use mathlib.Core.Path.{◌≡◌, refl, sym, ◌∙◌}
use mathlib.Core.Bool.{Bool, true, false, cond}
use mathlib.Core.List.{List}
use Prim.Native.Nat.{ℕ, ◌≤◌, ◌<◌}
use native.Mathlib.Omega.{arith}
use lib.Dec.{eqb}
use lib.IntN.{ℤ, pos}
use borrow.Author.Tests.{lt-ltb, le-ltb, ne_eqb, eqb-true, eqb-false}
use Rattle.refusals.proofs.Bools.{true_false}
use Rattle.slices.specs.Bytes.{both}
use Rattle.cells.specs.Cell.{kind_of}
use Rattle.cells.proofs.Words.{ref_int, ref_str, ref_binary, ref_null}
use Rattle.values.specs.Value.{Value, null, int, str, binary, to_value, value_of, from_bool}
use Rattle.integers.specs.Outcome.{Outcome, value, gave, placed, reply_of}
use Rattle.integers.specs.Integer.{fitted, is_int32, is_zero, is_amount, on_ints, negated, inverted}
use Rattle.integers.proofs.Placing.{placed_null}
use Rattle.operators.specs.Operator.{compared, joined, on_kinds, is_int_zero, binary_of, on_int, unary_of, text_after, Applied}
use Rattle.operators.specs.declared.Rules.{Rules}
use Rattle.std.specs.Prelude.{Result, Ok}
use Rattle.integers.specs.declared.Fault.{Fault}

-- ---- one of four operators

-- what holds of <, <=, > and >= holds of every kind from 34 to 37
pub by_four : (P : ℕ → Type 0) → P 34 → P 35 → P 36 → P 37 → (op : ℕ) → 34 ≤ op → op < 38 → P op
by_four P a b c d op h k = go (eqb op 34) (eqb op 35) (eqb op 36) refl refl refl
  where
    go : (s t u : Bool) → eqb op 34 ≡ s → eqb op 35 ≡ t → eqb op 36 ≡ u → P op
    go true t u e f g = rw (eqb-true op 34 e) a
    go false true u e f g = rw (eqb-true op 35 f) b
    go false false true e f g = rw (eqb-true op 36 g) c
    go false false false e f g =
        let x = eqb-false op 34 e in
        let y = eqb-false op 35 f in
        let z = eqb-false op 36 g in
        let q : op ≡ 37 = omega arith in
        rw q d

-- ---- kinds of values

abbrev is_int : Value → Bool
is_int null = false
is_int (int x) = true
is_int (str a) = false
is_int binary = false

abbrev is_str : Value → Bool
is_str null = false
is_str (int x) = false
is_str (str a) = true
is_str binary = false

-- what is known of a cell's value by its kind
module _ (t : List ℕ) (w : ℕ) (P : Value → Type 0) where
  pub by_kind : ((x : ℤ) → kind_of w ≡ 1 → P (int x)) → ((a : List ℕ) → kind_of w ≡ 2 → P (str a)) → P binary → P null → P (value_of t w)
  unfolding to_value
  by_kind i s b n = go (eqb (kind_of w) 1) (eqb (kind_of w) 2) (eqb (kind_of w) 3) refl refl refl
    where
      go : (x y z : Bool) → eqb (kind_of w) 1 ≡ x → eqb (kind_of w) 2 ≡ y → eqb (kind_of w) 3 ≡ z → P (value_of t w)
      go true y z e f g = let k = eqb-true (kind_of w) 1 e in rw (ref_int w k) (i _ k)
      go false true z e f g = let k = eqb-true (kind_of w) 2 f in rw (ref_str w k) (s _ k)
      go false false true e f g = rw (ref_binary w (eqb-true (kind_of w) 3 g)) b
      go false false false e f g = rw (ref_null w (eqb-false (kind_of w) 1 e) (eqb-false (kind_of w) 2 f) (eqb-false (kind_of w) 3 g)) n

-- a word of another kind than Int means no Int
pub not_int : (t : List ℕ) (w : ℕ) → (kind_of w ≡ 1 → ⊥) → is_int (value_of t w) ≡ false
not_int t w n = by_kind t w (λ v. is_int v ≡ false) (λ x k. absurd (n k)) (λ a k. refl) refl refl

-- a word of another kind than text means no text
pub not_str : (t : List ℕ) (w : ℕ) → (kind_of w ≡ 2 → ⊥) → is_str (value_of t w) ≡ false
not_str t w n = by_kind t w (λ v. is_str v ≡ false) (λ x k. refl) (λ a k. absurd (n k)) refl refl

-- ---- two-sided operators

either_null : (b : Bool) (o : Outcome) → o ≡ value null → cond b (value null) o ≡ value null
either_null true o e = refl
either_null false o e = e

module _ (R : Rules) (op : ℕ) where
  pub binary_compared : (v w : Value) → op < 38 → binary_of R op v w ≡ compared R op v w
  unfolding binary_of
  binary_compared v w h = rw (lt-ltb op 38 h)

  module _ (h : 38 ≤ op) where
    computes : (v w : Value) → binary_of R op v w ≡ cond (both (eqb op 41) (is_int_zero w)) (value null) (on_kinds R op v w)
    unfolding binary_of
    computes v w = rw (le-ltb op 38 h)

    -- where the kinds give Null anyway
    nulls : (v w : Value) → on_kinds R op v w ≡ value null → binary_of R op v w ≡ value null
    nulls v w e = computes v w ∙ either_null (both (eqb op 41) (is_int_zero w)) (on_kinds R op v w) e

    by_zero : (x y : ℤ) → op ≡ 41 → is_zero y ≡ true → on_ints op x y ≡ value null
    unfolding on_ints
    by_zero x y e z = rw (e, z)

    pub binary_ints : (x y : ℤ) → binary_of R op (int x) (int y) ≡ on_ints op x y
    unfolding on_kinds
    binary_ints x y = computes (int x) (int y) ∙ go (eqb op 41) (is_zero y) refl refl
      where
        go : (s t : Bool) → eqb op 41 ≡ s → is_zero y ≡ t → cond (both s t) (value null) (on_ints op x y) ≡ on_ints op x y
        go true true e f = sym (by_zero x y (eqb-true op 41 e) f)
        go true false e f = refl
        go false t e f = refl

    pub binary_join : (a b : List ℕ) → op ≡ 38 → binary_of R op (str a) (str b) ≡ joined R.limit a b
    unfolding on_kinds
    binary_join a b e = computes (str a) (str b) ∙ (rw e)

    pub binary_texts : (a b : List ℕ) → (op ≡ 38 → ⊥) → binary_of R op (str a) (str b) ≡ value null
    unfolding on_kinds
    binary_texts a b n = nulls (str a) (str b) (rw (ne_eqb op 38 n))

    pub binary_int_other : (x : ℤ) (w : Value) → is_int w ≡ false → binary_of R op (int x) w ≡ value null
    unfolding on_kinds
    binary_int_other x null e = nulls (int x) null refl
    binary_int_other x (int y) e = true_false e
    binary_int_other x (str b) e = nulls (int x) (str b) refl
    binary_int_other x binary e = nulls (int x) binary refl

    pub binary_text_other : (a : List ℕ) (w : Value) → is_str w ≡ false → binary_of R op (str a) w ≡ value null
    unfolding on_kinds
    binary_text_other a null e = nulls (str a) null refl
    binary_text_other a (int y) e = nulls (str a) (int y) refl
    binary_text_other a (str b) e = true_false e
    binary_text_other a binary e = nulls (str a) binary refl

    pub binary_other : (v w : Value) → is_int v ≡ false → is_str v ≡ false → binary_of R op v w ≡ value null
    unfolding on_kinds
    binary_other null w e f = nulls null w refl
    binary_other (int x) w e f = true_false e
    binary_other (str a) w e f = true_false f
    binary_other binary w e f = nulls binary w refl

-- ---- unary operators

-- negation and inversion give null of what is no Int
pub unary_other : (R : Rules) (op : ℕ) (v : Value) → 16 ≤ op → op < 18 → is_int v ≡ false → unary_of R op v ≡ value null
unfolding unary_of
unary_other R op v h k e = go (eqb op 16) refl
  where
    nothing : (f : ℤ → Outcome) (v : Value) → is_int v ≡ false → on_int f v ≡ value null
    nothing f null e = refl
    nothing f (int x) e = true_false e
    nothing f (str a) e = refl
    nothing f binary e = refl

    go : (t : Bool) → eqb op 16 ≡ t → unary_of R op v ≡ value null
    go true f = rw f (nothing negated v e)
    go false f = let n = eqb-false op 16 f in let g : op ≡ 17 = omega arith in rw g (nothing inverted v e)

-- ---- what leaves the text as it was

-- an outcome that leaves the text as it was
pub record Plain (t : List ℕ) (top : ℕ) (o : Outcome) : Type 0 where
  pub same : text_after t top o ≡ t

module _ {t : List ℕ} {top : ℕ} where
  plain_cond : (b : Bool) {o p : Outcome} → Plain t top o → Plain t top p → Plain t top (cond b o p)
  plain_cond true h k = h
  plain_cond false h k = k

module _ (t : List ℕ) (top : ℕ) where
  plain_int : (z : ℤ) → Plain t top (value (int z))
  plain_int z = record { same = refl }

  plain_null : Plain t top (value null)
  plain_null = record { same = refl }

  plain_refused : (n : ℕ) → Plain t top (Outcome.refused n)
  plain_refused n = record { same = refl }

  plain_fitted : (z : ℤ) → Plain t top (fitted z)
  unfolding fitted
  plain_fitted z = plain_cond (is_int32 z) (plain_int z) (plain_refused 5)

  pub plain_ints : (op : ℕ) (x y : ℤ) → Plain t top (on_ints op x y)
  unfolding on_ints
  plain_ints op x y =
      plain_cond (eqb op 38) (plain_fitted _)
      (plain_cond (eqb op 39) (plain_fitted _)
      (plain_cond (eqb op 40) (plain_fitted _)
      (plain_cond (eqb op 41) (plain_cond (is_zero y) plain_null (plain_fitted _))
      (plain_cond (eqb op 42) (plain_int _)
      (plain_cond (eqb op 43) (plain_int _)
      (plain_cond (eqb op 44) (plain_int _)
      (plain_cond (eqb op 45) (plain_cond (is_amount y) (plain_int _) (plain_refused 6))
      (plain_cond (eqb op 46) (plain_cond (is_amount y) (plain_int _) (plain_refused 6)) plain_null))))))))

  pub plain_flag : (b : Bool) → Plain t top (value (from_bool b))
  unfolding from_bool
  plain_flag true = plain_int (pos 1)
  plain_flag false = plain_int (pos 0)

  plain_on_int : (f : ℤ → Outcome) → ((z : ℤ) → Plain t top (f z)) → (v : Value) → Plain t top (on_int f v)
  plain_on_int f g null = plain_null
  plain_on_int f g (int x) = g x
  plain_on_int f g (str a) = plain_null
  plain_on_int f g binary = plain_null

  pub plain_unary : (R : Rules) (op : ℕ) (v : Value) → Plain t top (unary_of R op v)
  unfolding unary_of
  plain_unary R op v =
      plain_cond (eqb op 16) (plain_on_int negated (λ z. plain_fitted _) v) (plain_cond (eqb op 17) (plain_on_int inverted (λ z. plain_int _) v) (plain_flag _))

  -- ---- whole results

  pub applied_null : (o : Outcome) → o ≡ value null → Applied t t top (Ok (0, top)) o
  applied_null o e = record { reply = rw e (sym (placed_null top)); text = rw e }

  pub applied_ints : (op : ℕ) (x y : ℤ) (r : Result (ℕ × ℕ) Fault) (o : Outcome) → o ≡ on_ints op x y → reply_of r ≡ placed top (on_ints op x y) → Applied t t top r o
  applied_ints op x y r o e f = record { reply = rw e f; text = rw e (sym (plain_ints op x y).same) }

  pub applied_flag : (b : Bool) (word : ℕ) (o : Outcome) → o ≡ value (from_bool b) → gave word top ≡ placed top (value (from_bool b)) → Applied t t top (Ok (word, top)) o
  applied_flag b word o e f = record { reply = rw e f; text = rw e (sym (plain_flag b).same) }
