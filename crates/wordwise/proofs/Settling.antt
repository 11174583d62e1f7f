-- Laws of words that were worked out: by a truth, by an operator both of whose operands have a value. Assumes nothing.
use mathlib.Core.Path.{◌≡◌, refl, sym, ap, ap₂, ◌∙◌}
use mathlib.Core.Bool.{Bool, true, false, not}
use mathlib.Core.List.{List}
use Prim.Native.Nat.{ℕ, ◌+◌, ◌%◌, ◌^◌, ◌≤◌, ◌<◌}
use native.Mathlib.Omega.{arith}
use lib.IntN.{ℤ}
use lib.Signed.{mag, lt_z}
use lib.ListN.{length}
use lib.Dec.{eqb}
use borrow.Author.Tests.{lt-ltb, le-ltb, ne_eqb, eqb-true, eqb-false}
use mir.Syntax.{w32, w64}
use mir.Val.{SFits, to_z, of_z}
use mir.Facts.{of_z-to_z}
use Rattle.std.specs.Prelude.{Option, Some}
use Rattle.std.proofs.lemmas.Option.{same_Some}
use Rattle.slices.specs.Bytes.{is_equal, is_less, is_greater}
use Rattle.cells.specs.Cell.{WellFormed, kind_of}
use Rattle.cells.proofs.Stops.{never_stops}
use Rattle.values.specs.Value.{Value, int, value_of, to_bool, from_bool}
use Rattle.values.specs.Order.{by_ints, order}
use Rattle.values.proofs.ByWord.{value_int, left_no_text}
use Rattle.values.proofs.Ordered.{order_self, ints_one_way}
use Rattle.integers.specs.Outcome.{Outcome, value, gave, placed}
use Rattle.integers.specs.Integer.{int_of, fitted, on_bits, on_ints}
use Rattle.integers.proofs.Placing.{placed_bits}
use Rattle.integers.proofs.Ranges.{held, held_is, held_op, held_fits, mag_int, int_fits}
use Rattle.operators.specs.Operator.{holds, compared, binary_of}
use Rattle.operators.specs.declared.Rules.{Rules}
use Rattle.operators.proofs.ByKind.{binary_compared, binary_ints}
use Rattle.conditions.specs.Ast.{decides, two_sided}
use Rattle.wordwise.specs.Settled.{Settled, on_both, GivesBoth, Ints, IsTwoSided}

-- a word that is the cell of an outcome, wherever the text begins, settles it
pub settled : (w : ℕ) (o : Outcome) → ((top : ℕ) → gave w top ≡ placed top o) → Settled (Some w) o
settled w o f = record { told = λ word e top. rw (sym (same_Some w word e)) (f top) }

-- a word that settles an outcome settles an equal one
pub settled_as : (r : Option ℕ) (o p : Outcome) → p ≡ o → Settled r o → Settled r p
settled_as r o p e s = rw e s

-- a word that a truth is told as settles an outcome that is this truth
pub flagged : (r : ℕ) (x : Bool) (o : Outcome) → ((top : ℕ) → gave r top ≡ placed top (value (from_bool x))) → o ≡ value (from_bool x) → Settled (Some r) o
flagged r x o f e = settled r o (λ top. rw e (f top))

-- ---- Ints

-- an operation on the bits of two words
module _ (f : ℕ → ℕ → ℕ) (small : (k a b : ℕ) → a < 2 ^ k → b < 2 ^ k → f a b < 2 ^ k) (a b : ℕ) where
  pub bits_fit : f (a % 2 ^ 32) (b % 2 ^ 32) < 2 ^ 32
  bits_fit = small 32 (a % 2 ^ 32) (b % 2 ^ 32) (omega arith) (omega arith)

  bits_of : (w : ℕ) → of_z w32 (int_of w) ≡ w % 2 ^ 32
  bits_of w = of_z-to_z {w = w32} {n = w % 2 ^ 32} (record { fits = omega arith })

  pub on_bits_lem : Settled (Some (2 ^ 56 + f (a % 2 ^ 32) (b % 2 ^ 32))) (on_bits f (int_of a) (int_of b))
  on_bits_lem = settled _ _ (λ top. sym (ap (λ n. placed top (value (int (to_z w32 n)))) (ap₂ f (bits_of a) (bits_of b)) ∙ placed_bits top (f (a % 2 ^ 32) (b % 2 ^ 32)) bits_fit))

-- an operation on two numbers that were read off words, as the code holds them
module _ (f : ℤ → ℤ → ℤ) (fits : (x y : ℤ) → mag x < 2 ^ 31 → mag y < 2 ^ 31 → SFits w64 (f x y)) (a b : ℕ) (x y : ℤ) (e : x ≡ int_of a) (g : y ≡ int_of b) where
  fit : SFits w64 (f (int_of a) (int_of b))
  fit = fits (int_of a) (int_of b) (mag_int a) (mag_int b)

  pub asked : SFits w64 (f (held x) (held y))
  asked = rw (e, g) (held_fits f (int_of a) (int_of b) (int_fits a) (int_fits b) fit)

  pub came : (r : Option ℕ) → Settled r (fitted (held (f (held x) (held y)))) → Settled r (fitted (f (int_of a) (int_of b)))
  came r s = settled_as r (fitted (held (f (held x) (held y)))) (fitted (f (int_of a) (int_of b))) (ap fitted (sym (ap₂ (λ u v. held (f (held u) (held v))) e g ∙ held_op f (int_of a) (int_of b) (int_fits a) (int_fits b) fit))) s

-- held numbers that were read off words are less exactly if the Ints of the words are
pub less_held : (a b : ℕ) (x y : ℤ) → x ≡ int_of a → y ≡ int_of b → lt_z (held x) (held y) ≡ lt_z (int_of a) (int_of b)
less_held a b x y e g = ap₂ (λ u v. lt_z (held u) (held v)) e g ∙ ap₂ lt_z (held_is (int_of a) (int_fits a)) (held_is (int_of b) (int_fits b))

-- one number is below another exactly if their order is Less
pub less_is : (x y : ℤ) → lt_z x y ≡ is_less (by_ints x y)
less_is x y = go (lt_z x y) (lt_z y x) refl refl
  where
    go : (s t : Bool) → lt_z x y ≡ s → lt_z y x ≡ t → lt_z x y ≡ is_less (by_ints x y)
    go true t e f = rw e
    go false true e f = rw (e, f)
    go false false e f = rw (e, f)

-- one number is above another exactly if their order is Greater
pub greater_is : (x y : ℤ) → lt_z y x ≡ is_greater (by_ints x y)
greater_is x y = go (lt_z x y) (lt_z y x) refl refl
  where
    go : (s t : Bool) → lt_z x y ≡ s → lt_z y x ≡ t → lt_z y x ≡ is_greater (by_ints x y)
    go true t e f = rw (e, ints_one_way x y e)
    go false true e f = rw (e, f)
    go false false e f = rw (e, f)

-- ---- both operands have a value

module _ (R : Rules) (op : ℕ) (v w : Value) where
  no_decision : op < 48 → on_both R op v w ≡ two_sided R op v w
  unfolding on_both decides
  no_decision h = rw (ne_eqb op 48 (λ e. omega arith), ne_eqb op 49 (λ e. omega arith))

  no_truth : op < 47 → on_both R op v w ≡ binary_of R op v w
  unfolding two_sided
  no_truth h = no_decision (omega arith) ∙ rw (lt-ltb op 47 h)

  -- AND and OR whose left operand has not decided
  pub both_truth : (x : Bool) → decides op v ≡ false → 47 ≤ op → x ≡ to_bool w → on_both R op v w ≡ value (from_bool x)
  unfolding on_both two_sided
  both_truth x d h e = rw (d, le-ltb op 47 h, e)

  pub both_compared : op < 38 → on_both R op v w ≡ value (from_bool (holds op (order v w)))
  unfolding compared
  both_compared h = no_truth (omega arith) ∙ binary_compared R op v w h

-- an operator from 38 to 46 on two words of Ints works on these Ints
pub both_ints : (R : Rules) (op : ℕ) (t : List ℕ) (a b : ℕ) → 38 ≤ op → op < 47 → kind_of a ≡ 1 → kind_of b ≡ 1
    → on_both R op (value_of t a) (value_of t b) ≡ on_ints op (int_of a) (int_of b)
both_ints R op t a b h k e f = ap₂ (on_both R op) (value_int t a e) (value_int t b f) ∙ no_truth R op (int (int_of a)) (int (int_of b)) k ∙ binary_ints R op h (int_of a) (int_of b)

module _ (R : Rules) (v w : Value) where
  pub and_left : to_bool v ≡ false → on_both R 48 v w ≡ value (from_bool false)
  unfolding on_both decides
  and_left e = rw e

  pub and_right : (r : Bool) → to_bool v ≡ true → r ≡ to_bool w → on_both R 48 v w ≡ value (from_bool r)
  unfolding on_both decides two_sided
  and_right r e f = rw (e, f)

  pub or_left : to_bool v ≡ true → on_both R 49 v w ≡ value (from_bool true)
  unfolding on_both decides
  or_left e = rw e

  pub or_right : (r : Bool) → to_bool v ≡ false → r ≡ to_bool w → on_both R 49 v w ≡ value (from_bool r)
  unfolding on_both decides two_sided
  or_right r e f = rw (e, f)

-- a kind from 32 to 46 is that of a two-sided operator
pub two_sided_lem : (op n : ℕ) → op ≡ n → 32 ≤ n → n < 47 → IsTwoSided op
two_sided_lem op n e l u = record { above = omega arith; below = omega arith; known = λ x. omega arith }

-- ---- comparisons of two Ints

module _ (R : Rules) (t : List ℕ) (a b : ℕ) (I : Ints a b) where
  ints_order : order (value_of t a) (value_of t b) ≡ by_ints (int_of a) (int_of b)
  unfolding order
  ints_order = rw (value_int t a I.first, value_int t b I.second)

  compared_as : (op : ℕ) (r : Bool) → op < 38 → r ≡ holds op (by_ints (int_of a) (int_of b)) → on_both R op (value_of t a) (value_of t b) ≡ value (from_bool r)
  compared_as op r h e = both_compared R op (value_of t a) (value_of t b) h ∙ ap (λ o. value (from_bool (holds op o))) ints_order ∙ ap (λ x. value (from_bool x)) (sym e)

  module _ (x y : ℤ) (e : x ≡ int_of a) (g : y ≡ int_of b) where
    pub ints_less : on_both R 34 (value_of t a) (value_of t b) ≡ value (from_bool (lt_z (held x) (held y)))
    unfolding holds
    ints_less = compared_as 34 _ (omega arith) (less_held a b x y e g ∙ less_is (int_of a) (int_of b))

    pub ints_most : on_both R 35 (value_of t a) (value_of t b) ≡ value (from_bool (not (lt_z (held y) (held x))))
    unfolding holds
    ints_most = compared_as 35 _ (omega arith) (ap not (less_held b a y x g e ∙ greater_is (int_of a) (int_of b)))

    pub ints_greater : on_both R 36 (value_of t a) (value_of t b) ≡ value (from_bool (lt_z (held y) (held x)))
    unfolding holds
    ints_greater = compared_as 36 _ (omega arith) (less_held b a y x g e ∙ greater_is (int_of a) (int_of b))

    pub ints_least : on_both R 37 (value_of t a) (value_of t b) ≡ value (from_bool (not (lt_z (held x) (held y))))
    unfolding holds
    ints_least = compared_as 37 _ (omega arith) (ap not (less_held a b x y e g ∙ less_is (int_of a) (int_of b)))

  module _ (h : WellFormed (length t) a) (k : WellFormed (length t) b) where
    same_word : eqb a b ≡ is_equal (order (value_of t a) (value_of t b))
    same_word = go (eqb a b) refl
      where
        go : (x : Bool) → eqb a b ≡ x → x ≡ is_equal (order (value_of t a) (value_of t b))
        go true e = rw (eqb-true a b e) (sym (ap is_equal (order_self (value_of t b))))
        go false e = left_no_text t a b (never_stops (length t) a 0 h).0 (never_stops (length t) b 0 k).0 (eqb-false a b e) (λ z. let f = I.first in omega arith)

    pub ints_equal : on_both R 32 (value_of t a) (value_of t b) ≡ value (from_bool (eqb a b))
    unfolding holds
    ints_equal = both_compared R 32 (value_of t a) (value_of t b) (omega arith) ∙ ap (λ x. value (from_bool x)) (sym same_word)

    pub ints_unequal : on_both R 33 (value_of t a) (value_of t b) ≡ value (from_bool (not (eqb a b)))
    unfolding holds
    ints_unequal = both_compared R 33 (value_of t a) (value_of t b) (omega arith) ∙ ap (λ x. value (from_bool (not x))) (sym same_word)

-- ---- words that were worked out from two words

-- a word worked out for one kind is worked out for an equal one
pub given_as : (op n a b : ℕ) (r : Option ℕ) → op ≡ n → GivesBoth n a b r → GivesBoth op a b r
given_as op n a b r e g = rw e g

-- a word that a truth is told as, where the operator gives this truth in every text
pub flag_given : (n a b r : ℕ) (x : Bool) → ((top : ℕ) → gave r top ≡ placed top (value (from_bool x)))
    → ((R : Rules) (t : List ℕ) → WellFormed (length t) a → WellFormed (length t) b → on_both R n (value_of t a) (value_of t b) ≡ value (from_bool x)) → GivesBoth n a b (Some r)
flag_given n a b r x f e = record { settled = λ R t h k. flagged r x _ f (e R t h k) }

-- a word that settles an operator from 38 to 46 on the Ints of both words
pub ints_given : (n a b : ℕ) (r : Option ℕ) → 38 ≤ n → n < 47 → Ints a b → Settled r (on_ints n (int_of a) (int_of b)) → GivesBoth n a b r
ints_given n a b r l u I s = record { settled = λ R t h k. settled_as r _ _ (both_ints R n t a b l u I.first I.second) s }
