-- What an operator gives, a cell can hold: an Int has 32 bits, a text is no longer than the limit. Assumes nothing.
use mathlib.Core.Path.{◌≡◌, refl}
use mathlib.Core.Bool.{Bool, true, false, cond}
use mathlib.Core.List.{List, ◌++◌}
use Prim.Native.Nat.{ℕ, ◌+◌, ◌*◌, ◌%◌, ◌^◌, ◌-◌, ◌≤◌, ◌<◌}
use native.Mathlib.Omega.{arith}
use lib.ListN.{length, length-append}
use lib.Dec.{ltb, leb, eqb}
use lib.Bits.{and_lt, or_lt, xor_lt}
use lib.IntN.{ℤ, pos, negsuc, nat_abs}
use lib.Signed.{mag, mag_shr}
use borrow.Author.Tests.{leb-true, eqb-true, eqb-false}
use borrow.Author.Rules.{sfits_of}
use mir.Syntax.{w32}
use mir.Val.{SFits, to_z, of_z}
use mir.Facts.{sfits_to_z, Fits-of_z}
use Rattle.slices.specs.Bytes.{both}
use Rattle.cells.specs.Cell.{kind_of}
use Rattle.cells.proofs.Words.{ref_int, ref_str, ref_binary, ref_null}
use Rattle.values.specs.Value.{Value, null, int, str, binary, to_value, value_of, from_bool}
use Rattle.integers.specs.Outcome.{Outcome, value}
use Rattle.integers.specs.Integer.{is_int32, fitted, is_zero, is_amount, on_ints}
use Rattle.operators.specs.Operator.{compared, joined, on_kinds, is_int_zero, binary_of, on_int, unary_of}
use Rattle.operators.specs.declared.Rules.{Rules}

-- a value whose Int, if it is one, has 32 bits
unfoldable pub Int32 : Value → Type 0
Int32 null = Unit {0}
Int32 (int z) = SFits w32 z
Int32 (str b) = Unit {0}
Int32 binary = Unit {0}

-- and whose text is no longer than the limit
abbrev pub Fitting : ℕ → Value → Type 0
Fitting limit null = Unit {0}
Fitting limit (int z) = SFits w32 z
Fitting limit (str b) = length b ≤ limit
Fitting limit binary = Unit {0}

abbrev Held : ℕ → Outcome → Type 0
Held limit (value v) = Fitting limit v
Held limit (Outcome.refused n) = Unit {0}

-- an outcome that a cell can hold: a value that fits, or a refusal
pub record Holds (limit : ℕ) (o : Outcome) : Type 0 where
  pub held : Held limit o

module _ {limit : ℕ} where
  holds_cond : (b : Bool) {o p : Outcome} → Holds limit o → Holds limit p → Holds limit (cond b o p)
  holds_cond true h k = h
  holds_cond false h k = k

module _ (limit : ℕ) where
  holds_int : (z : ℤ) → mag z < 2 ^ 31 → Holds limit (value (int z))
  holds_int z h = record { held = sfits_of h }

  holds_null : Holds limit (value null)
  holds_null = record { held = tt }

  holds_refused : (n : ℕ) → Holds limit (Outcome.refused n)
  holds_refused n = record { held = tt }

  holds_bits : (b : ℕ) → b < 2 ^ 32 → Holds limit (value (int (to_z w32 b)))
  holds_bits b h = record { held = sfits_to_z {w = w32} {n = b} (record { fits = h }) }

  in_32 : (z : ℤ) → is_int32 z ≡ true → mag z < 2 ^ 31
  in_32 (pos n) e = omega (arith, leb-true n 2147483647 e)
  in_32 (negsuc n) e = go (leb n 2147483647) refl e
    where
      go : (t : Bool) → leb n 2147483647 ≡ t → both t true ≡ true → n < 2 ^ 31
      go true f e = omega (arith, leb-true n 2147483647 f)
      go false f e = absurd (let z : ◌≡◌ {A = ℕ} 0 1 = cc in omega arith)

  holds_fitted : (z : ℤ) → Holds limit (fitted z)
  unfolding fitted
  holds_fitted z = go (is_int32 z) refl
    where
      go : (t : Bool) → is_int32 z ≡ t → Holds limit (cond t (value (int z)) (Outcome.refused 5))
      go true e = holds_int z (in_32 z e)
      go false e = holds_refused 5

  holds_flag : (b : Bool) → Holds limit (value (from_bool b))
  unfolding from_bool
  holds_flag true = holds_int (pos 1) (omega arith)
  holds_flag false = holds_int (pos 0) (omega arith)

  module _ (op : ℕ) (x y : ℤ) (h : SFits w32 x) (k : SFits w32 y) where
    holds_ints : Holds limit (on_ints op x y)
    unfolding on_ints
    holds_ints =
        holds_cond (eqb op 38) (holds_fitted _)
        (holds_cond (eqb op 39) (holds_fitted _)
        (holds_cond (eqb op 40) (holds_fitted _)
        (holds_cond (eqb op 41) (holds_cond (is_zero y) holds_null (holds_fitted _))
        (holds_cond (eqb op 42) (holds_bits _ (and_lt 32 (of_z w32 x) (of_z w32 y) (Fits-of_z h).fits (Fits-of_z k).fits))
        (holds_cond (eqb op 43) (holds_bits _ (or_lt 32 (of_z w32 x) (of_z w32 y) (Fits-of_z h).fits (Fits-of_z k).fits))
        (holds_cond (eqb op 44) (holds_bits _ (xor_lt 32 (of_z w32 x) (of_z w32 y) (Fits-of_z h).fits (Fits-of_z k).fits))
        (holds_cond (eqb op 45) (holds_cond (is_amount y) (holds_bits (of_z w32 x * 2 ^ nat_abs y % 2 ^ 32) (omega arith)) (holds_refused 6))
        (holds_cond (eqb op 46) (holds_cond (is_amount y) (holds_int _ (omega (arith, mag_shr x (2 ^ nat_abs y), h.sfits))) (holds_refused 6)) holds_null))))))))

  holds_joined : (a b : List ℕ) → Holds limit (joined limit a b)
  unfolding joined
  holds_joined a b = go (leb (length a + length b) limit) refl
    where
      go : (t : Bool) → leb (length a + length b) limit ≡ t → Holds limit (cond t (value (str (a ++ b))) (Outcome.refused 7))
      go true e = record { held = rw length-append (leb-true (length a + length b) limit e) }
      go false e = holds_refused 7

module _ (R : Rules) (op : ℕ) where
  holds_kinds : (v w : Value) → Int32 v → Int32 w → Holds R.limit (on_kinds R op v w)
  unfolding on_kinds Int32
  holds_kinds null w h k = holds_null _
  holds_kinds (int x) null h k = holds_null _
  holds_kinds (int x) (int y) h k = holds_ints _ op x y h k
  holds_kinds (int x) (str b) h k = holds_null _
  holds_kinds (int x) binary h k = holds_null _
  holds_kinds (str a) null h k = holds_null _
  holds_kinds (str a) (int y) h k = holds_null _
  holds_kinds (str a) (str b) h k = holds_cond (eqb op 38) (holds_joined _ a b) (holds_null _)
  holds_kinds (str a) binary h k = holds_null _
  holds_kinds binary w h k = holds_null _

  pub holds_binary : (v w : Value) → Int32 v → Int32 w → Holds R.limit (binary_of R op v w)
  unfolding binary_of compared
  holds_binary v w h k =
      holds_cond (ltb op 38) (holds_flag _ _) (holds_cond (both (eqb op 41) (is_int_zero w)) (holds_null _) (holds_kinds v w h k))

module _ (limit : ℕ) where
  holds_on_int : (f : ℤ → Outcome) → ((z : ℤ) → Holds limit (f z)) → (v : Value) → Holds limit (on_int f v)
  holds_on_int f g null = holds_null _
  holds_on_int f g (int x) = g x
  holds_on_int f g (str a) = holds_null _
  holds_on_int f g binary = holds_null _

  -- no unary operator gives a text, so any limit serves
  pub holds_unary : (R : Rules) (op : ℕ) (v : Value) → Holds limit (unary_of R op v)
  unfolding unary_of
  holds_unary R op v =
      holds_cond (eqb op 16) (holds_on_int _ (λ z. holds_fitted _ _) v)
      (holds_cond (eqb op 17) (holds_on_int _ (λ z. holds_bits _ (2 ^ 32 - 1 - of_z w32 z) (omega arith)) v) (holds_flag _ _))

-- a cell can hold a truth, whatever the limit is
pub holds_truth : (limit : ℕ) (b : Bool) → Holds limit (value (from_bool b))
holds_truth limit b = holds_flag limit b

-- the Int of a cell's word has 32 bits
pub value_int32 : (t : List ℕ) (w : ℕ) → Int32 (value_of t w)
unfolding to_value Int32
value_int32 t w = go (eqb (kind_of w) 1) (eqb (kind_of w) 2) (eqb (kind_of w) 3) refl refl refl
  where
    go : (x y z : Bool) → eqb (kind_of w) 1 ≡ x → eqb (kind_of w) 2 ≡ y → eqb (kind_of w) 3 ≡ z → Int32 (value_of t w)
    go true y z e f g = rw (ref_int w (eqb-true (kind_of w) 1 e)) (sfits_to_z {w = w32} {n = w % 2 ^ 32} (record { fits = omega arith }))
    go false true z e f g = rw (ref_str w (eqb-true (kind_of w) 2 f)) tt
    go false false true e f g = rw (ref_binary w (eqb-true (kind_of w) 3 g)) tt
    go false false false e f g = rw (ref_null w (eqb-false (kind_of w) 1 e) (eqb-false (kind_of w) 2 f) (eqb-false (kind_of w) 3 g)) tt
