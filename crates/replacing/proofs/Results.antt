-- What an operator gives, whatever its operands: never Binary, and no refusal but 5, 6 and 7. Assumes nothing.
use mathlib.Core.Bool.{Bool, true, false, cond}
use mathlib.Core.List.{List}
use Prim.Native.Nat.{ℕ, ◌+◌, ◌≤◌}
use native.Mathlib.Omega.{arith}
use lib.ListN.{length}
use lib.Dec.{ltb, leb, eqb}
use lib.IntN.{ℤ, pos}
use Rattle.slices.specs.Bytes.{both}
use Rattle.values.specs.Value.{Value, null, int, str, binary, from_bool}
use Rattle.integers.specs.Outcome.{Outcome, value}
use Rattle.integers.specs.Integer.{is_int32, fitted, is_zero, is_amount, on_ints, negated, inverted}
use Rattle.operators.specs.Operator.{compared, joined, on_kinds, is_int_zero, binary_of, on_int, unary_of}
use Rattle.operators.specs.declared.Rules.{Rules}

-- what an operator may come to
abbrev Usual : Outcome → Type 0
Usual (value null) = Unit {0}
Usual (value (int z)) = Unit {0}
Usual (value (str b)) = Unit {0}
Usual (value binary) = ⊥
Usual (Outcome.refused n) = (5 ≤ n) × (n ≤ 7)

-- the same as a record, whose outcome a law finds by itself
pub record Reached (o : Outcome) : Type 0 where
  pub usual : Usual o

-- one of two
result_cond : (b : Bool) {o p : Outcome} → Reached o → Reached p → Reached (cond b o p)
result_cond true h k = h
result_cond false h k = k

-- an Int
result_int : (z : ℤ) → Reached (value (int z))
result_int z = record { usual = tt }

-- Null
result_null : Reached (value null)
result_null = record { usual = tt }

-- a refusal
result_refused : (n : ℕ) → 5 ≤ n → n ≤ 7 → Reached (Outcome.refused n)
result_refused n h k = record { usual = (h, k) }

-- an Int, or 5
result_fitted : (z : ℤ) → Reached (fitted z)
unfolding fitted
result_fitted z = result_cond (is_int32 z) (result_int z) (result_refused 5 (omega arith) (omega arith))

-- a shifted Int, or 6
result_shift : (y z : ℤ) → Reached (cond (is_amount y) (value (int z)) (Outcome.refused 6))
result_shift y z = result_cond (is_amount y) (result_int z) (result_refused 6 (omega arith) (omega arith))

-- 1 or 0
result_flag : (b : Bool) → Reached (value (from_bool b))
unfolding from_bool
result_flag true = result_int (pos 1)
result_flag false = result_int (pos 0)

-- an operator on two Ints
result_ints : (op : ℕ) (x y : ℤ) → Reached (on_ints op x y)
unfolding on_ints
result_ints op x y =
    result_cond (eqb op 38) (result_fitted _)
    (result_cond (eqb op 39) (result_fitted _)
    (result_cond (eqb op 40) (result_fitted _)
    (result_cond (eqb op 41) (result_cond (is_zero y) result_null (result_fitted _))
    (result_cond (eqb op 42) (result_int _)
    (result_cond (eqb op 43) (result_int _)
    (result_cond (eqb op 44) (result_int _)
    (result_cond (eqb op 45) (result_shift y _) (result_cond (eqb op 46) (result_shift y _) result_null))))))))

-- a joined text, or 7
result_joined : (limit : ℕ) (a b : List ℕ) → Reached (joined limit a b)
unfolding joined
result_joined limit a b = result_cond (leb (length a + length b) limit) (record { usual = tt }) (result_refused 7 (omega arith) (omega arith))

module _ (R : Rules) (op : ℕ) where
  -- an operator that computes
  result_kinds : (v w : Value) → Reached (on_kinds R op v w)
  unfolding on_kinds
  result_kinds null w = result_null
  result_kinds (int x) null = result_null
  result_kinds (int x) (int y) = result_ints op x y
  result_kinds (int x) (str b) = result_null
  result_kinds (int x) binary = result_null
  result_kinds (str a) null = result_null
  result_kinds (str a) (int y) = result_null
  result_kinds (str a) (str b) = result_cond (eqb op 38) (result_joined R.limit a b) result_null
  result_kinds (str a) binary = result_null
  result_kinds binary w = result_null

  -- the two-sided operators but AND and OR
  pub result_binary : (v w : Value) → Reached (binary_of R op v w)
  unfolding binary_of compared
  result_binary v w = result_cond (ltb op 38) (result_flag _) (result_cond (both (eqb op 41) (is_int_zero w)) result_null (result_kinds v w))

  -- an operator on one Int
  on_int_lem : (f : ℤ → Outcome) → ((z : ℤ) → Reached (f z)) → (v : Value) → Reached (on_int f v)
  on_int_lem f g null = result_null
  on_int_lem f g (int x) = g x
  on_int_lem f g (str a) = result_null
  on_int_lem f g binary = result_null

  -- the unary ones
  pub result_unary : (v : Value) → Reached (unary_of R op v)
  unfolding unary_of
  result_unary v =
      result_cond (eqb op 16) (on_int_lem negated (λ z. result_fitted _) v) (result_cond (eqb op 17) (on_int_lem inverted (λ z. result_int _) v) (result_flag _))
