-- Two rows from a column on: a turn of a loop over the columns, and its end. Assumes nothing.
use mathlib.Core.Path.{◌≡◌, refl, sym, ap, ◌∙◌}
use mathlib.Core.Bool.{Bool, true, false, cond}
use mathlib.Core.List.{List, [], ◌∷◌}
use Prim.Native.Nat.{ℕ, zero, suc, ◌+◌, ◌*◌, ◌≤◌, ◌<◌}
use native.Mathlib.Omega.{arith}
use native.Mathlib.Numerals.{add-one}
use lib.ListN.{length, drop, get_or, length-map, get_or-map, drop_of_length-le}
use lib.Seq.{drop-cons}
use Rattle.std.specs.declared.cmp.Ordering.{Ordering}
use Rattle.std.specs.declared.cmp.Ordering.TheVariants.{Less, Equal, Greater}
use Rattle.values.specs.Value.{Value, value_of}
use Rattle.values.specs.Order.{order}
use Rattle.rules.specs.Rule.{is_key}
use Rattle.conditions.specs.Table.{row_of}
use Rattle.keys.specs.Key.{keys_of, then_by, by_keys, pick}
use Rattle.keys.specs.Comparable.{Comparable}

-- the keys from a column on
keys_cons : (columns : List ℕ) (i : ℕ) → 2 * i + 1 < length columns → drop i (keys_of columns) ≡ is_key (get_or columns (2 * i + 1) 0) ∷ drop (suc i) (keys_of columns)
unfolding keys_of
keys_cons [] i h = absurd (let z : ⊥ = omega arith in z)
keys_cons (name ∷ []) i h = absurd (let z : ⊥ = omega arith in z)
keys_cons (name ∷ rule ∷ columns) zero h = refl
keys_cons (name ∷ rule ∷ columns) (suc i) h =
    let e : 2 * suc i + 1 ≡ suc (suc (2 * i + 1)) = omega arith in
    rw e (keys_cons columns i (omega arith))

module _ (stored row : List ℕ) (i : ℕ) where
  -- the values of a row from a column on
  row_cons : i < length row → drop i (row_of stored row) ≡ value_of stored (get_or row i 0) ∷ drop (suc i) (row_of stored row)
  unfolding row_of
  row_cons h =
      drop-cons (row_of stored row) i (value_of stored 0) (rw (length-map row (λ (w : ℕ). value_of stored w)) h)
      ∙ ap (λ x. x ∷ drop (suc i) (row_of stored row)) (get_or-map (λ (w : ℕ). value_of stored w) row i 0)

  -- none are left at the end
  row_end : length row ≤ i → drop i (row_of stored row) ≡ []
  unfolding row_of
  row_end h = drop_of_length-le (row_of stored row) {i = i} (rw (length-map row (λ (w : ℕ). value_of stored w)) h)

-- a column that is no key decides nothing
by_column : (k : Bool) (o later : Ordering) → cond k (then_by o later) later ≡ then_by (cond k o Equal) later
by_column true o later = refl
by_column false o later = refl

-- one that isn't Equal decides
decided : (o later : Ordering) → (o ≡ Equal → ⊥) → then_by o later ≡ o
decided Less later n = refl
decided Equal later n = absurd (n refl)
decided Greater later n = refl

-- rows without values are equal
no_values : (keys : List Bool) (w : List Value) → by_keys keys [] w ≡ Equal
unfolding by_keys
no_values [] w = refl
no_values (k ∷ keys) w = refl

module _ (columns stored first second : List ℕ) where
  -- what is left to compare from a column on
  abbrev pub rest : ℕ → Ordering
  rest i = by_keys (drop i (keys_of columns)) (drop i (row_of stored first)) (drop i (row_of stored second))

  -- the order in one column: Equal where it is no key column
  abbrev here : ℕ → Ordering
  here i = cond (is_key (get_or columns (2 * i + 1) 0)) (order (value_of stored (get_or first i 0)) (value_of stored (get_or second i 0))) Equal

  -- one column, then what is left after it
  turn : (i : ℕ) → Comparable columns (length stored) first second → i < length first → rest i ≡ then_by (here i) (rest (i + 1))
  unfolding by_keys
  turn i C h =
      rw (keys_cons columns i (omega (arith, C.whole, C.first_full)), row_cons stored first i h, row_cons stored second i (omega (arith, C.first_full, C.second_full)), add-one i)
      (by_column (is_key (get_or columns (2 * i + 1) 0)) (order (value_of stored (get_or first i 0)) (value_of stored (get_or second i 0))) _)

  module _ (i : ℕ) (C : Comparable columns (length stored) first second) (h : i < length first) (o : Ordering) (e : o ≡ here i) where
    -- left at the first column that isn't Equal
    pub leaves : (o ≡ Equal → ⊥) → rest i ≡ o
    leaves n = turn i C h ∙ ap (λ x. then_by x (rest (i + 1))) (sym e) ∙ decided o (rest (i + 1)) n

    -- an Equal column leaves the later ones
    pub goes_on : o ≡ Equal → rest i ≡ rest (i + 1)
    goes_on q = turn i C h ∙ ap (λ x. then_by x (rest (i + 1))) (sym e ∙ q)

  -- no column is left at the end
  pub end : (i : ℕ) → length first ≤ i → rest i ≡ Equal
  end i h = rw (row_end stored first i h) (no_values _ _)

-- of two rows the second only where the order is Greater
pub first_picked : (o : Ordering) (first second : List ℕ) → (o ≡ Greater → ⊥) → first ≡ pick o first second
first_picked Less first second n = refl
first_picked Equal first second n = refl
first_picked Greater first second n = absurd (n refl)
