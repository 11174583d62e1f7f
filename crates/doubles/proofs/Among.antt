-- What a search for a key tells of the definition's, and a turn and the end of a loop over the rows searched for. Assumes nothing.
use mathlib.Core.Path.{◌≡◌, refl, sym, ap, ◌∙◌}
use mathlib.Core.Bool.{Bool, true, false, cond}
use mathlib.Core.Logic.{⊎_elim}
use mathlib.Core.List.{List}
use Prim.Native.Nat.{ℕ, zero, suc, ◌+◌, ◌-◌, ◌≤◌, ◌<◌}
use native.Mathlib.Nat.{eq-or-lt_of_le}
use native.Mathlib.Numerals.{add-one}
use native.Mathlib.Omega.{arith}
use Rattle.refusals.specs.Stop.{never, stop_if, or_else}
use Rattle.slices.specs.Bytes.{is_equal}
use Rattle.std.specs.declared.cmp.Ordering.TheVariants.{Equal}
use Rattle.tables.specs.Table.{column_count}
use Rattle.marking.specs.Marks.{part}
use Rattle.keys.specs.Key.{key_order}
use Rattle.sorting.specs.Sorted.{Compare, key_among, double_stop, new_stop}
use Rattle.sorting.proofs.Twice.{none_among}
use Rattle.doubles.specs.Doubles.{FirstEqual}

-- ---- one search

-- a row that has the key is found
among_found : (c : Compare) (i from n j : ℕ) → from ≤ j → j < from + n → c j i ≡ Equal → key_among c i from n ≡ true
unfolding key_among
among_found c i from zero j h k q = absurd (let z : ⊥ = omega arith in z)
among_found c i from (suc n) j h k q =
    ⊎_elim (λ p. ap (λ o. cond (is_equal o) true (key_among c i (suc from) n)) (ap (λ x. c x i) p ∙ q))
    (λ p. later (is_equal (c from i)) (among_found c i (suc from) n j p (omega arith) q)) (eq-or-lt_of_le h)
  where
    later : (b : Bool) {x : Bool} → x ≡ true → cond b true x ≡ true
    later true e = refl
    later false e = e

module _ {columns stored rows : List ℕ} {n : ℕ} {row : List ℕ} {r : ℕ} (F : FirstEqual columns stored rows n row r) (c : Compare) (i from : ℕ)
    (same : (j : ℕ) → j < n → c (from + j) i ≡ key_order columns stored (part rows (column_count columns) j) row) where
  -- the rows searched are those from a number on, and the key is that of row i: it is found, or it isn't
  pub found : r < n → key_among c i from n ≡ true
  found h = among_found c i from n (from + r) (omega arith) (omega arith) (same r h ∙ F.equal h)

  pub not_found : n ≤ r → key_among c i from n ≡ false
  not_found h = none_among c i from n (λ j l k q. F.none_before (j - from) (omega arith) (sym (same (j - from) (omega arith)) ∙ again j l ∙ q))
    where
      again : (j : ℕ) → from ≤ j → c (from + (j - from)) i ≡ c j i
      again j l = let e : from + (j - from) ≡ j = omega arith in ap (λ x. c x i) e

-- ---- a loop over the rows

module _ (c : Compare) (i n : ℕ) where
  -- an old row, then the rest
  pub double_turn : i < n → double_stop c i (n - i) ≡ or_else (stop_if (key_among c i 0 i) 14 i) (double_stop c (i + 1) (n - (i + 1)))
  unfolding double_stop
  double_turn h = let e : n - i ≡ suc (n - (i + 1)) = omega arith in rw (e, add-one i)

  -- none is left
  pub double_end : n ≤ i → double_stop c i (n - i) ≡ never
  unfolding double_stop
  double_end h = let e : n - i ≡ 0 = omega arith in rw e

  -- a new row, then the rest
  pub new_turn : (m : ℕ) → i < n
      → new_stop c m i (n - i) ≡ or_else (stop_if (key_among c (m + i) 0 m) 11 i) (or_else (stop_if (key_among c (m + i) m i) 12 i) (new_stop c m (i + 1) (n - (i + 1))))
  unfolding new_stop
  new_turn m h = let e : n - i ≡ suc (n - (i + 1)) = omega arith in rw (e, add-one i)

  -- none is left
  pub new_end : (m : ℕ) → n ≤ i → new_stop c m i (n - i) ≡ never
  unfolding new_stop
  new_end m h = let e : n - i ≡ 0 = omega arith in rw e
