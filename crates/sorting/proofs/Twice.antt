-- What the search for equal keys comes to: rows of which no two have one key, and rows in ascending order have none. Assumes nothing.
use mathlib.Core.Path.{◌≡◌, refl, sym, ap, ◌∙◌}
use mathlib.Core.Bool.{Bool, true, false, cond}
use mathlib.Core.Logic.{◌⊎◌, inl, inr, ⊎_elim}
use Prim.Native.Nat.{ℕ, zero, suc, ◌+◌, ◌-◌, ◌≤◌, ◌<◌}
use native.Mathlib.Nat.{eq-or-lt_of_le}
use native.Mathlib.Omega.{arith}
use Rattle.refusals.specs.Stop.{never, stop_if, or_else}
use Rattle.refusals.proofs.First.{never_both, not_stopped}
use Rattle.refusals.proofs.Bools.{true_false}
use Rattle.slices.specs.Bytes.{is_less, is_equal}
use Rattle.std.specs.declared.cmp.Ordering.{Ordering}
use Rattle.std.specs.declared.cmp.Ordering.TheVariants.{Less, Equal}
use Rattle.values.proofs.Ordered.{not_less}
use Rattle.sorting.specs.Sorted.{Compare, ascends, key_among, double_stop, new_stop}
use Rattle.sorting.proofs.Lawful.{Lawful, less_true, equal_false, equal_true}

-- of n rows no two have one key
abbrev pub Distinct : Compare → ℕ → Type 0
Distinct c n = (i j : ℕ) → i < j → j < n → c i j ≡ Equal → ⊥

-- one number is below another, or it isn't
pub lt_or_ge : (a b : ℕ) → (a < b) ⊎ (b ≤ a)
lt_or_ge a zero = inr (omega arith)
lt_or_ge zero (suc b) = inl (omega arith)
lt_or_ge (suc a) (suc b) = ⊎_elim (λ h. inl (omega arith)) (λ h. inr (omega arith)) (lt_or_ge a b)

-- ---- a search among earlier rows

-- a row that has the key, or a later one
stays : (b : Bool) (o : Ordering) → is_equal o ≡ b → (later : Bool) → cond b true later ≡ false → (o ≡ Equal → ⊥) × (later ≡ false)
stays true o e later f = true_false f
stays false o e later f = (equal_false o e, f)

goes : (b : Bool) (o : Ordering) → is_equal o ≡ b → (later : Bool) → (o ≡ Equal → ⊥) → later ≡ false → cond b true later ≡ false
goes true o e later n f = absurd (n (equal_true o e))
goes false o e later n f = f

-- a search that finds nothing has passed every row
pub among_none : (c : Compare) (i from n : ℕ) → key_among c i from n ≡ false → (j : ℕ) → from ≤ j → j < from + n → c j i ≡ Equal → ⊥
unfolding key_among
among_none c i from zero e j h k q = let z : ⊥ = omega arith in z
among_none c i from (suc n) e j h k q =
    let s = stays (is_equal (c from i)) (c from i) refl (key_among c i (suc from) n) e in
    ⊎_elim (λ p. s.0 (ap (λ x. c x i) p ∙ q)) (λ p. among_none c i (suc from) n s.1 j p (omega arith) q) (eq-or-lt_of_le h)

-- where no row has the key the search finds nothing
pub none_among : (c : Compare) (i from n : ℕ) → ((j : ℕ) → from ≤ j → j < from + n → c j i ≡ Equal → ⊥) → key_among c i from n ≡ false
unfolding key_among
none_among c i from zero h = refl
none_among c i from (suc n) h =
    goes (is_equal (c from i)) (c from i) refl (key_among c i (suc from) n) (h from (omega arith) (omega arith))
    (none_among c i (suc from) n (λ j l k. h j (omega arith) (omega arith)))

-- ---- every row

-- no row stops: the search before each one found nothing
passes : (c : Compare) (i n : ℕ) → double_stop c i n ≡ never → (j : ℕ) → i ≤ j → j < i + n → key_among c j 0 j ≡ false
unfolding double_stop
passes c i zero e j h k = absurd (let z : ⊥ = omega arith in z)
passes c i (suc n) e j h k =
    let s = never_both (stop_if (key_among c i 0 i) 14 i) (double_stop c (suc i) n) e in
    ⊎_elim (λ p. ap (λ x. key_among c x 0 x) (sym p) ∙ not_stopped (key_among c i 0 i) 14 i s.0) (λ p. passes c (suc i) n s.1 j p (omega arith)) (eq-or-lt_of_le h)

-- and the other way round
stops_not : (c : Compare) (i n : ℕ) → ((j : ℕ) → i ≤ j → j < i + n → key_among c j 0 j ≡ false) → double_stop c i n ≡ never
unfolding double_stop
stops_not c i zero h = refl
stops_not c i (suc n) h =
    rw (h i (omega arith) (omega arith)) (stops_not c (suc i) n (λ j l k. h j (omega arith) (omega arith)))

-- 14 doesn't stop: no two have one key
pub double_never : (c : Compare) (n : ℕ) → double_stop c 0 n ≡ never → Distinct c n
double_never c n e i j h k = among_none c j 0 j (passes c 0 n e j (omega arith) (omega arith)) i (omega arith) (omega arith)

-- and the other way round
pub never_double : (c : Compare) (n : ℕ) → Distinct c n → double_stop c 0 n ≡ never
never_double c n D = stops_not c 0 n (λ j l k. none_among c j 0 j (λ i l' h. D i j (omega arith) (omega arith)))

-- no new row stops: the searches before each one found nothing
new_passes : (c : Compare) (m k n : ℕ) → new_stop c m k n ≡ never → (j : ℕ) → k ≤ j → j < k + n → (key_among c (m + j) 0 m ≡ false) × (key_among c (m + j) m j ≡ false)
unfolding new_stop
new_passes c m k zero e j h l = absurd (let z : ⊥ = omega arith in z)
new_passes c m k (suc n) e j h l =
    let s = never_both (stop_if (key_among c (m + k) 0 m) 11 k) (or_else (stop_if (key_among c (m + k) m k) 12 k) (new_stop c m (suc k) n)) e in
    let t = never_both (stop_if (key_among c (m + k) m k) 12 k) (new_stop c m (suc k) n) s.1 in
    ⊎_elim
    (λ p. (ap (λ x. key_among c (m + x) 0 m) (sym p) ∙ not_stopped (key_among c (m + k) 0 m) 11 k s.0, ap (λ x. key_among c (m + x) m x) (sym p) ∙ not_stopped (key_among c (m + k) m k) 12 k t.0))
    (λ p. new_passes c m (suc k) n t.1 j p (omega arith))
    (eq-or-lt_of_le h)

-- neither 14 nor 11 nor 12 stops: no two of all rows have one key
pub new_never : (c : Compare) (m n : ℕ) → double_stop c 0 m ≡ never → new_stop c m 0 n ≡ never → Distinct c (m + n)
new_never c m n e f i j h k = ⊎_elim (λ l. double_never c m e i j h l) new (lt_or_ge j m)
  where
    new : m ≤ j → c i j ≡ Equal → ⊥
    new l =
        let s = new_passes c m 0 n f (j - m) (omega arith) (omega arith) in
        let q : m + (j - m) ≡ j = omega arith in
        ⊎_elim
        (λ l'. among_none c j 0 m (ap (λ x. key_among c x 0 m) (sym q) ∙ s.0) i (omega arith) (omega arith))
        (λ l'. among_none c j m (j - m) (ap (λ x. key_among c x m (j - m)) (sym q) ∙ s.1) i l' (omega arith))
        (lt_or_ge i m)

-- ---- rows in ascending order

-- a test that goes on is true
goes_on : (b : Bool) (later : Bool) → cond b later false ≡ true → (b ≡ true) × (later ≡ true)
goes_on true later e = (refl, e)
goes_on false later e = true_false (sym e)

-- each comes before the next
neighbours : (c : Compare) (i n : ℕ) → ascends c i n ≡ true → (a : ℕ) → i ≤ a → suc a < i + n → c a (suc a) ≡ Less
unfolding ascends
neighbours c i zero e a h k = absurd (let z : ⊥ = omega arith in z)
neighbours c i (suc zero) e a h k = absurd (let z : ⊥ = omega arith in z)
neighbours c i (suc (suc n)) e a h k =
    let s = goes_on (is_less (c i (suc i))) (ascends c (suc i) (suc n)) e in
    ⊎_elim (λ p. ap (λ x. c x (suc x)) (sym p) ∙ less_true (c i (suc i)) s.0) (λ p. neighbours c (suc i) (suc n) s.1 a p (omega arith)) (eq-or-lt_of_le h)

module _ (c : Compare) (n : ℕ) (L : Lawful c n) (e : ascends c 0 n ≡ true) where
  -- and so before every later one
  pub ascends_less : (i j : ℕ) → i < j → j < n → c i j ≡ Less
  ascends_less i zero h k = absurd (let z : ⊥ = omega arith in z)
  ascends_less i (suc j) h k =
      let next : c j (suc j) ≡ Less = neighbours c 0 n e j (omega arith) (omega arith) in
      ⊎_elim
      (λ p. ap (λ x. c x (suc j)) p ∙ next)
      (λ p. L.in_a_row i j (suc j) (omega arith) (omega arith) k (ascends_less i j p (omega arith)) next)
      (eq-or-lt_of_le (lower i j h))
    where
      lower : (i j : ℕ) → i < suc j → i ≤ j
      lower i j h = omega arith

  -- so no two have one key
  pub ascends_never : double_stop c 0 n ≡ never
  ascends_never = never_double c n (λ i j h k q. not_less (sym (ascends_less i j h k) ∙ q))
