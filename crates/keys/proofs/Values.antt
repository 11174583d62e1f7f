-- The order of values is one: it turns round, and chains. Assumes nothing.
use mathlib.Core.Path.{◌≡◌, refl, sym, ap, ap₂, ◌∙◌}
use mathlib.Core.Bool.{Bool, true, false}
use mathlib.Core.List.{List, [], ◌∷◌}
use Prim.Native.Nat.{ℕ}
use native.Mathlib.Omega.{arith}
use native.Mathlib.Nat.{le_antisymm}
use lib.Dec.{ltb}
use lib.IntN.{ℤ, pos, negsuc}
use lib.Signed.{lt_z}
use borrow.Author.Tests.{lt-ltb, le-ltb, ltb-true, ltb-false}
use Rattle.refusals.proofs.Bools.{true_false}
use Rattle.slices.specs.Bytes.{by_tests, by_bytes}
use Rattle.std.specs.declared.cmp.Ordering.{Ordering}
use Rattle.std.specs.declared.cmp.Ordering.TheVariants.{Less, Equal, Greater}
use Rattle.values.specs.Value.{Value, null, int, str, binary}
use Rattle.values.specs.Order.{order}
use Rattle.values.proofs.Ordered.{order_equal, tests_equal, ints_one_way}
use Rattle.keys.specs.Key.{then_by}
use Rattle.keys.proofs.Chains.{flip, Chain, flip_then, less_any, any_greater, chain_then, chain_of, Strict, strict_turned, strict_less}

-- ---- numbers

-- natural numbers
numbers : Strict ℕ ltb
numbers =
    record {
      one_way = λ a b e. le-ltb b a (omega (arith, ltb-true a b e));
      in_a_row = λ a b c e f. lt-ltb a c (omega (arith, ltb-true a b e, ltb-true b c f));
    }

-- the order of two numbers
abbrev by_numbers : ℕ → ℕ → Ordering
by_numbers a b = by_tests (ltb a b) (ltb b a) Equal

-- Equal for the same number only
number_equal : (a b : ℕ) → by_numbers a b ≡ Equal → a ≡ b
number_equal a b e = let q = tests_equal (ltb a b) (ltb b a) e in le_antisymm (ltb-false b a q.1) (ltb-false a b q.0)

-- it chains
number_chain : (a b c : ℕ) → Chain (by_numbers a b) (by_numbers b c) (by_numbers a c)
number_chain = chain_of by_numbers number_equal (strict_turned ltb numbers) (strict_less ltb numbers)

-- integers: the test holds twice in a row
ints_in_a_row : (x y z : ℤ) → lt_z x y ≡ true → lt_z y z ≡ true → lt_z x z ≡ true
ints_in_a_row (pos a) (pos b) (pos c) e f = numbers.in_a_row a b c e f
ints_in_a_row (pos a) (pos b) (negsuc c) e f = true_false (sym f)
ints_in_a_row (pos a) (negsuc b) z e f = true_false (sym e)
ints_in_a_row (negsuc a) y (pos c) e f = refl
ints_in_a_row (negsuc a) (pos b) (negsuc c) e f = true_false (sym f)
ints_in_a_row (negsuc a) (negsuc b) (negsuc c) e f = numbers.in_a_row c b a f e

-- so they are ordered by it
ints : Strict ℤ lt_z
ints = record { one_way = ints_one_way; in_a_row = ints_in_a_row }

-- ---- texts

-- two tests and what decides where neither holds
tests_then : (s t : Bool) (later : Ordering) → by_tests s t later ≡ then_by (by_tests s t Equal) later
tests_then true t later = refl
tests_then false true later = refl
tests_then false false later = refl

-- two texts by their first bytes, then by the rest
first_byte : (a b : ℕ) (s t : List ℕ) → by_bytes (a ∷ s) (b ∷ t) ≡ then_by (by_numbers a b) (by_bytes s t)
unfolding by_bytes
first_byte a b s t = tests_then (ltb a b) (ltb b a) (by_bytes s t)

-- two texts the other way round
bytes_turned : (s t : List ℕ) → by_bytes t s ≡ flip (by_bytes s t)
unfolding by_bytes
bytes_turned [] [] = refl
bytes_turned [] (b ∷ t) = refl
bytes_turned (a ∷ s) [] = refl
bytes_turned (a ∷ s) (b ∷ t) =
    first_byte b a t s ∙ ap₂ then_by (strict_turned ltb numbers a b) (bytes_turned s t) ∙ flip_then (by_numbers a b) (by_bytes s t)
    ∙ ap flip (sym (first_byte a b s t))

-- three texts
bytes_chain : (s t u : List ℕ) → Chain (by_bytes s t) (by_bytes t u) (by_bytes s u)
unfolding by_bytes
bytes_chain [] [] [] = refl
bytes_chain [] [] (c ∷ u) = refl
bytes_chain [] (b ∷ t) [] = tt
bytes_chain [] (b ∷ t) (c ∷ u) = less_any (by_bytes (b ∷ t) (c ∷ u)) Less refl
bytes_chain (a ∷ s) [] [] = refl
bytes_chain (a ∷ s) [] (c ∷ u) = tt
bytes_chain (a ∷ s) (b ∷ t) [] = any_greater (by_bytes (a ∷ s) (b ∷ t)) Greater refl
bytes_chain (a ∷ s) (b ∷ t) (c ∷ u) =
    rw (first_byte a b s t, first_byte b c t u, first_byte a c s u)
    (chain_then (by_numbers a b) (by_numbers b c) (by_numbers a c) (by_bytes s t) (by_bytes t u) (by_bytes s u)
    (number_chain a b c) (bytes_chain s t u))

-- Less twice in a row
bytes_less : (s t u : List ℕ) → by_bytes s t ≡ Less → by_bytes t u ≡ Less → by_bytes s u ≡ Less
bytes_less s t u e f = let h : Chain Less Less (by_bytes s u) = rw (e, f) at (bytes_chain s t u) in h

-- ---- values

-- two values the other way round
pub order_turned : (v w : Value) → order w v ≡ flip (order v w)
unfolding order
order_turned null null = refl
order_turned null (int b) = refl
order_turned null (str b) = refl
order_turned null binary = refl
order_turned (int a) null = refl
order_turned (int a) (int b) = strict_turned lt_z ints a b
order_turned (int a) (str b) = refl
order_turned (int a) binary = refl
order_turned (str a) null = refl
order_turned (str a) (int b) = refl
order_turned (str a) (str b) = bytes_turned a b
order_turned (str a) binary = refl
order_turned binary null = refl
order_turned binary (int b) = refl
order_turned binary (str b) = refl
order_turned binary binary = refl

-- Equal and Greater are not Less
not_equal : {X : Type 0} → Equal ≡ Less → X
not_equal e = absurd (let z : ◌≡◌ {A = ℕ} 0 1 = cc in omega arith)

not_greater : {X : Type 0} → Greater ≡ Less → X
not_greater e = absurd (let z : ◌≡◌ {A = ℕ} 0 1 = cc in omega arith)

-- nothing is less than Null, and Binary less than nothing
least : {X : Type 0} (w : Value) → order w null ≡ Less → X
unfolding order
least null e = not_equal e
least (int b) e = not_greater e
least (str b) e = not_greater e
least binary e = not_greater e

greatest : {X : Type 0} (w : Value) → order binary w ≡ Less → X
unfolding order
greatest null e = not_greater e
greatest (int b) e = not_greater e
greatest (str b) e = not_greater e
greatest binary e = not_equal e

-- Less twice in a row
order_less : (v w x : Value) → order v w ≡ Less → order w x ≡ Less → order v x ≡ Less
unfolding order
order_less null w null e f = least w f
order_less null w (int c) e f = refl
order_less null w (str c) e f = refl
order_less null w binary e f = refl
order_less (int a) w null e f = least w f
order_less (int a) null (int c) e f = not_greater e
order_less (int a) (int b) (int c) e f = strict_less lt_z ints a b c e f
order_less (int a) (str b) (int c) e f = not_greater f
order_less (int a) binary (int c) e f = not_greater f
order_less (int a) w (str c) e f = refl
order_less (int a) w binary e f = refl
order_less (str a) w null e f = least w f
order_less (str a) null (int c) e f = not_greater e
order_less (str a) (int b) (int c) e f = not_greater e
order_less (str a) (str b) (int c) e f = not_greater f
order_less (str a) binary (int c) e f = not_greater f
order_less (str a) null (str c) e f = not_greater e
order_less (str a) (int b) (str c) e f = not_greater e
order_less (str a) (str b) (str c) e f = bytes_less a b c e f
order_less (str a) binary (str c) e f = not_greater f
order_less (str a) w binary e f = refl
order_less binary w x e f = greatest w e

-- three values
pub order_chain : (v w x : Value) → Chain (order v w) (order w x) (order v x)
order_chain = chain_of order order_equal order_turned order_less
