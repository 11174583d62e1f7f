-- What two orders in a row tell of the order across both. Assumes nothing.
use mathlib.Core.Path.{◌≡◌, refl, sym, ap, subst, ◌∙◌}
use mathlib.Core.Bool.{Bool, true, false}
use Prim.Native.Nat.{ℕ}
use native.Mathlib.Omega.{arith}
use Rattle.slices.specs.Bytes.{by_tests}
use Rattle.std.specs.declared.cmp.Ordering.{Ordering}
use Rattle.std.specs.declared.cmp.Ordering.TheVariants.{Less, Equal, Greater}
use Rattle.keys.specs.Key.{then_by}

-- the order the other way round
abbrev pub flip : Ordering → Ordering
flip Less = Greater
flip Equal = Equal
flip Greater = Less

-- of first and third, where first and second, and second and third, are known
abbrev pub Chain : Ordering → Ordering → Ordering → Type 0
Chain Less Less q = q ≡ Less
Chain Less Equal q = q ≡ Less
Chain Less Greater q = Unit {0}
Chain Equal p q = q ≡ p
Chain Greater Less q = Unit {0}
Chain Greater Equal q = q ≡ Greater
Chain Greater Greater q = q ≡ Greater

-- ---- one order after another

-- two orders, both turned round
pub flip_then : (o later : Ordering) → then_by (flip o) (flip later) ≡ flip (then_by o later)
flip_then Less later = refl
flip_then Equal later = refl
flip_then Greater later = refl

-- the first is Less and so is the order across both, whatever the second is
pub less_any : (p q : Ordering) → q ≡ Less → Chain Less p q
less_any Less q e = e
less_any Equal q e = e
less_any Greater q e = tt

-- the second is Less and so is the order across both, whatever the first is
pub any_less : (o q : Ordering) → q ≡ Less → Chain o Less q
any_less Less q e = e
any_less Equal q e = e
any_less Greater q e = tt

-- the first is Greater and so is the order across both, whatever the second is
pub greater_any : (p q : Ordering) → q ≡ Greater → Chain Greater p q
greater_any Less q e = tt
greater_any Equal q e = e
greater_any Greater q e = e

-- the second is Greater and so is the order across both, whatever the first is
pub any_greater : (o q : Ordering) → q ≡ Greater → Chain o Greater q
any_greater Less q e = tt
any_greater Equal q e = e
any_greater Greater q e = e

-- two chains, the second where the first is Equal
pub chain_then : (o p q o' p' q' : Ordering) → Chain o p q → Chain o' p' q' → Chain (then_by o o') (then_by p p') (then_by q q')
chain_then Less Less q o' p' q' h k = ap (λ x. then_by x q') h
chain_then Less Equal q o' p' q' h k = less_any p' (then_by q q') (ap (λ x. then_by x q') h)
chain_then Less Greater q o' p' q' h k = tt
chain_then Equal Less q o' p' q' h k = any_less o' (then_by q q') (ap (λ x. then_by x q') h)
chain_then Equal Equal q o' p' q' h k = subst (λ x. Chain o' p' (then_by x q')) (sym h) k
chain_then Equal Greater q o' p' q' h k = any_greater o' (then_by q q') (ap (λ x. then_by x q') h)
chain_then Greater Less q o' p' q' h k = tt
chain_then Greater Equal q o' p' q' h k = greater_any p' (then_by q q') (ap (λ x. then_by x q') h)
chain_then Greater Greater q o' p' q' h k = ap (λ x. then_by x q') h

-- ---- from an order that is Equal for nothing else, turns round and has Less in a row

module _ {A : Type 0} (by : A → A → Ordering) (equal : (a b : A) → by a b ≡ Equal → a ≡ b) (turned : (a b : A) → by b a ≡ flip (by a b))
    (less : (a b c : A) → by a b ≡ Less → by b c ≡ Less → by a c ≡ Less) where
  -- it chains
  pub chain_of : (a b c : A) → Chain (by a b) (by b c) (by a c)
  chain_of a b c = go (by a b) (by b c) refl refl
    where
      go : (o p : Ordering) → by a b ≡ o → by b c ≡ p → Chain o p (by a c)
      go Less Less e f = less a b c e f
      go Less Equal e f = ap (by a) (sym (equal b c f)) ∙ e
      go Less Greater e f = tt
      go Equal p e f = ap (λ x. by x c) (equal a b e) ∙ f
      go Greater Less e f = tt
      go Greater Equal e f = ap (by a) (sym (equal b c f)) ∙ e
      go Greater Greater e f = turned c a ∙ ap flip (less c b a (turned b c ∙ ap flip f) (turned a b ∙ ap flip e))

-- ---- from a test

-- a test that tells Less is the first one's
tests_less : (s t : Bool) → by_tests s t Equal ≡ Less → s ≡ true
tests_less true t e = refl
tests_less false true e = absurd (let z : ◌≡◌ {A = ℕ} 0 1 = cc in omega arith)
tests_less false false e = absurd (let z : ◌≡◌ {A = ℕ} 0 1 = cc in omega arith)

-- two tests, of which not both hold, turned round
tests_turned : (s t : Bool) → (s ≡ true → t ≡ false) → by_tests t s Equal ≡ flip (by_tests s t Equal)
tests_turned true true n = absurd (let q = n refl in let z : ◌≡◌ {A = ℕ} 0 1 = cc in omega arith)
tests_turned true false n = refl
tests_turned false true n = refl
tests_turned false false n = refl

-- what is known of a test "the first is less"
pub record Strict (A : Type 0) (lt : A → A → Bool) : Type 0 where
  pub one_way : (a b : A) → lt a b ≡ true → lt b a ≡ false
  pub in_a_row : (a b c : A) → lt a b ≡ true → lt b c ≡ true → lt a c ≡ true

module _ {A : Type 0} (lt : A → A → Bool) (S : Strict A lt) where
  -- the order that it tells
  abbrev by : A → A → Ordering
  by a b = by_tests (lt a b) (lt b a) Equal

  -- it turns round
  pub strict_turned : (a b : A) → by b a ≡ flip (by a b)
  strict_turned a b = tests_turned (lt a b) (lt b a) (S.one_way a b)

  -- and has Less in a row
  pub strict_less : (a b c : A) → by a b ≡ Less → by b c ≡ Less → by a c ≡ Less
  strict_less a b c e f = rw (S.in_a_row a b c (tests_less (lt a b) (lt b a) e) (tests_less (lt b c) (lt c b) f))
