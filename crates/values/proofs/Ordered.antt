-- Laws of the order of values: equal means same kind and content. Assumes nothing.
use mathlib.Core.Path.{◌≡◌, refl, sym, ap}
use mathlib.Core.Bool.{Bool, true, false}
use Prim.Native.Nat.{ℕ}
use native.Mathlib.Omega.{arith}
use native.Mathlib.Nat.{le_antisymm}
use lib.IntN.{ℤ, pos, negsuc}
use lib.Signed.{lt_z}
use borrow.Author.Tests.{le-ltb, ltb-true, ltb-false}
use mir.Syntax.{w32}
use mir.Val.{SFits, of_z, to_z}
use mir.Facts.{to_z-of_z}
use Rattle.refusals.proofs.Bools.{true_false}
use Rattle.slices.specs.Bytes.{by_tests}
use Rattle.slices.proofs.Bytes.{bytes_self, bytes_equal}
use Rattle.std.specs.Prelude.{cond}
use Rattle.std.specs.Ordering.{int_cmp}
use Rattle.std.specs.declared.cmp.Ordering.TheVariants.{Less, Equal, Greater}
use Rattle.values.specs.Value.{Value, null, int, str, binary}
use Rattle.values.specs.Order.{by_ints, order}

-- ---- Ints

-- the test holds one way
pub ints_one_way : (x y : ℤ) → lt_z x y ≡ true → lt_z y x ≡ false
ints_one_way (pos a) (pos b) e = le-ltb b a (omega (arith, ltb-true a b e))
ints_one_way (pos a) (negsuc b) e = sym e
ints_one_way (negsuc a) (pos b) e = refl
ints_one_way (negsuc a) (negsuc b) e = le-ltb a b (omega (arith, ltb-true b a e))

-- std's order of two Ints, as the code has them
pub ints_held : (x y : ℤ) → SFits w32 x → SFits w32 y → int_cmp (to_z w32 (of_z w32 x)) (to_z w32 (of_z w32 y)) ≡ by_ints x y
ints_held x y h k = rw (to_z-of_z h, to_z-of_z k) (go (lt_z x y) (lt_z y x))
  where
    go : (f g : Bool) → cond f Less (cond g Greater Equal) ≡ by_tests f g Equal
    go true g = refl
    go false true = refl
    go false false = refl

-- ---- a value is equal to itself

int_self : (z : ℤ) → lt_z z z ≡ false
int_self (pos n) = le-ltb n n (omega arith)
int_self (negsuc n) = le-ltb n n (omega arith)

-- no value comes before itself
pub order_self : (v : Value) → order v v ≡ Equal
unfolding order
order_self null = refl
order_self (int z) = rw (int_self z)
order_self (str l) = bytes_self l
order_self binary = refl

-- ---- and to no other

-- Less and Greater are not Equal
pub not_less : {X : Type 0} → Less ≡ Equal → X
not_less e = absurd (let z : ◌≡◌ {A = ℕ} 0 1 = cc in omega arith)

not_greater : {X : Type 0} → Greater ≡ Equal → X
not_greater e = absurd (let z : ◌≡◌ {A = ℕ} 0 1 = cc in omega arith)

-- two tests that tell Equal both fail
pub tests_equal : (s t : Bool) → by_tests s t Equal ≡ Equal → (s ≡ false) × (t ≡ false)
tests_equal true t e = not_less e
tests_equal false true e = not_greater e
tests_equal false false e = (refl, refl)

neither : (x y : ℤ) → lt_z x y ≡ false → lt_z y x ≡ false → x ≡ y
neither (pos a) (pos b) e f = ap pos (le_antisymm (ltb-false b a f) (ltb-false a b e))
neither (pos a) (negsuc b) e f = true_false f
neither (negsuc a) (pos b) e f = true_false e
neither (negsuc a) (negsuc b) e f = ap negsuc (le_antisymm (ltb-false b a e) (ltb-false a b f))

int_equal : (x y : ℤ) → by_ints x y ≡ Equal → x ≡ y
int_equal x y e = let q = tests_equal (lt_z x y) (lt_z y x) e in neither x y q.0 q.1

-- values of which neither comes first are equal
pub order_equal : (v w : Value) → order v w ≡ Equal → v ≡ w
unfolding order
order_equal null null e = refl
order_equal null (int b) e = not_less e
order_equal null (str b) e = not_less e
order_equal null binary e = not_less e
order_equal (int a) null e = not_greater e
order_equal (int a) (int b) e = ap int (int_equal a b e)
order_equal (int a) (str b) e = not_less e
order_equal (int a) binary e = not_less e
order_equal (str a) null e = not_greater e
order_equal (str a) (int b) e = not_greater e
order_equal (str a) (str b) e = ap str (bytes_equal a b e)
order_equal (str a) binary e = not_less e
order_equal binary null e = not_greater e
order_equal binary (int b) e = not_greater e
order_equal binary (str b) e = not_greater e
order_equal binary binary e = refl
