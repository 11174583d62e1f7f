-- The order of two cells where the kind of one is known, and that of the other is one of several. Assumes nothing.
use mathlib.Core.Path.{◌≡◌, refl}
use mathlib.Core.List.{List}
use Prim.Native.Nat.{ℕ}
use lib.IntN.{ℤ}
use Rattle.std.specs.declared.cmp.Ordering.TheVariants.{Less, Greater}
use Rattle.cells.specs.declared.ValueRef.{ValueRef}
use Rattle.cells.specs.declared.ValueRef.TheVariants.{Null, Int, Str, Binary}
use Rattle.values.specs.Value.{null, int, str, binary, to_value}
use Rattle.values.specs.Order.{order}

module _ (t : List ℕ) where
  pub null_other : (b : ValueRef) → (b ≡ Null → ⊥) → Less ≡ order null (to_value t b)
  unfolding order to_value
  null_other Null n = absurd (n refl)
  null_other (Int z) n = refl
  null_other (Str s m) n = refl
  null_other Binary n = refl

  pub int_other : (x : ℤ) (b : ValueRef) → (b ≡ Null → ⊥) → ((z : ℤ) → b ≡ Int z → ⊥) → Less ≡ order (int x) (to_value t b)
  unfolding order to_value
  int_other x Null n i = absurd (n refl)
  int_other x (Int z) n i = absurd (i z refl)
  int_other x (Str s m) n i = refl
  int_other x Binary n i = refl

  pub str_other : (l : List ℕ) (b : ValueRef) → ((s m : ℕ) → b ≡ Str s m → ⊥) → (b ≡ Binary → ⊥) → Greater ≡ order (str l) (to_value t b)
  unfolding order to_value
  str_other l Null n i = refl
  str_other l (Int z) n i = refl
  str_other l (Str s m) n i = absurd (n s m refl)
  str_other l Binary n i = absurd (i refl)

  pub binary_other : (b : ValueRef) → (b ≡ Binary → ⊥) → Greater ≡ order binary (to_value t b)
  unfolding order to_value
  binary_other Null n = refl
  binary_other (Int z) n = refl
  binary_other (Str s m) n = refl
  binary_other Binary n = absurd (n refl)
