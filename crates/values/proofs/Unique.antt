-- Two answers that satisfy a contract of this crate are equal; the contracts of comparing are equations already. Assumes nothing.
use mathlib.Core.Path.{◌≡◌, refl, sym, ◌∙◌}
use mathlib.Core.List.{List, []}
use mathlib.Core.Bool.{Bool, true, false}
use Prim.Native.Nat.{ℕ}
use native.Mathlib.Omega.{arith}
use lib.ListN.{length}
use Rattle.cells.specs.Cell.{Inside}
use Rattle.cells.proofs.Stops.{told_once}
use Rattle.cells.specs.declared.ValueRef.{ValueRef}
use Rattle.cells.specs.declared.ValueRef.TheVariants.{Null, Int, Str, Binary}
use Rattle.values.specs.Value.{to_value, to_bool, from_bool}
use Rattle.values.proofs.ByWord.{is_str, one_ref}

-- to_bool
pub one_truth : (value : ValueRef) (r s : Bool)
    → ((t : List ℕ) → Inside (length t) value → r ≡ to_bool (to_value t value)) → ((t : List ℕ) → Inside (length t) value → s ≡ to_bool (to_value t value)) → r ≡ s
one_truth value r s f g = told_once value (λ t. to_bool (to_value t value)) r s f g

no_text : (b : Bool) (r : ValueRef) → to_value [] r ≡ from_bool b → is_str r ≡ false
unfolding to_value from_bool
no_text b Null e = refl
no_text b (Int z) e = refl
no_text true (Str s n) e = absurd (let z : ◌≡◌ {A = ℕ} 0 1 = cc in omega arith)
no_text false (Str s n) e = absurd (let z : ◌≡◌ {A = ℕ} 0 1 = cc in omega arith)
no_text b Binary e = refl

-- from_bool
pub one_flag : (b : Bool) (r s : ValueRef) → ((t : List ℕ) → to_value t r ≡ from_bool b) → ((t : List ℕ) → to_value t s ≡ from_bool b) → r ≡ s
one_flag b r s f g = one_ref [] [] r s (no_text b r (f [])) (f [] ∙ sym (g []))
