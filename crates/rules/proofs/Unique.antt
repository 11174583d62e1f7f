-- Two answers of is_valid_value are equal; the other contracts of this crate are equations already. Assumes nothing.
use mathlib.Core.Path.{◌≡◌}
use mathlib.Core.List.{List}
use mathlib.Core.Bool.{Bool}
use Prim.Native.Nat.{ℕ}
use lib.ListN.{length}
use Rattle.cells.specs.Cell.{Inside}
use Rattle.cells.specs.declared.ValueRef.{ValueRef}
use Rattle.cells.proofs.Stops.{told_once}
use Rattle.values.specs.Value.{to_value}
use Rattle.rules.specs.Rule.{is_valid_value}

-- is_valid_value: one answer, told of every text that the cell lies inside of
pub one_validity : (rule : ℕ) (value : ValueRef) (r s : Bool)
    → ((t : List ℕ) → Inside (length t) value → r ≡ is_valid_value rule (to_value t value))
    → ((t : List ℕ) → Inside (length t) value → s ≡ is_valid_value rule (to_value t value)) → r ≡ s
one_validity rule value r s f g = told_once value (λ t. is_valid_value rule (to_value t value)) r s f g
