-- Two answers of find_column are equal; those of the checks are by the refusals' own law. Assumes nothing.
use mathlib.Core.Path.{◌≡◌, refl, ap}
use Prim.Native.Nat.{ℕ}
use native.Mathlib.Omega.{arith}
use Rattle.columns.specs.Column.{Where, nowhere, found, found_of}
use Rattle.std.specs.Prelude.{Option, Some, None}
use Rattle.columns.specs.declared.ColumnNumber.{ColumnNumber}

numbered : Where → Option ColumnNumber
numbered nowhere = None
numbered (found n) = Some (record { 0 = n })

-- two answers of the search that tell the same are the same
pub one_column : (a b : Option ColumnNumber) → found_of a ≡ found_of b → a ≡ b
unfolding numbered
one_column (Some m) (Some n) e = ap numbered e
one_column (Some m) None e = absurd (let z : ◌≡◌ {A = ℕ} 0 1 = cc in omega arith)
one_column None (Some n) e = absurd (let z : ◌≡◌ {A = ℕ} 0 1 = cc in omega arith)
one_column None None e = refl
