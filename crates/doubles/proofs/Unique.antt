-- Two answers of a search are equal; every other contract of this crate is an equation, and one stop has one answer. Assumes nothing.
use mathlib.Core.Path.{◌≡◌, refl, ap}
use mathlib.Core.Logic.{⊎_elim}
use mathlib.Core.List.{List}
use Prim.Native.Nat.{ℕ, ◌≤◌, ◌<◌}
use native.Mathlib.Nat.{le_antisymm}
use native.Mathlib.Omega.{arith}
use Rattle.sorting.proofs.Twice.{lt_or_ge}
use Rattle.std.specs.Prelude.{Option, Some, None}
use Rattle.doubles.specs.Doubles.{FirstEqual, FoundEqual}

module _ {columns stored rows : List ℕ} {n : ℕ} {row : List ℕ} where
  -- no answer is below another
  no_lower : {r s : ℕ} → FirstEqual columns stored rows n row r → FirstEqual columns stored rows n row s → s ≤ r
  no_lower {r} {s} F G = ⊎_elim (λ h. absurd (G.none_before r h (F.equal (omega (arith, G.within))))) (λ h. h) (lt_or_ge r s)

  pub one_first : {r s : ℕ} → FirstEqual columns stored rows n row r → FirstEqual columns stored rows n row s → r ≡ s
  one_first F G = le_antisymm (no_lower G F) (no_lower F G)

-- equal_row
pub one_found : (columns stored rows : List ℕ) (n : ℕ) (row : List ℕ) (o p : Option ℕ) → FoundEqual columns stored rows n row o → FoundEqual columns stored rows n row p → o ≡ p
one_found columns stored rows n row (Some r) (Some s) F G = ap Some (one_first F.0 G.0)
one_found columns stored rows n row (Some r) None F G = absurd (let e : r ≡ n = one_first F.0 G in let l : r < n = F.1 in omega arith)
one_found columns stored rows n row None (Some s) F G = absurd (let e : n ≡ s = one_first F G.0 in let l : s < n = G.1 in omega arith)
one_found columns stored rows n row None None F G = refl
