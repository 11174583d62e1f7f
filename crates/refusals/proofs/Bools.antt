-- A truth value is not the other one. Assumes nothing.
use mathlib.Core.Path.{◌≡◌}
use mathlib.Core.Bool.{true, false}
use Prim.Native.Nat.{ℕ}
use native.Mathlib.Omega.{arith}

-- true is not false
pub true_false : {X : Type 0} → true ≡ false → X
true_false e = absurd (let z : ◌≡◌ {A = ℕ} 0 1 = cc in omega arith)
