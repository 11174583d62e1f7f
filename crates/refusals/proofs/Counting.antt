-- A refusal whose place counts on from an offset. Assumes nothing.
use mathlib.Core.Path.{◌≡◌, refl, sym, ap₂}
use Prim.Native.Nat.{ℕ, ◌+◌}
use native.Mathlib.Omega.{arith}
use Rattle.refusals.specs.Told.{told}
use Rattle.refusals.specs.Stop.{Stop, never, stop, stop_of, counted_from}
use Rattle.refusals.specs.declared.Refusal.{Refusal}

-- a refusal's number, and its place counted on from an offset
pub counted_as : (r : Refusal) (n from p : ℕ) → (told r).number ≡ n → p ≡ (told r).place → stop n (from + p) ≡ counted_from from (stop_of r)
counted_as r n from p e f = ap₂ (λ x y. stop x (from + y)) (sym e) f

-- where a check's place counts from says nothing of whether it stops
pub counted_never : (from : ℕ) (s : Stop) → counted_from from s ≡ never → s ≡ never
counted_never from never e = refl
counted_never from (stop number place) e = absurd (let z : ◌≡◌ {A = ℕ} 0 1 = cc in omega arith)
