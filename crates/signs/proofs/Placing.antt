-- A sign's place in the text of all signs. Assumes nothing.
use mathlib.Core.Path.{◌≡◌, ap, ◌∙◌}
use mathlib.Core.List.{List}
use Prim.Native.Nat.{ℕ, ◌+◌, ◌-◌, ◌≤◌}
use native.Mathlib.Nat.{add-sub_cancel_left}
use native.Mathlib.Omega.{arith}
use lib.ListN.{length}
use Rattle.slices.specs.Splice.{piece}
use Rattle.signs.specs.Sign.{signs, spaced}

-- what ends by 43 ends in the text
pub ends_inside : (text : List ℕ) (a b : ℕ) → text ≡ signs → a + b ≤ 43 → a + b ≤ length text
unfolding signs
ends_inside text a b e h =
    let l : length text ≡ 43 = ap length e in
    omega (arith, l, h)

-- the part between start and end is the sign
pub sign_part : (text : List ℕ) (a b op : ℕ) → text ≡ signs → piece a b signs ≡ spaced op → piece a ((a + b) - a) text ≡ spaced op
sign_part text a b op e h = ap (λ k. piece a k text) (add-sub_cancel_left a b) ∙ (ap (piece a b) e ∙ h)
