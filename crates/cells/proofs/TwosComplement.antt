-- From 32 bits to their number in two's complement, by way of 64 bits. Assumes nothing.
use mathlib.Core.Path.{◌≡◌, ◌∙◌}
use Prim.Native.Nat.{ℕ, ◌^◌, ◌≤◌, ◌<◌}
use native.Mathlib.Omega.{arith}
use lib.IntN.{pos, ◌-ℤ◌}
use lib.Signed.{mag}
use borrow.Author.Tests.{lt-ltb, le-ltb}
use mir.Syntax.{w32, w64}
use mir.Val.{SFits, to_z, of_z}
use mir.Facts.{to_z-of_z}

module _ (b : ℕ) (h : b < 2 ^ 32) where
  pub low_is : b < 2 ^ 31 → to_z w64 b ≡ to_z w32 b
  low_is l = rw (lt-ltb b (2 ^ 63) (omega arith), lt-ltb b (2 ^ 31) l)

  module _ (l : 2 ^ 31 ≤ b) where
    lowered : to_z w64 b -ℤ pos 4294967296 ≡ to_z w32 b
    lowered = rw (lt-ltb b (2 ^ 63) (omega arith), lt-ltb b 4294967296 h, le-ltb b (2 ^ 31) l)

    small : mag (to_z w32 b) < 2 ^ 31
    small = rw (le-ltb b (2 ^ 31) l) (omega arith)

    pub lowered_fits : SFits w64 (to_z w64 b -ℤ pos 4294967296)
    lowered_fits = rw lowered (record { sfits = omega (arith, small) })

    pub lowered_wide : to_z w64 (of_z w64 (to_z w64 b -ℤ pos 4294967296)) ≡ to_z w32 b
    lowered_wide = to_z-of_z lowered_fits ∙ lowered
