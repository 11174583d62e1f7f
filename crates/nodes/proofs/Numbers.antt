-- Numbers of two and of four bytes are below their bounds. Assumes nothing.
use mathlib.Core.List.{List}
use Prim.Native.Nat.{ℕ, ◌+◌, ◌^◌, ◌<◌}
use native.Mathlib.Omega.{arith}
use lib.ListN.{get_or}
use Rattle.nodes.specs.Kind.{two, four}

-- a list of bytes
abbrev pub Small : List ℕ → Type 0
Small l = (i : ℕ) → get_or l i 0 < 256

-- a number of two bytes
pub two_small : (l : List ℕ) → Small l → (i : ℕ) → two l i < 65536
two_small l B i = omega (arith, B i, B (i + 1))

-- of four bytes
pub four_small : (l : List ℕ) → Small l → (i : ℕ) → four l i < 2 ^ 32
four_small l B i = omega (arith, two_small l B i, two_small l B (i + 2))
