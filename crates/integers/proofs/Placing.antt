-- What outcomes are told as. Assumes nothing.
use mathlib.Core.Path.{◌≡◌, refl, ap, ◌∙◌}
use mathlib.Core.Bool.{true, false}
use Prim.Native.Nat.{ℕ, ◌+◌, ◌^◌, ◌<◌}
use native.Mathlib.Nat.{add-zero}
use lib.IntN.{ℤ}
use mir.Syntax.{w32}
use mir.Val.{to_z, of_z}
use mir.Facts.{of_z-to_z}
use Rattle.cells.specs.Cell.{word_of}
use Rattle.values.specs.Value.{null, int}
use Rattle.integers.specs.Outcome.{Reply, gave, Outcome, value, placed}
use Rattle.integers.specs.Integer.{is_int32, fitted}

-- an Int is told as a word of kind 1 and its 32 bits, and the top stays
pub placed_int : (top : ℕ) (z : ℤ) → placed top (value (int z)) ≡ gave (2 ^ 56 + of_z w32 z) top
unfolding placed word_of
placed_int top z = rw add-zero

-- null is told as the word 0, and the top stays
pub placed_null : (top : ℕ) → placed top (value null) ≡ gave 0 top
unfolding placed word_of
placed_null top = rw add-zero

-- a refusal is told by its number
pub placed_refused : (top n : ℕ) → placed top (Outcome.refused n) ≡ Reply.refused n
unfolding placed
placed_refused top n = refl

-- an Int given by its bits
pub placed_bits : (top b : ℕ) → b < 2 ^ 32 → placed top (value (int (to_z w32 b))) ≡ gave (2 ^ 56 + b) top
placed_bits top b h = placed_int top (to_z w32 b) ∙ ap (λ n. gave (2 ^ 56 + n) top) (of_z-to_z {w = w32} {n = b} (record { fits = h }))

-- a number of 32 bits is given as an Int
pub fitted_in : (z : ℤ) → is_int32 z ≡ true → fitted z ≡ value (int z)
unfolding fitted
fitted_in z e = rw e

-- any other number is refused with 5
pub fitted_out : (z : ℤ) → is_int32 z ≡ false → fitted z ≡ Outcome.refused 5
unfolding fitted
fitted_out z e = rw e
