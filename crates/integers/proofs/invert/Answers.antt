-- `integers::invert` meets its contract. Assumes nothing.
use mathlib.Core.Path.{◌≡◌, sym, ap, ◌∙◌}
use Prim.Native.Nat.{◌%◌, ◌-◌, ◌^◌}
use mir.Syntax.{w32}
use mir.Val.{of_z, to_z}
use mir.Facts.{of_z-to_z}
use Rattle.values.specs.Value.{int}
use Rattle.integers.specs.Outcome.{value, placed}
use Rattle.integers.specs.Integer.{int_of}
use Rattle.integers.proofs.Placing.{placed_bits}
use native.Mathlib.Omega.{arith}
use Rattle.integers.proofs.invert.Goals as goal

pub returns : goal.returns
returns c = let a = c.args.a in
    let b : of_z w32 (int_of a) ≡ a % 2 ^ 32 = of_z-to_z {w = w32} {n = a % 2 ^ 32} (record { fits = omega arith }) in
    sym (ap (λ n. placed c.args.top (value (int (to_z w32 (2 ^ 32 - 1 - n))))) b ∙ placed_bits c.args.top (2 ^ 32 - 1 - a % 2 ^ 32) (omega arith))
