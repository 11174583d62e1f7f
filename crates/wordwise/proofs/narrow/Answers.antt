-- `wordwise::narrow` meets its contract. Assumes nothing.
use mathlib.Core.Path.{sym, ap, ◌∙◌}
use Prim.Native.Nat.{◌+◌, ◌^◌}
use mir.Syntax.{w32}
use mir.Val.{SFits, of_z}
use mir.Facts.{to_z-of_z}
use Rattle.integers.specs.Outcome.{gave, placed}
use Rattle.integers.proofs.Placing.{placed_int, fitted_in}
use Rattle.integers.proofs.Ranges.{held, held_is, held_between}
use Rattle.wordwise.proofs.Settling.{settled}
use Rattle.wordwise.proofs.narrow.Goals as goal

pub returns : goal.returns
returns c =
    let h = held_is c.args.z c.ranges.z in
    let b = held_between c.args.z c.ranges.z c.if-z-ltminus2147483648.false c.if-z-gt2147483647.false in
    let s : SFits w32 (held c.args.z) = rw h (record { sfits = b.1 }) in
    let e = c.bits.ensures ∙ ap (of_z w32) (to_z-of_z s ∙ h) in
    settled _ _ (λ top. ap (λ n. gave (2 ^ 56 + n) top) e ∙ sym (ap (placed top) (fitted_in _ b.0) ∙ placed_int top _))
