-- `cells::ValueRefFromU64::from` meets its contract. Assumes nothing.
use mathlib.Core.Path.{sym, ap, ◌∙◌}
use Rattle.std.proofs.Common.{rules}
use Prim.Native.Nat.{◌%◌, ◌^◌}
use Rattle.cells.specs.declared.ValueRef.TheVariants.{Int}
use mir.Syntax.{w32}
use mir.Val.{to_z, of_z}
use Rattle.cells.proofs.Words.{ref_int, ref_str, ref_binary, ref_null, held_int}
use native.Mathlib.Omega.{arith}
use Rattle.cells.proofs.ValueRefFromU64.from.Goals as goal

pub returns-in-1 : goal.returns-in-1
returns-in-1 c = ap (λ z. Int (to_z w32 (of_z w32 z))) c.signed.ensures ∙ ap Int (held_int (c.args.word % 2 ^ 32) (omega arith)) ∙ sym (ref_int _ c.in-1.is)

pub returns-in-2 : goal.returns-in-2
returns-in-2 c = sym (ref_str _ c.in-2.is)

pub returns-in-3 : goal.returns-in-3
returns-in-3 c = sym (ref_binary _ c.in-3.is)

pub returns-in_default : goal.returns-in_default
returns-in_default c = sym (ref_null _ (search rules) (search rules) (search rules))
