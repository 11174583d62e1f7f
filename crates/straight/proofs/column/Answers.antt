-- `straight::column` meets its contract. Assumes nothing.
use mathlib.Core.Path.{refl}
use Rattle.straight.proofs.Reading.{read_column}
use native.Mathlib.Omega.{arith}
use Rattle.straight.proofs.column.Goals as goal

pub returns : goal.returns
returns c = read_column c.args.used c.args.at c.args.b.now c.args.row.now (λ i. (c.type_inv.b i).fits) c.wide-number.result _ c.requires.1 (omega (arith, c.if-b-at-lt2.false, c.requires.0)) c.wide-number.ensures.0 c.if-row-number.false refl
