-- `answers::part_of` meets its contract. Assumes nothing.
use mathlib.Core.Path.{refl, ap, ◌∙◌}
use native.Mathlib.Omega.{arith}
use lib.ListN.{length}
use Rattle.answers.proofs.Rows.{row_inside, part_there}
use Rattle.answers.proofs.part_of.Goals as goal

pub overflow_mul-result : goal.overflow_mul-result
overflow_mul-result c = omega (arith, row_inside c.args.rows.now c.args.width c.args.number (λ z. c.if-n-eq0.false (ap length c.row-n.ensures ∙ z)), c.well_formed.0)

pub returns : goal.returns
returns c = part_there c.args.rows.now c.args.width c.args.number (λ z. c.if-n-eq0.false (ap length c.row-n.ensures ∙ z)) _ refl (ap length c.row-n.ensures)
