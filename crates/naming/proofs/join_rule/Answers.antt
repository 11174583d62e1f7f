-- `naming::join_rule` meets its contract. Assumes nothing.
use mathlib.Core.Path.{ap, sym, ◌∙◌}
use Rattle.naming.specs.OneSide.{rule_of}
use Rattle.naming.proofs.join_rule.Goals as goal

pub returns-then-nullable : goal.returns-then-nullable
returns-then-nullable c = c.but_nullable.ensures ∙ sym (ap (λ b. rule_of b c.args.rule) c.if-nullable.true)
