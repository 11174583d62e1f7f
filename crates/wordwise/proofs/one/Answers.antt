-- `wordwise::one` meets its contract. Assumes nothing.
use mathlib.Core.Path.{sym, ap, ◌∙◌}
use Rattle.integers.specs.Outcome.{reply_of, placed}
use Rattle.wordwise.proofs.Textless.{less_unary, settled_anywhere, any_rules}
use Rattle.wordwise.proofs.one.Goals as goal

pub returns-in-Ok : goal.returns-in-Ok
returns-in-Ok c = λ R t h. settled_anywhere _ (less_unary R _ _) _ _ (ap reply_of (sym c.in-Ok.is) ∙ c.unary.ensures t h ∙ ap (placed 0) (any_rules _ R _ _))
