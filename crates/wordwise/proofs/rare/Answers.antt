-- `wordwise::rare` meets its contract. Assumes nothing.
use mathlib.Core.Path.{sym, ap, ◌∙◌}
use Rattle.integers.specs.Outcome.{reply_of}
use Rattle.wordwise.proofs.Textless.{less_ints, settled_anywhere}
use Rattle.wordwise.proofs.rare.Goals as goal

pub returns-in-Ok : goal.returns-in-Ok
returns-in-Ok c = settled_anywhere _ (less_ints _ _ _) _ _ (ap reply_of (sym c.in-Ok.is) ∙ c.on_ints.ensures)
