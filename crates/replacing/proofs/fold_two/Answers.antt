-- `replacing::fold_two` meets its contract. Assumes nothing.
use native.Mathlib.Omega.{arith}
use mathlib.Core.Path.{sym, ◌∙◌}
use Rattle.replacing.proofs.Standing.{two_literal, two_kept}
use Rattle.replacing.proofs.fold_two.Goals as goal

pub returns-then-folds : goal.returns-then-folds
returns-then-folds c = λ x y s front S T st. two_literal _ _ c.args.place c.args.start _ _ _ _ x y s _ front _ S T (sym c.folds.ensures ∙ c.if-folds.true) c.requires.room.short (omega (arith, c.requires.room.above)) (omega (arith, T.long, c.requires.room.above, c.requires.room.small)) c.binary-answer.result _ c.binary-answer.ensures c.replace.result c.replace.new.out c.replace.ensures st

pub returns : goal.returns
returns c = λ x y s front S T st. two_kept _ _ c.args.place c.args.start _ _ _ _ x y s _ front _ S T (sym c.folds.ensures ∙ c.if-folds.false) (omega (arith, c.requires.known.0)) c.requires.end_space
