-- `replacing::fold_one` meets its contract. Assumes nothing.
use native.Mathlib.Omega.{arith}
use Rattle.replacing.proofs.Standing.{one_literal, one_kept}
use Rattle.replacing.proofs.fold_one.Goals as goal

pub returns-then-word-lt216172782113783808 : goal.returns-then-word-lt216172782113783808
returns-then-word-lt216172782113783808 c = λ x s text front S T small st. one_literal _ _ c.args.place c.args.start _ _ _ x s text front _ S T (omega (arith, c.if-word-lt216172782113783808.true)) small c.unary.result c.unary.ensures c.replace.result c.replace.new.out c.replace.ensures st

pub returns : goal.returns
returns c = λ x s text front S T small st. one_kept _ _ _ c.args.start _ _ _ x s text front _ S T (omega (arith, c.if-word-lt216172782113783808.false)) c.requires.0.0 c.requires.2
