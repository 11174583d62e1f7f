-- `conditions::leaf` meets its contract. Assumes nothing.
use mathlib.Core.Path.{refl}
use Rattle.conditions.proofs.Leaves.{column_below, leaf_column, leaf_literal}
use Rattle.conditions.proofs.leaf.Goals as goal

pub bounds-row-column : goal.bounds-row-column
bounds-row-column c = column_below c.args.used _ c.args.word c.if-word-eq4.true c.requires.0

pub returns-then-word-eq4 : goal.returns-then-word-eq4
returns-then-word-eq4 c = leaf_column c.args.used c.args.word c.args.row.now _ c.if-word-eq4.true c.requires.0 c.requires.1 refl

pub returns : goal.returns
returns c = leaf_literal c.args.used c.args.word c.args.row.now _ c.if-word-eq4.false c.requires.0 refl
