-- `forms::scan_one` meets its contract. Assumes nothing.
use Rattle.forms.proofs.Stack.{one_empty, one_deep, one_step}
use Rattle.forms.proofs.scan_one.Goals as goal

pub returns-then-n-eq0-clause-is : goal.returns-then-n-eq0-clause-is
returns-then-n-eq0-clause-is c = λ used nodes s l h. one_empty used nodes _ _ _ c.requires.1.0 c.requires.1.1 l _ _ s c.if-n-eq0.true h

pub returns-then-deep-ge16-clause-is : goal.returns-then-deep-ge16-clause-is
returns-then-deep-ge16-clause-is c = λ used nodes s l h. one_deep used nodes _ _ _ c.requires.1.0 c.requires.1.1 l _ _ s c.if-n-eq0.false c.if-deep-ge16.true h

pub returns-clause-is : goal.returns-clause-is
returns-clause-is c = λ used nodes s l h. one_step used nodes _ _ _ c.requires.1.0 c.requires.1.1 l _ _ s c.requires.0.0 c.requires.0.1 c.if-n-eq0.false c.if-deep-ge16.false h
