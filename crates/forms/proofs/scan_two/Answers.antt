-- `forms::scan_two` meets its contract. Assumes nothing.
use Rattle.forms.proofs.Stack.{two_empty, two_single, two_deep, two_step}
use Rattle.forms.proofs.scan_two.Goals as goal

pub returns-then-n-eq0-clause-is : goal.returns-then-n-eq0-clause-is
returns-then-n-eq0-clause-is c = λ used nodes s l h. two_empty used nodes _ _ _ c.requires.1.0 c.requires.1.1 l _ _ s c.if-n-eq0.true h

pub returns-then-right-eq0-clause-is : goal.returns-then-right-eq0-clause-is
returns-then-right-eq0-clause-is c = λ used nodes s l h. two_single used nodes _ _ _ c.requires.1.0 c.requires.1.1 l _ _ s c.if-n-eq0.false c.if-right-eq0.true h

pub returns-then-higher-ge16-clause-is : goal.returns-then-higher-ge16-clause-is
returns-then-higher-ge16-clause-is c = λ used nodes s l h. two_deep used nodes _ _ _ c.requires.1.0 c.requires.1.1 l _ _ s c.if-n-eq0.false c.if-right-eq0.false h (rw c.max-higher.ensures at c.if-higher-ge16.true)

pub returns-clause-is : goal.returns-clause-is
returns-clause-is c = λ used nodes s l h. rw c.max-higher.ensures
    (two_step used nodes _ _ _ c.requires.1.0 c.requires.1.1 l _ _ s c.if-n-eq0.false c.if-right-eq0.false h c.requires.0.0 c.requires.0.1
    (rw c.max-higher.ensures at c.if-higher-ge16.false))
