-- `inserting::check_keys` meets its contract: what stops it in document 01's order. Assumes nothing.
use Rattle.std.proofs.Common.{rules}
use Rattle.sorting.proofs.Joined.{old_double}
use Rattle.inserting.proofs.check_keys.Goals as goal

pub returns-in_err-check_old : goal.returns-in_err-check_old
returns-in_err-check_old c = rw (old_double _ _ _ _ _ _ c.requires.0.whole c.requires.1.whole) (search rules)

pub returns : goal.returns
returns c = rw (old_double _ _ _ _ _ _ c.requires.0.whole c.requires.1.whole) (search rules)
