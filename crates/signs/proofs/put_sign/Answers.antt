-- `signs::put_sign` meets its contract. Assumes nothing.
use mathlib.Core.Path.{refl}
use Rattle.signs.specs.Sign.{signs}
use borrow.Author.Rules.{rules}
use Rattle.signs.proofs.put_sign.Goals as goal

pub put_from-requires : goal.put_from-requires
unfolding signs
put_from-requires c = (refl, search rules)
