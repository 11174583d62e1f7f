-- `postfix::write_leaf` meets its contract. Assumes nothing.
use native.Mathlib.Omega.{arith}
use Rattle.postfix.proofs.Writing.{wrote_first}
use Rattle.postfix.proofs.write_leaf.Goals as goal

pub returns : goal.returns
returns c = wrote_first (omega (arith, c.requires)) c.write_body.ensures
