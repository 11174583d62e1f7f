-- `signs::precedence` meets its contract. Assumes nothing.
use native.Mathlib.Omega.{arith}
use borrow.Author.Tests.{lt-ltb, le-ltb, ne_eqb}
use Rattle.signs.specs.Sign.{precedence}
use Rattle.signs.proofs.precedence.Goals as goal

pub returns-in-42 : goal.returns-in-42
unfolding precedence
returns-in-42 c = rw c.in-42.is

pub returns-in-43 : goal.returns-in-43
unfolding precedence
returns-in-43 c = rw c.in-43.is

pub returns-in-44 : goal.returns-in-44
unfolding precedence
returns-in-44 c = rw c.in-44.is

pub returns-in-48 : goal.returns-in-48
unfolding precedence
returns-in-48 c = rw c.in-48.is

pub returns-in-0-to-37 : goal.returns-in-0-to-37
unfolding precedence
returns-in-0-to-37 c = simp (lt-ltb c.args.op 38 (omega arith))

pub returns-in-38-to-39 : goal.returns-in-38-to-39
unfolding precedence
returns-in-38-to-39 c = simp (le-ltb c.args.op 38 (omega arith), lt-ltb c.args.op 40 (omega arith))

pub returns-in-40-to-41 : goal.returns-in-40-to-41
unfolding precedence
returns-in-40-to-41 c = simp (le-ltb c.args.op 38 (omega arith), le-ltb c.args.op 40 (omega arith), lt-ltb c.args.op 42 (omega arith))

pub returns-in-45-to-46 : goal.returns-in-45-to-46
unfolding precedence
returns-in-45-to-46 c = simp (le-ltb c.args.op 38 (omega arith), le-ltb c.args.op 40 (omega arith), le-ltb c.args.op 42 (omega arith), ne_eqb c.args.op 42 (omega arith), ne_eqb c.args.op 43 (omega arith), ne_eqb c.args.op 44 (omega arith), lt-ltb c.args.op 47 (omega arith))

pub returns-in_default : goal.returns-in_default
unfolding precedence
returns-in_default c = simp (le-ltb c.args.op 38 (omega arith), le-ltb c.args.op 40 (omega arith), le-ltb c.args.op 42 (omega arith), ne_eqb c.args.op 42 (omega arith), ne_eqb c.args.op 43 (omega arith), ne_eqb c.args.op 44 (omega arith), le-ltb c.args.op 47 (omega arith), ne_eqb c.args.op 48 (omega arith))
