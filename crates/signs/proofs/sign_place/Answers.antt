-- `signs::sign_place` meets its contract. Assumes nothing.
use native.Mathlib.Omega.{arith}
use borrow.Author.Tests.{ne_eqb}
use Rattle.signs.specs.Sign.{sign, signs}
use Rattle.signs.proofs.sign_place.Goals as goal

pub returns-in-32 : goal.returns-in-32
unfolding sign signs
returns-in-32 c = (rw c.in-32.is, omega arith, omega arith)

pub returns-in-33 : goal.returns-in-33
unfolding sign signs
returns-in-33 c = (rw c.in-33.is, omega arith, omega arith)

pub returns-in-34 : goal.returns-in-34
unfolding sign signs
returns-in-34 c = (rw c.in-34.is, omega arith, omega arith)

pub returns-in-35 : goal.returns-in-35
unfolding sign signs
returns-in-35 c = (rw c.in-35.is, omega arith, omega arith)

pub returns-in-36 : goal.returns-in-36
unfolding sign signs
returns-in-36 c = (rw c.in-36.is, omega arith, omega arith)

pub returns-in-37 : goal.returns-in-37
unfolding sign signs
returns-in-37 c = (rw c.in-37.is, omega arith, omega arith)

pub returns-in-38 : goal.returns-in-38
unfolding sign signs
returns-in-38 c = (rw c.in-38.is, omega arith, omega arith)

pub returns-in-39 : goal.returns-in-39
unfolding sign signs
returns-in-39 c = (rw c.in-39.is, omega arith, omega arith)

pub returns-in-40 : goal.returns-in-40
unfolding sign signs
returns-in-40 c = (rw c.in-40.is, omega arith, omega arith)

pub returns-in-41 : goal.returns-in-41
unfolding sign signs
returns-in-41 c = (rw c.in-41.is, omega arith, omega arith)

pub returns-in-42 : goal.returns-in-42
unfolding sign signs
returns-in-42 c = (rw c.in-42.is, omega arith, omega arith)

pub returns-in-43 : goal.returns-in-43
unfolding sign signs
returns-in-43 c = (rw c.in-43.is, omega arith, omega arith)

pub returns-in-44 : goal.returns-in-44
unfolding sign signs
returns-in-44 c = (rw c.in-44.is, omega arith, omega arith)

pub returns-in-45 : goal.returns-in-45
unfolding sign signs
returns-in-45 c = (rw c.in-45.is, omega arith, omega arith)

pub returns-in-46 : goal.returns-in-46
unfolding sign signs
returns-in-46 c = (rw c.in-46.is, omega arith, omega arith)

pub returns-in-48 : goal.returns-in-48
unfolding sign signs
returns-in-48 c = (rw c.in-48.is, omega arith, omega arith)

pub returns-in_default : goal.returns-in_default
unfolding sign signs
returns-in_default c = let n = c.in_default.in_default-own.rest in
    (rw (ne_eqb _ 32 n.0.0.0.0.0.0.0.0.0.0.0.0.0.0.0.1, ne_eqb _ 33 n.0.0.0.0.0.0.0.0.0.0.0.0.0.0.1, ne_eqb _ 34 n.0.0.0.0.0.0.0.0.0.0.0.0.0.1, ne_eqb _ 35 n.0.0.0.0.0.0.0.0.0.0.0.0.1, ne_eqb _ 36 n.0.0.0.0.0.0.0.0.0.0.0.1, ne_eqb _ 37 n.0.0.0.0.0.0.0.0.0.0.1, ne_eqb _ 38 n.0.0.0.0.0.0.0.0.0.1, ne_eqb _ 39 n.0.0.0.0.0.0.0.0.1, ne_eqb _ 40 n.0.0.0.0.0.0.0.1, ne_eqb _ 41 n.0.0.0.0.0.0.1, ne_eqb _ 42 n.0.0.0.0.0.1, ne_eqb _ 43 n.0.0.0.0.1, ne_eqb _ 44 n.0.0.0.1, ne_eqb _ 45 n.0.0.1, ne_eqb _ 46 n.0.1, ne_eqb _ 48 n.1), omega arith, omega arith)
