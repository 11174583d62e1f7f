-- `postfix::write_body` meets its contract. Assumes nothing.
use native.Mathlib.Omega.{arith}
use Rattle.slices.proofs.Splice.{wrote_none}
use Rattle.nodes.proofs.Bodies.{body_int, body_text, body_name, body_column}
use Rattle.postfix.proofs.Leaves.{length_body, bytes_int, bytes_text, bytes_name, bytes_column, bytes_none}
use Rattle.postfix.proofs.write_body.Goals as goal

pub write_little-requires : goal.write_little-requires
write_little-requires c = omega (arith, length_body c.args.word, body_int _ c.if-kind-eq1.true, c.requires)

pub returns-then-kind-eq1 : goal.returns-then-kind-eq1
returns-then-kind-eq1 c = rw (bytes_int _ c.if-kind-eq1.true) c.write_little.ensures

pub write_text-requires : goal.write_text-requires
write_text-requires c = omega (arith, length_body c.args.word, body_text _ c.if-kind-eq2.true, c.requires)

pub returns-then-kind-eq2 : goal.returns-then-kind-eq2
returns-then-kind-eq2 c = rw (bytes_text _ c.if-kind-eq2.true) c.write_text.ensures

pub write_text-requires-then-kind-eq3 : goal.write_text-requires-then-kind-eq3
write_text-requires-then-kind-eq3 c = omega (arith, length_body c.args.word, body_name _ c.if-kind-eq3.true, c.requires)

pub returns-then-kind-eq3 : goal.returns-then-kind-eq3
returns-then-kind-eq3 c = rw (bytes_name _ c.if-kind-eq3.true) c.write_text-then-kind-eq3.ensures

pub write_little-requires-then-kind-eq4 : goal.write_little-requires-then-kind-eq4
write_little-requires-then-kind-eq4 c = omega (arith, length_body c.args.word, body_column _ c.if-kind-eq4.true, c.requires)

pub returns-then-kind-eq4 : goal.returns-then-kind-eq4
returns-then-kind-eq4 c = rw (bytes_column _ c.if-kind-eq4.true) c.write_little-then-kind-eq4.ensures

pub returns : goal.returns
returns c = rw (bytes_none _ c.if-kind-eq1.false c.if-kind-eq2.false c.if-kind-eq3.false c.if-kind-eq4.false)
    (wrote_none _ _ (omega (arith, c.requires)))
