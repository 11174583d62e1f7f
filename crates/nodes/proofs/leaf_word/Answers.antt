-- `nodes::leaf_word` meets its contract. Assumes nothing.
use mathlib.Core.Path.{◌≡◌, ap, ap₂}
use Prim.Native.Nat.{◌+◌, ◌*◌, ◌^◌}
use borrow.Author.Tests.{eq-eqb, ne_eqb}
use Rattle.nodes.specs.Kind.{body_of, leaf_word}
use Rattle.nodes.proofs.Bodies.{body_int, body_text, body_name, body_column}
use native.Mathlib.Omega.{arith}
use Rattle.nodes.proofs.leaf_word.Goals as goal

pub four_at-requires : goal.four_at-requires
four_at-requires c = let q : body_of c.args.k ≡ 4 = body_int _ c.if-k-eq1.true in omega (arith, c.requires.0)

pub returns-then-k-eq1 : goal.returns-then-k-eq1
unfolding leaf_word
returns-then-k-eq1 c = rw (eq-eqb _ _ c.if-k-eq1.true) (ap (λ x. c.args.k * 2 ^ 56 + x) c.four_at.ensures.0)

pub four_at-requires-then-k-eq2 : goal.four_at-requires-then-k-eq2
four_at-requires-then-k-eq2 c = let q : body_of c.args.k ≡ 6 = body_text _ c.if-k-eq2.true in omega (arith, c.requires.0)

pub two_at-requires : goal.two_at-requires
two_at-requires c = let q : body_of c.args.k ≡ 6 = body_text _ c.if-k-eq2.true in omega (arith, c.requires.0)

pub returns-then-k-eq2 : goal.returns-then-k-eq2
unfolding leaf_word
returns-then-k-eq2 c = rw (ne_eqb _ _ c.if-k-eq1.false, eq-eqb _ _ c.if-k-eq2.true) (ap₂ (λ x y. c.args.k * 2 ^ 56 + (x * 65536 + y)) c.four_at-then-k-eq2.ensures.0 c.two_at.ensures.0)

pub four_at-requires-then-k-eq3 : goal.four_at-requires-then-k-eq3
four_at-requires-then-k-eq3 c = let q : body_of c.args.k ≡ 6 = body_name _ c.if-k-eq3.true in omega (arith, c.requires.0)

pub two_at-requires-then-k-eq3 : goal.two_at-requires-then-k-eq3
two_at-requires-then-k-eq3 c = let q : body_of c.args.k ≡ 6 = body_name _ c.if-k-eq3.true in omega (arith, c.requires.0)

pub returns-then-k-eq3 : goal.returns-then-k-eq3
unfolding leaf_word
returns-then-k-eq3 c = rw (ne_eqb _ _ c.if-k-eq1.false, ne_eqb _ _ c.if-k-eq2.false, eq-eqb _ _ c.if-k-eq3.true)
    (ap₂ (λ x y. c.args.k * 2 ^ 56 + (x * 65536 + y)) c.four_at-then-k-eq3.ensures.0 c.two_at-then-k-eq3.ensures.0)

pub bounds-b-at : goal.bounds-b-at
bounds-b-at c = let q : body_of c.args.k ≡ 1 = body_column _ c.if-k-eq4.true in omega (arith, c.requires.0)

pub returns-then-k-eq4 : goal.returns-then-k-eq4
unfolding leaf_word
returns-then-k-eq4 c = rw (ne_eqb _ _ c.if-k-eq1.false, ne_eqb _ _ c.if-k-eq2.false, ne_eqb _ _ c.if-k-eq3.false, eq-eqb _ _ c.if-k-eq4.true) (ap (λ x. c.args.k * 2 ^ 56 + x) c.wide.ensures.0)

pub returns : goal.returns
unfolding leaf_word
returns c = rw (ne_eqb _ _ c.if-k-eq1.false, ne_eqb _ _ c.if-k-eq2.false, ne_eqb _ _ c.if-k-eq3.false, ne_eqb _ _ c.if-k-eq4.false)
