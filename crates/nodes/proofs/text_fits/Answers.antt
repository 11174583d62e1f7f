-- `nodes::text_fits` meets its contract. Assumes nothing.
use mathlib.Core.Path.{◌≡◌, ap, ap₂}
use Prim.Native.Nat.{◌+◌, ◌≤◌, ◌<◌}
use lib.Dec.{leb}
use borrow.Author.Tests.{eq-eqb, ne_eqb, lt-leb, le-leb}
use Rattle.nodes.specs.Kind.{body_of, text_fits, two, four}
use Rattle.nodes.proofs.Bodies.{body_text, body_name}
use native.Mathlib.Omega.{arith}
use Rattle.nodes.proofs.text_fits.Goals as goal

pub four_at-requires : goal.four_at-requires
four_at-requires c = let q : body_of c.args.k ≡ 6 = body_text _ c.if-k-eq2.true in omega (arith, c.requires)

pub two_at-requires : goal.two_at-requires
two_at-requires c = let q : body_of c.args.k ≡ 6 = body_text _ c.if-k-eq2.true in omega (arith, c.requires)

pub returns-then-k-eq2 : goal.returns-then-k-eq2
unfolding text_fits
returns-then-k-eq2 c = rw (eq-eqb _ _ c.if-k-eq2.true) (ap₂ (λ x y. leb (x + y) c.args.used) c.four_at.ensures.0 c.two_at.ensures.0)

pub two_at-size-requires : goal.two_at-size-requires
two_at-size-requires c = let q : body_of c.args.k ≡ 6 = body_name _ c.if-k-eq3.true in omega (arith, c.requires)

pub four_at-requires-then-k-eq3 : goal.four_at-requires-then-k-eq3
four_at-requires-then-k-eq3 c = let q : body_of c.args.k ≡ 6 = body_name _ c.if-k-eq3.true in omega (arith, c.requires)

pub returns-then-used-four_at : goal.returns-then-used-four_at
unfolding text_fits
returns-then-used-four_at c = let h : c.args.used < four c.args.b.now (c.args.at + 1) + two c.args.b.now (c.args.at + 5) = rw (c.four_at-then-k-eq3.ensures.0, c.two_at-size.ensures.0) at c.if-used-four_at.true in
    rw (ne_eqb _ _ c.if-k-eq2.false, eq-eqb _ _ c.if-k-eq3.true, lt-leb _ _ h)

pub returns-then-size-lt1 : goal.returns-then-size-lt1
unfolding text_fits
returns-then-size-lt1 c = let h : four c.args.b.now (c.args.at + 1) + two c.args.b.now (c.args.at + 5) ≤ c.args.used = rw (c.four_at-then-k-eq3.ensures.0, c.two_at-size.ensures.0) at c.if-used-four_at.false in
    let l : two c.args.b.now (c.args.at + 5) < 1 = rw c.two_at-size.ensures.0 at c.if-size-lt1.true in
    rw (ne_eqb _ _ c.if-k-eq2.false, eq-eqb _ _ c.if-k-eq3.true, le-leb _ _ h, lt-leb _ _ l)

pub returns-then-k-eq3 : goal.returns-then-k-eq3
unfolding text_fits
returns-then-k-eq3 c = let h : four c.args.b.now (c.args.at + 1) + two c.args.b.now (c.args.at + 5) ≤ c.args.used = rw (c.four_at-then-k-eq3.ensures.0, c.two_at-size.ensures.0) at c.if-used-four_at.false in
    let l : 1 ≤ two c.args.b.now (c.args.at + 5) = rw c.two_at-size.ensures.0 at c.if-size-lt1.false in
    rw (ne_eqb _ _ c.if-k-eq2.false, eq-eqb _ _ c.if-k-eq3.true, le-leb _ _ h, le-leb _ _ l) (ap (λ x. leb x 255) c.two_at-size.ensures.0)

pub returns : goal.returns
unfolding text_fits
returns c = rw (ne_eqb _ _ c.if-k-eq2.false, ne_eqb _ _ c.if-k-eq3.false)
