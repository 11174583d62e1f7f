-- `forms::scan_node` meets its contract. Assumes nothing.
use mathlib.Core.Path.{◌≡◌, sym, ap, ◌∙◌}
use Prim.Native.Nat.{◌+◌}
use Rattle.nodes.specs.Kind.{body_of}
use Rattle.nodes.proofs.Bodies.{known_below, known_one}
use Rattle.forms.proofs.Steps.{unknown, cut, text_out, leaf_step, two_is, one_is}
use native.Mathlib.Omega.{arith}
use Rattle.forms.proofs.scan_node.Goals as goal

pub returns-then-not-is_known-clause-is : goal.returns-then-not-is_known-clause-is
returns-then-not-is_known-clause-is c = λ nodes s l h. unknown _ _ _ _ _ c.wide-k.ensures.0 s (sym c.is_known.ensures ∙ c.if-not-is_known.true)

pub returns-then-b-at-clause-is : goal.returns-then-b-at-clause-is
returns-then-b-at-clause-is c = λ nodes s l h. cut _ _ _ _ _ c.wide-k.ensures.0 s (sym c.is_known.ensures ∙ c.if-not-is_known.false)
    (let q : c.body_of-body.result ≡ body_of c.wide-k.result = c.body_of-body.ensures in omega (arith, c.if-b-at.true, c.requires.0))

pub scan_two-requires : goal.scan_two-requires
scan_two-requires c = ((c.if-k-ge32.true, known_below _ _ (sym c.is_known.ensures ∙ c.if-not-is_known.false)), c.requires.1)

pub returns-then-k-ge32-clause-is : goal.returns-then-k-ge32-clause-is
returns-then-k-ge32-clause-is c = λ nodes s l h. two_is c.args.form c.args.used c.args.at c.args.b.now c.wide-k.result c.wide-k.ensures.0 s
    (sym c.is_known.ensures ∙ c.if-not-is_known.false)
    (let q : c.body_of-body.result ≡ body_of c.wide-k.result = c.body_of-body.ensures in omega (arith, c.if-b-at.false, c.requires.0))
    nodes c.args.starts.now c.args.deeps.now c.args.n _ c.scan_two.result c.body_of-body.ensures c.if-k-ge32.true (c.scan_two.ensures.is _ nodes s l h)

pub scan_one-requires : goal.scan_one-requires
scan_one-requires c = ((c.if-k-ge16.true, known_one _ _ (sym c.is_known.ensures ∙ c.if-not-is_known.false) c.if-k-ge32.false), c.requires.1)

pub returns-then-k-ge16-clause-is : goal.returns-then-k-ge16-clause-is
returns-then-k-ge16-clause-is c = λ nodes s l h. one_is c.args.form c.args.used c.args.at c.args.b.now c.wide-k.result c.wide-k.ensures.0 s
    (sym c.is_known.ensures ∙ c.if-not-is_known.false)
    (let q : c.body_of-body.result ≡ body_of c.wide-k.result = c.body_of-body.ensures in omega (arith, c.if-b-at.false, c.requires.0))
    nodes c.args.starts.now c.args.deeps.now c.args.n _ c.scan_one.result c.body_of-body.ensures c.if-k-ge16.true c.if-k-ge32.false (c.scan_one.ensures.is _ nodes s l h)

pub returns-then-not-text_fits-clause-is : goal.returns-then-not-text_fits-clause-is
returns-then-not-text_fits-clause-is c = λ nodes s l h. text_out _ _ _ _ _ c.wide-k.ensures.0 s (sym c.is_known.ensures ∙ c.if-not-is_known.false)
    (let q : c.body_of-body.result ≡ body_of c.wide-k.result = c.body_of-body.ensures in omega (arith, c.if-b-at.false, c.requires.0)) c.if-k-ge16.false
    (sym c.text_fits.ensures ∙ c.if-not-text_fits.true)

pub returns-clause-is : goal.returns-clause-is
returns-clause-is c = λ nodes s l h. leaf_step _ _ _ _ _ c.wide-k.ensures.0 s (sym c.is_known.ensures ∙ c.if-not-is_known.false)
    (let q : c.body_of-body.result ≡ body_of c.wide-k.result = c.body_of-body.ensures in omega (arith, c.if-b-at.false, c.requires.0))
    nodes _ _ _ _ _ c.requires.1.0 c.requires.1.1 l (λ i. (c.type_inv.b i).fits) c.if-k-ge16.false (sym c.text_fits.ensures ∙ c.if-not-text_fits.false)
    (ap (λ x. c.args.at + 1 + x) c.body_of-body.ensures) c.leaf_word.ensures h
