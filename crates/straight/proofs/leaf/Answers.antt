-- `straight::leaf` meets its contract. Assumes nothing.
use mathlib.Core.Path.{refl, sym, ◌∙◌}
use Rattle.nodes.specs.Kind.{body_of, text_fits}
use Rattle.straight.proofs.Reading.{read_literal}
use native.Mathlib.Omega.{arith}
use Rattle.straight.proofs.leaf.Goals as goal

pub leaf_word-requires : goal.leaf_word-requires
unfolding body_of
leaf_word-requires c = (omega (arith, c.if-b-at-lt5.false, c.requires.0), omega arith)

pub returns-then-k-eq1 : goal.returns-then-k-eq1
unfolding body_of text_fits
returns-then-k-eq1 c = rw c.if-k-eq1.true (read_literal c.args.used c.args.at c.args.b.now c.args.row.now (λ i. (c.type_inv.b i).fits) 1 _ (c.requires.1 ∙ c.if-k-eq1.true) (omega arith) (omega (arith, c.if-b-at-lt5.false, c.requires.0)) refl c.leaf_word.ensures)

pub text_fits-requires : goal.text_fits-requires
unfolding body_of
text_fits-requires c = omega (arith, c.if-b-at-lt7.false, c.requires.0)

pub leaf_word-requires-then-text_fits : goal.leaf_word-requires-then-text_fits
unfolding body_of
leaf_word-requires-then-text_fits c = (omega (arith, c.if-b-at-lt7.false, c.requires.0), omega arith)

pub returns-then-text_fits : goal.returns-then-text_fits
unfolding body_of
returns-then-text_fits c = rw c.if-k-eq2.true (read_literal c.args.used c.args.at c.args.b.now c.args.row.now (λ i. (c.type_inv.b i).fits) 2 _ (c.requires.1 ∙ c.if-k-eq2.true) (omega arith) (omega (arith, c.if-b-at-lt7.false, c.requires.0)) (sym c.text_fits.ensures ∙ c.if-text_fits.true) c.leaf_word-then-text_fits.ensures)

pub leaf_word-requires-then-k-eq0 : goal.leaf_word-requires-then-k-eq0
unfolding body_of
leaf_word-requires-then-k-eq0 c = (omega (arith, c.requires.0), omega arith)

pub returns-then-k-eq0 : goal.returns-then-k-eq0
unfolding body_of text_fits
returns-then-k-eq0 c = rw c.if-k-eq0.true (read_literal c.args.used c.args.at c.args.b.now c.args.row.now (λ i. (c.type_inv.b i).fits) 0 _ (c.requires.1 ∙ c.if-k-eq0.true) (omega arith) (omega (arith, c.requires.0)) refl c.leaf_word-then-k-eq0.ensures)
