-- `printing::is_unprintable` meets its contract. Assumes nothing.
use mathlib.Core.Path.{sym, ◌∙◌}
use native.Mathlib.Nat.{add-sub_cancel_left}
use native.Mathlib.Omega.{arith}
use Rattle.printing.proofs.Texts.{body_inside, word_ends, word_high}
use Rattle.printing.proofs.is_unprintable.Goals as goal

pub leaf_word-word-requires : goal.leaf_word-word-requires
leaf_word-word-requires c = (body_inside c.args.stored.now c.args.b.now c.args.at (sym c.wide.ensures.0 ∙ c.if-wide-ne2.false) c.requires.1, omega arith)

pub slice_bounds-has_high-end : goal.slice_bounds-has_high-end
slice_bounds-has_high-end c = word_ends c.args.b.now (λ i. (c.type_inv.b i).fits) c.args.at c.args.stored.now c.leaf_word-word.result c.leaf_word-word.ensures (sym c.wide.ensures.0 ∙ c.if-wide-ne2.false) c.requires.1

pub returns : goal.returns
returns c = word_high c.args.b.now (λ i. (c.type_inv.b i).fits) c.args.at c.args.stored.now c.leaf_word-word.result c.leaf_word-word.ensures (sym c.wide.ensures.0 ∙ c.if-wide-ne2.false) c.has_high.result (rw add-sub_cancel_left at c.has_high.ensures)
