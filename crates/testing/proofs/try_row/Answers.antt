-- `testing::try_row` meets its contract. Assumes nothing.
use mathlib.Core.Path.{sym}
use Rattle.testing.proofs.Testing.{stored_is, try_stands, tried_is}
use Rattle.testing.proofs.try_row.Goals as goal

pub slice_bounds-word_of-end : goal.slice_bounds-word_of-end
slice_bounds-word_of-end c = sym (stored_is _ _ _ _ _ c.requires.0.0 c.requires.0.1 c.requires.1)

pub word_of-requires : goal.word_of-requires
word_of-requires c = try_stands _ _ _ _ _ c.requires.0.0 c.requires.0.1 c.requires.1

pub returns : goal.returns
returns c = λ b A. tried_is _ _ _ _ _ b A c.requires.1 _ _ c.in_ok-word.ensures c.truth.ensures
