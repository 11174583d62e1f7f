-- `quoting::has_high` meets its contract. Assumes nothing.
use mathlib.Core.Path.{◌∙◌}
use lib.Dec.{leb}
use Rattle.std.proofs.Common.{rules, tests}
use Rattle.std.proofs.lemmas.Iterator.{YieldsList-from_slice}
use Rattle.std.proofs.lemmas.Iterator.Search.{any_from_yields_List}
use Rattle.quoting.proofs.Quoting.{high_any}
use Rattle.quoting.proofs.has_high.Goals as goal

pub returns : goal.returns
returns c = any_from_yields_List (leb 128) _ _ _ c.any.ensures.ran (YieldsList-from_slice c.args.bytes.now c.iter.ensures.rest) (λ x b q k. search (rules, tests)) ∙ high_any c.args.bytes.now
