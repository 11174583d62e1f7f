-- `straight::are_cells` meets its contract: where all cells are fine, each is well formed. Assumes nothing.
use Rattle.std.proofs.Common.{rules}
use Rattle.straight.proofs.Reading.{cells_passed}
use Rattle.straight.proofs.are_cells.Goals as goal

pub returns : goal.returns
returns c = λ e. cells_passed _ 0 _ (search rules)
