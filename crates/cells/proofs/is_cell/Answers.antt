-- `cells::is_cell` meets its contract. Assumes nothing.
use Rattle.cells.specs.Cell.{is_cell}
use Rattle.cells.proofs.is_cell.Goals as goal

pub returns : goal.returns
unfolding is_cell
returns c = rw c.bodies.ensures
