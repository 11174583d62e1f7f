-- `quick::evaluate` meets its contract. Assumes nothing.
use Rattle.quick.proofs.Walking.{found_answers}
use Rattle.quick.proofs.evaluate.Goals as goal

pub returns-clause-means : goal.returns-clause-means
returns-clause-means c = (found_answers _ _ _ _ _ _ _ _ c.requires _ c.in-Some.ensures).0
