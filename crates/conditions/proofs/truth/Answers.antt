-- `conditions::truth` meets its contract. Assumes nothing.
use mathlib.Core.Path.{ap, ◌∙◌}
use lib.ListN.{length}
use Rattle.cells.specs.Cell.{Inside}
use Rattle.cells.proofs.Stops.{well_inside}
use Rattle.values.specs.Value.{to_value, to_bool}
use Rattle.conditions.proofs.truth.Goals as goal

pub returns : goal.returns
returns c = λ t h.
    let r = c.from.ensures in
    let i : Inside (length t) c.from.result = rw r (well_inside _ _ h) in
    c.to_bool.ensures t i ∙ ap (λ v. to_bool (to_value t v)) r
