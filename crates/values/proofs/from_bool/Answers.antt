-- `values::from_bool` meets its contract. Assumes nothing.
use Rattle.values.specs.Value.{to_value, from_bool}
use Rattle.values.proofs.from_bool.Goals as goal

pub returns-then-boolean : goal.returns-then-boolean
unfolding to_value from_bool
returns-then-boolean c = λ t. rw c.if-boolean.true

pub returns-else-boolean : goal.returns-else-boolean
unfolding to_value from_bool
returns-else-boolean c = λ t. rw c.if-boolean.false
