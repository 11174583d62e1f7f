-- What an exported call promises of the struct that it returns. Assumes nothing: these are definitions.
use Rattle.std.specs.Prelude.{◌≡◌}
use Rattle.answers.specs.declared.Answer.{Answer}

-- the struct has the fields of an answer that the call's own definition admits
pub record Tells (A : Type 0) (fields : A → Answer) (Is : A → Type 0) (r : Answer) : Type 0 where
  pub answer : A
  pub is : Is answer
  pub says : r ≡ fields answer
