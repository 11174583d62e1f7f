-- What a call that writes and moves the text's mark tells: `fold` and the columns of a join. Assumes nothing: these are definitions.
use Rattle.std.specs.Prelude.{ℕ}

-- what was written, counted, and the new mark, or a refusal's number and place
pub data Report : Type 0 where
  wrote : ℕ → ℕ → Report
  refused : ℕ → ℕ → Report
