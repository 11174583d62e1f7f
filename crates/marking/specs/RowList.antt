-- Rows told by their numbers, over any test of a row: which are kept, their words, and the first refusal (document 01, "Row calls"; the loops of
-- Select::exec, Delete::exec and Update::exec). Assumes nothing: these are definitions.
use Rattle.std.specs.Prelude.{ℕ, zero, suc, Bool, false, not, cond, List, [], ◌∷◌, ◌++◌}
use Rattle.refusals.specs.Stop.{Stop, never, stop, or_else}
use Rattle.testing.specs.Test.{Tested, is, refuses}

-- a test of the row of a number
abbrev pub Test : Type 0
Test = ℕ → Tested

-- a refused test counts as not true
abbrev pub is_true : Tested → Bool
is_true (is b) = b
is_true (refuses number) = false

-- the numbers of the rows that are kept, of so many rows from a number on
unfoldable pub kept_from : (ℕ → Bool) → ℕ → ℕ → List ℕ
kept_from keeps i zero = []
kept_from keeps i (suc n) = cond (keeps i) (i ∷ kept_from keeps (suc i) n) (kept_from keeps (suc i) n)

-- the true rows in order; the other rows in order
abbrev pub true_rows : Test → ℕ → List ℕ
true_rows t n = kept_from (λ i. is_true (t i)) 0 n

-- the rows that are not true, which delete keeps
abbrev pub other_rows : Test → ℕ → List ℕ
other_rows t n = kept_from (λ i. not (is_true (t i))) 0 n

-- what one test refuses, at its row
abbrev pub stop_at : Tested → ℕ → Stop
stop_at (is b) i = never
stop_at (refuses number) i = stop number i

-- the first refusal in row order
unfoldable pub refused_from : Test → ℕ → ℕ → Stop
refused_from t i zero = never
refused_from t i (suc n) = or_else (stop_at (t i) i) (refused_from t (suc i) n)

-- the words of rows, one row after another
unfoldable pub words_of : (ℕ → List ℕ) → List ℕ → List ℕ
words_of row [] = []
words_of row (i ∷ numbers) = row i ++ words_of row numbers
