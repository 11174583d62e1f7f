-- Every row of a table tested by a condition, before anything is written. Assumes nothing: these are definitions.
use Rattle.std.specs.Prelude.{ℕ, zero, suc, ◌*◌, ◌≤◌, ◌<◌, ◌≡◌, true, cond, List, [], ◌∷◌, length, take, get_or}
use Rattle.refusals.specs.Stop.{Stop, never, stop_of, or_else}
use Rattle.slices.specs.Splice.{piece, splice}
use Rattle.checks.specs.Check.{room_stop, cells_stop}
use Rattle.operators.specs.declared.Rules.{Rules}
use Rattle.evaluation.specs.Evaluation.{is_row_length}
use Rattle.testing.specs.Test.{test, room_for, Ready}
use Rattle.marking.specs.RowList.{Test, is_true, true_rows, refused_from}
use Rattle.std.specs.Prelude.{Result, Ok, Err}
use Rattle.refusals.specs.declared.Refusal.{Refusal}

-- the row of a number
abbrev pub part : List ℕ → ℕ → ℕ → List ℕ
part rows width i = piece (i * width) width rows

-- a condition as a test of the rows of a table
abbrev pub test_of : Rules → List ℕ → ℕ → List ℕ → List ℕ → ℕ → Test
test_of R b used stored rows width i = test R b used stored (part rows width i)

-- 1 for a true row, 0 for any other, from a number on
unfoldable pub flags_from : Test → ℕ → ℕ → List ℕ
flags_from t i zero = []
flags_from t i (suc n) = cond (is_true (t i)) 1 0 ∷ flags_from t (suc i) n

-- what is asked of a table of n whole rows: room for the condition, sound cells, and a mark for each row
pub record TableAsks (b : List ℕ) (used n width : ℕ) (rows text marks : List ℕ) : Type 0 where
  pub room : room_stop (room_for b) (length text) used ≡ never
  pub wide : is_row_length width ≡ true
  pub whole : length rows ≡ n * width
  pub cells : (place : ℕ) → cells_stop used place rows ≡ never
  pub few : n ≤ 4096
  pub space : n ≤ length marks

-- the same, of a condition that is prepared
pub record MarkAsks (b : List ℕ) (used count n width : ℕ) (nodes rows text marks : List ℕ) : Type 0 where
  pub bytes : (i : ℕ) → get_or b i 0 < 256
  pub long : length nodes ≡ 64
  pub ready : Ready used width nodes count b
  pub table : TableAsks b used n width rows text marks

-- every row is marked and the true ones are counted, or what stops it: what stopped it before the rows, then the first in row order
abbrev pub Says : Stop → Test → ℕ → List ℕ → List ℕ → Result ℕ Refusal → Type 0
Says s t n before after (Ok k) = (or_else s (refused_from t 0 n) ≡ never) × (k ≡ length (true_rows t n)) × (after ≡ splice before 0 (flags_from t 0 n))
Says s t n before after (Err r) = or_else s (refused_from t 0 n) ≡ stop_of r

-- the rows marked, by a condition that is prepared; text below the mark is as it was
pub record MarkedIs (t : Test) (n used : ℕ) (text text' marks marks' : List ℕ) (r : Result ℕ Refusal) : Type 0 where
  pub kept : take used text' ≡ take used text
  pub says : Says never t n marks marks' r
