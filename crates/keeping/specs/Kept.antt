-- What is asked where the rows of one mark are written. Assumes nothing: these are definitions.
use Rattle.std.specs.Prelude.{ℕ, ◌≤◌, ◌≡◌, List, length}
use Rattle.marking.specs.RowList.{kept_from}
use Rattle.projecting.specs.Project.{has_mark, RowsAsked}

-- the list and the rows are sound and within their bounds, and so many rows have the mark
pub record KeptAsks (list rows marks : List ℕ) (width n mark count : ℕ) : Type 0 where
  pub asked : RowsAsked list rows marks width n
  pub few : n ≤ 4096
  pub narrow : width ≤ 32
  pub short : length list ≤ 32
  pub counted : count ≡ length (kept_from (has_mark marks mark) 0 n)
