-- A row's listed columns, and what is asked of the rows that are written (document 01, "Row calls"; Select::exec of query.rs). Assumes nothing: these are definitions.
use Rattle.std.specs.Prelude.{ℕ, suc, ◌*◌, ◌≤◌, ◌≡◌, Bool, List, [], ◌∷◌, map, length, get_or, leb, eqb}
use Rattle.refusals.specs.Stop.{Stop, never, stop_if, or_else}
use Rattle.marking.specs.RowList.{kept_from, words_of}
use Rattle.marking.specs.Marks.{part}

-- a row's listed columns in the list's order; an empty list means all
abbrev pub projected : List ℕ → List ℕ → List ℕ
projected [] row = row
projected (c ∷ list) row = map (λ i. get_or row i 0) (c ∷ list)

-- 4 at the index of the first entry that is no column, the first entry having this index
unfoldable pub list_stop : ℕ → ℕ → List ℕ → Stop
list_stop width index [] = never
list_stop width index (c ∷ list) = or_else (stop_if (leb width c) 4 index) (list_stop width (suc index) list)

-- whether a row has this mark
abbrev pub has_mark : List ℕ → ℕ → ℕ → Bool
has_mark marks mark i = eqb (get_or marks i 0) mark

-- the words of the rows that have this mark, projected
abbrev pub marked_words : List ℕ → List ℕ → ℕ → ℕ → List ℕ → ℕ → List ℕ
marked_words list rows width n marks mark = words_of (λ i. projected list (part rows width i)) (kept_from (has_mark marks mark) 0 n)

-- what is asked where rows are written: listed columns that are there, n whole rows, and a mark for each
pub record RowsAsked (list rows marks : List ℕ) (width n : ℕ) : Type 0 where
  pub listed : list_stop width 0 list ≡ never
  pub whole : length rows ≡ n * width
  pub marked : n ≤ length marks
