-- Checks that the calls share: the text, its mark and the room above it; the output's length; cells one after another. Assumes nothing: these are definitions.
use Rattle.std.specs.Prelude.{ℕ, suc, ◌+◌, List, [], ◌∷◌, ltb}
use Rattle.refusals.specs.Stop.{Stop, never, stop_if, or_else, first_of}
use Rattle.cells.specs.Cell.{cell_stop}

-- 10: a text over 65,536 bytes, a mark beyond the text, or less room above the mark than is needed
unfoldable pub room_stop : ℕ → ℕ → ℕ → Stop
room_stop needed size used =
    first_of (stop_if (ltb 65536 size) 10 0 ∷ stop_if (ltb size used) 10 0 ∷ stop_if (ltb size (used + needed)) 10 0 ∷ [])

-- 10: an output below 448 bytes, where a condition is written
abbrev pub output_stop : ℕ → Stop
output_stop output = stop_if (ltb output 448) 10 0

-- 9: an output shorter than the whole result, with what the result takes
abbrev pub short_stop : ℕ → ℕ → Stop
short_stop output needed = stop_if (ltb output needed) 9 needed

-- 8 and 3 over cells, words counted through, the first one having this place
unfoldable pub cells_stop : ℕ → ℕ → List ℕ → Stop
cells_stop used place [] = never
cells_stop used place (word ∷ words) = or_else (cell_stop used word place) (cells_stop used (suc place) words)
