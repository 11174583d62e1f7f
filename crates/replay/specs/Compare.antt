-- What the comparisons of a replay tell (docs/CASES.md). Assumes nothing: these are definitions.
use Rattle.std.specs.Prelude.{ℕ, zero, suc, ◌+◌, ◌-◌, ◌*◌, ◌/◌, ◌%◌, Bool, false, cond, List, [], ◌∷◌, ◌++◌, length, eqb, leb}
use Rattle.refusals.specs.Told.{told}
use Rattle.slices.specs.Bytes.{both, same_bytes}
use Rattle.slices.specs.Splice.{piece}
use Rattle.cells.specs.Cell.{kind_of, start_of, length_of}
use Rattle.replay.specs.declared.Expected.{Expected}
use Rattle.std.specs.Prelude.{Result, Ok, Err}
use Rattle.refusals.specs.declared.Refusal.{Refusal}

-- an answer's four numbers are those expected
abbrev pub is_answer : Expected → ℕ → ℕ → ℕ → ℕ → Bool
is_answer e number place value used = both (eqb number e.number) (both (eqb place e.place) (both (eqb value e.value) (eqb used e.used)))

-- an answer of a call that writes is the one expected, its mark as lent
abbrev pub is_written : Expected → Result ℕ Refusal → ℕ → Bool
is_written e (Ok n) used = is_answer e 0 0 n used
is_written e (Err r) used = is_answer e (told r).number (told r).place 0 used

-- the word of rubbish at a place
abbrev pub rubbish_word : ℕ → ℕ → ℕ
rubbish_word rubbish at = at % 1000 * 7 + rubbish % 1000

-- the byte of rubbish at a place
abbrev pub rubbish_byte : ℕ → ℕ → ℕ
rubbish_byte rubbish at = rubbish_word rubbish at % 256

-- so many elements of rubbish from a place on
unfoldable pub rubbish_from : (ℕ → ℕ) → ℕ → ℕ → List ℕ
rubbish_from f at zero = []
rubbish_from f at (suc n) = f at ∷ rubbish_from f (suc at) n

-- an output of so many elements after a call: the result, then the rubbish that was lent
abbrev pub output_after : (ℕ → ℕ) → List ℕ → ℕ → List ℕ
output_after f result size = result ++ rubbish_from f (length result) (size - length result)

-- a text that was computed above the mark, by its content
abbrev pub holds_text : ℕ → List ℕ → ℕ → List ℕ → Bool
holds_text word text used content =
    both (eqb (kind_of word) 2)
    (both (leb used (start_of word)) (both (leb (start_of word + length_of word) (length text)) (same_bytes (piece (start_of word) (length_of word) text) content)))

-- a cell's word is the one expected; a computed text, told by the greatest start, is known by its content
abbrev pub is_word : Expected → ℕ → List ℕ → ℕ → List ℕ → Bool
is_word e word text used content = cond (eqb e.number 0) (cond (eqb (e.value / 65536) 2203318222847) (holds_text word text used content) (eqb word e.value)) false
