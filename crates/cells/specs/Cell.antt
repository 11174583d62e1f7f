-- A cell's word (document 01, "Words and bytes"). Assumes nothing: these are definitions.
use Rattle.std.specs.Prelude.{ℕ, ◌+◌, ◌*◌, ◌^◌, ◌/◌, ◌%◌, ◌≤◌, ◌≡◌, Bool, false, not, cond, [], ◌∷◌, ltb, eqb}
use Rattle.std.specs.Int.{w32}
use Rattle.std.proofs.Common.{to_z, of_z}
use Rattle.refusals.specs.Stop.{Stop, never, stop_if, first_of}
use Rattle.cells.specs.declared.ValueRef.{ValueRef}
use Rattle.cells.specs.declared.ValueRef.TheVariants.{Null, Int, Str, Binary}

-- kind × 2^56 + body
abbrev pub kind_of : ℕ → ℕ
kind_of word = word / 2 ^ 56

-- the low 56 bits
abbrev pub body_of : ℕ → ℕ
body_of word = word % 2 ^ 56

-- how many bodies a kind has: Null and Binary the body 0, an Int its 32 bits, a text a start below 2^32 and a length of 16 bits
unfoldable pub bodies_of : ℕ → ℕ
bodies_of kind = cond (eqb kind 0) 1 (cond (eqb kind 1) (2 ^ 32) (cond (eqb kind 2) (2 ^ 48) (cond (eqb kind 3) 1 0)))

-- any other word is malformed
unfoldable pub is_cell : ℕ → Bool
is_cell word = ltb (body_of word) (bodies_of (kind_of word))

-- a text's start and length
abbrev pub start_of : ℕ → ℕ
start_of word = word / 65536 % 2 ^ 32

-- its length, the low 16 bits
abbrev pub length_of : ℕ → ℕ
length_of word = word % 65536

-- a text that ends beyond the mark
unfoldable pub reaches_beyond : ℕ → ℕ → Bool
reaches_beyond used word = cond (eqb (kind_of word) 2) (ltb used (start_of word + length_of word)) false

-- what a word is refused with: 8 if it is malformed, else 3 for a text beyond the mark
unfoldable pub cell_stop : ℕ → ℕ → ℕ → Stop
cell_stop used word place = first_of (stop_if (not (is_cell word)) 8 place ∷ stop_if (reaches_beyond used word) 3 place ∷ [])

-- a word that would get neither 8 nor 3
abbrev pub WellFormed : ℕ → ℕ → Type 0
WellFormed used word = cell_stop used word 0 ≡ never

-- the word of a cell
unfoldable pub word_of : ValueRef → ℕ
word_of Null = 0
word_of (Int number) = 1 * 2 ^ 56 + of_z w32 number
word_of (Str start length) = 2 * 2 ^ 56 + (start * 65536 + length)
word_of Binary = 3 * 2 ^ 56

-- the cell of a word; of a malformed one only the kind and the low bits count
unfoldable pub ref_of : ℕ → ValueRef
ref_of word =
    cond (eqb (kind_of word) 1) (Int (to_z w32 (word % 2 ^ 32)))
    (cond (eqb (kind_of word) 2) (Str (start_of word) (length_of word)) (cond (eqb (kind_of word) 3) Binary Null))

-- a cell whose text, if it is one, ends at or before the mark
unfoldable pub Inside : ℕ → ValueRef → Type 0
Inside used Null = Unit {0}
Inside used (Int number) = Unit {0}
Inside used (Str start length) = start + length ≤ used
Inside used Binary = Unit {0}
