-- What an operator comes to, and what an answer of the code tells. Assumes nothing: these are definitions.
use Rattle.std.specs.Prelude.{ℕ, ◌+◌, length}
use Rattle.cells.specs.Cell.{word_of}
use Rattle.cells.specs.declared.ValueRef.{ValueRef}
use Rattle.cells.specs.declared.ValueRef.TheVariants.{Null, Int, Str, Binary}
use Rattle.values.specs.Value.{Value, null, int, str, binary}
use Rattle.std.specs.Prelude.{Result, Ok, Err}
use Rattle.integers.specs.declared.Fault.{Fault}
use Rattle.integers.specs.declared.Fault.TheVariants.{Overflow, ShiftAmount, TooLong}

-- a value, or a refusal by its number; the place is the caller's to tell
pub data Outcome : Type 0 where
  value : Value → Outcome
  refused : ℕ → Outcome

-- a cell's word with the top of the text after it, or a refusal's number
pub data Reply : Type 0 where
  gave : ℕ → ℕ → Reply
  refused : ℕ → Reply

-- document 01's number of a fault
abbrev pub number_of : Fault → ℕ
number_of Overflow = 5
number_of ShiftAmount = 6
number_of TooLong = 7

-- what an answer tells
abbrev pub reply_of : Result (ℕ × ℕ) Fault → Reply
reply_of (Ok (word, top)) = gave word top
reply_of (Err fault) = refused (number_of fault)

-- the cell of a value, a new text standing at the top
abbrev pub cell_at : ℕ → Value → ValueRef
cell_at top null = Null
cell_at top (int number) = Int number
cell_at top (str bytes) = Str top (length bytes)
cell_at top binary = Binary

-- by how much a value raises the top: a text by its length
abbrev pub rise : Value → ℕ
rise null = 0
rise (int number) = 0
rise (str bytes) = length bytes
rise binary = 0

-- what an operator's outcome is told as, where the top of the text was this
unfoldable pub placed : ℕ → Outcome → Reply
placed top (value v) = gave (word_of (cell_at top v)) (top + rise v)
placed top (refused number) = refused number
