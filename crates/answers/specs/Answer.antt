-- The struct of four numbers for each answer of each call ("If an answer is an enum, a definition states this paper's number and values
-- for each of the enum's cases"). Assumes nothing: these are definitions.
use Rattle.std.specs.Prelude.{ℕ}
use Rattle.refusals.specs.Told.{told}
use Rattle.refusals.specs.declared.Refusal.{Refusal}
use Rattle.answers.specs.declared.Answer.{Answer}
use Rattle.std.specs.Prelude.{Result, Ok, Err}

-- an accepted call: number and place are 0
abbrev pub accepted : ℕ → ℕ → Answer
accepted value used = record { number = 0; place = 0; value = value; used = used }

-- a refused call: document 01's number and place, no value, and the mark as lent
abbrev pub refused_with : Refusal → ℕ → Answer
refused_with r used = record { number = (told r).number; place = (told r).place; value = 0; used = used }

-- bytes or rows written; the mark stays
abbrev pub of_written : ℕ → Result ℕ Refusal → Answer
of_written used (Ok n) = accepted n used
of_written used (Err r) = refused_with r used

-- the cell's word; the mark stays
abbrev pub of_evaluated : ℕ → Result ℕ Refusal → Answer
of_evaluated used (Ok word) = accepted word used
of_evaluated used (Err r) = refused_with r used

-- what was written and the mark after what was appended to the text
abbrev pub of_moved : ℕ → Result (ℕ × ℕ) Refusal → Answer
of_moved used (Ok (n, mark)) = accepted n mark
of_moved used (Err r) = refused_with r used

-- of `fold`: bytes written, and the mark after the texts that folding appended
abbrev pub of_shortened : ℕ → Result (ℕ × ℕ) Refusal → Answer
of_shortened = of_moved

-- of the calls that join column tables: words written, and the mark after the names that were appended
abbrev pub of_joined : ℕ → Result (ℕ × ℕ) Refusal → Answer
of_joined = of_moved
