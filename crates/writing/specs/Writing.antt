-- What a call that writes answers, and what it leaves in the output (document 01: "An accepted call writes its result at the start of
-- the output and nothing after it"). Assumes nothing: these are definitions.
use Rattle.std.specs.Prelude.{ℕ, ◌≤◌, ◌≡◌, List, length}
use Rattle.slices.specs.Splice.{splice}
use Rattle.refusals.specs.Told.{told}
use Rattle.refusals.specs.Stop.{Stop, never, stop}
use Rattle.std.specs.Prelude.{Result, Ok, Err}
use Rattle.refusals.specs.declared.Refusal.{Refusal}

-- a count, or a refusal's number and place
pub data Report : Type 0 where
  count : ℕ → Report
  refused : ℕ → ℕ → Report

-- what an answer tells
abbrev pub report_of : Result ℕ Refusal → Report
report_of (Ok n) = count n
report_of (Err r) = Report.refused (told r).number (told r).place

-- what is to be told of a call that wrote so much unless it was stopped
abbrev pub report : Stop → ℕ → Report
report never n = count n
report (stop number place) n = Report.refused number place

-- the output after it
abbrev pub output_after : Stop → List ℕ → List ℕ → List ℕ
output_after never before result = splice before 0 result
output_after (stop number place) before result = before

-- the whole of what such a call gives: its answer, and the output after it; an accepted call had room for its result
pub record WrittenIs (before after : List ℕ) (answer : Result ℕ Refusal) (s : Stop) (n : ℕ) (result : List ℕ) : Type 0 where
  pub says : report_of answer ≡ report s n
  pub output : after ≡ output_after s before result
  pub room : s ≡ never → length result ≤ length before
