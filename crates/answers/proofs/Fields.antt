-- The fields of a refused call's struct, and every field where it is known what a call comes to. Assumes nothing.
use mathlib.Core.Path.{◌≡◌, refl, ap, ◌∙◌}
use mathlib.Core.List.{List}
use Prim.Native.Nat.{ℕ}
use Rattle.refusals.specs.declared.Refusal.{Refusal}
use Rattle.refusals.specs.Stop.{Stop}
use Rattle.writing.specs.Writing as writing
use Rattle.writing.specs.Writing.{WrittenIs}
use Rattle.writing.specs.Marked as marked
use Rattle.replacing.specs.Fold.{Folding}
use Rattle.folding.specs.Call as folding
use Rattle.folding.specs.Call.{FoldIs}
use Rattle.heads.specs.Heads as heads
use Rattle.naming.specs.OneSide.{Head}
use Rattle.heads.specs.Heads.{HeadIs}
use Rattle.answers.specs.Answer.{accepted, of_written, of_shortened, of_joined}
use Rattle.answers.specs.Tells.{Tells}
use Rattle.answers.specs.declared.Answer.{Answer}
use Rattle.std.specs.Prelude.{Result, Ok, Err}

-- the struct of a refused call, by its number and place; the mark stays
abbrev pub stopped : ℕ → ℕ → ℕ → Answer
stopped used number place = record { number = number; place = place; value = 0; used = used }

-- ---- the struct by what is to be told: a count, and the mark where it moves, or a refusal's number and place

-- of a call that tells a count
abbrev pub of_report : ℕ → writing.Report → Answer
of_report used (writing.count n) = accepted n used
of_report used (writing.Report.refused number place) = stopped used number place

by_report : (used : ℕ) (a : Result ℕ Refusal) → of_written used a ≡ of_report used (writing.report_of a)
by_report used (Ok n) = refl
by_report used (Err r) = refl

-- every field of a writing call's struct, by its stop and its count
pub written_fields : (used : ℕ) (before after : List ℕ) (s : Stop) (n : ℕ) (result : List ℕ) (r : Answer)
    → Tells (Result ℕ Refusal) (of_written used) (λ w. WrittenIs before after w s n result) r → r ≡ of_report used (writing.report s n)
written_fields used before after s n result r h = h.says ∙ by_report used h.answer ∙ ap (of_report used) h.is.says

-- of a call that tells a count and where the mark is then
abbrev pub of_marked_report : ℕ → marked.Report → Answer
of_marked_report used (marked.wrote n mark) = accepted n mark
of_marked_report used (marked.Report.refused number place) = stopped used number place

by_shortened : (used : ℕ) (a : Result (ℕ × ℕ) Refusal) → of_shortened used a ≡ of_marked_report used (folding.report_of a)
by_shortened used (Ok (n, mark)) = refl
by_shortened used (Err r) = refl

-- every field of a folding call's struct, by what the folding comes to
pub shortened_fields : (used : ℕ) (f : Folding) (stored after before-out after-out : List ℕ) (r : Answer)
    → Tells (Result (ℕ × ℕ) Refusal) (of_shortened used) (λ a. FoldIs f stored after before-out after-out a) r → r ≡ of_marked_report used (folding.report f)
shortened_fields used f stored after before-out after-out r t = t.says ∙ by_shortened used t.answer ∙ ap (of_marked_report used) t.is.says

by_joined : (used : ℕ) (a : Result (ℕ × ℕ) Refusal) → of_joined used a ≡ of_marked_report used (heads.report_of a)
by_joined used (Ok (n, mark)) = refl
by_joined used (Err r) = refl

-- every field of the struct for a join's columns, by what they come to
pub joined_fields : (used : ℕ) (h : Head) (stored after before-out after-out : List ℕ) (r : Answer)
    → Tells (Result (ℕ × ℕ) Refusal) (of_joined used) (λ a. HeadIs h stored after before-out after-out a) r → r ≡ of_marked_report used (heads.report h)
joined_fields used h stored after before-out after-out r t = t.says ∙ by_joined used t.answer ∙ ap (of_marked_report used) t.is.says
