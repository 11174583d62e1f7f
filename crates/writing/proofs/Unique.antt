-- Two answers of a call that writes are the same, and so are the two outputs. Assumes nothing.
use mathlib.Core.Path.{◌≡◌, sym, ap, ◌∙◌}
use mathlib.Core.List.{List}
use Prim.Native.Nat.{ℕ}
use Rattle.refusals.specs.Stop.{Stop}
use Rattle.writing.specs.Writing.{report_of, WrittenIs}
use Rattle.writing.proofs.Reports.{same_count, same_refused, count_apart}
use Rattle.std.specs.Prelude.{Result, Ok, Err}
use Rattle.refusals.specs.declared.Refusal.{Refusal}

-- two answers that tell the same are the same
one_report : (a b : Result ℕ Refusal) → report_of a ≡ report_of b → a ≡ b
one_report (Ok n) (Ok m) e = ap Ok (same_count n m e)
one_report (Ok n) (Err s) e = absurd (count_apart n _ _ e)
one_report (Err r) (Ok m) e = absurd (count_apart m _ _ (sym e))
one_report (Err r) (Err s) e = ap Err (same_refused r s e)

-- the answer and the output
pub one_writing : (before after after' : List ℕ) (a b : Result ℕ Refusal) (s : Stop) (n : ℕ) (result : List ℕ)
    → WrittenIs before after a s n result → WrittenIs before after' b s n result → (a ≡ b) × (after ≡ after')
one_writing before after after' a b s n result h k = (one_report a b (h.says ∙ sym k.says), h.output ∙ sym k.output)
