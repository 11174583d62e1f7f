-- Two answers to one question on joined columns are the same, and so are the two outputs and the two texts below the mark that is told. Assumes nothing.
use mathlib.Core.Path.{◌≡◌, sym, ap, ap₂, ◌∙◌}
use mathlib.Core.List.{List}
use Prim.Native.Nat.{ℕ}
use lib.ListN.{length, take}
use Rattle.writing.proofs.Reports.{same_wrote, same_denied, wrote_apart}
use Rattle.naming.specs.OneSide.{Head}
use Rattle.heads.specs.Heads.{report_of, stored_after, HeadIs}
use Rattle.std.specs.Prelude.{Result, Ok, Err}
use Rattle.refusals.specs.declared.Refusal.{Refusal}

-- two answers that tell the same are the same
pub one_report : (a b : Result (ℕ × ℕ) Refusal) → report_of a ≡ report_of b → a ≡ b
one_report (Ok (n, m)) (Ok (n', m')) e = let q = same_wrote n m n' m' e in ap₂ (λ x y. Ok (x, y)) q.0 q.1
one_report (Ok (n, m)) (Err s) e = absurd (wrote_apart n m _ _ e)
one_report (Err r) (Ok (n, m)) e = absurd (wrote_apart n m _ _ (sym e))
one_report (Err r) (Err s) e = ap Err (same_denied r s e)

-- the answer, the output, and the text below the mark that is told
pub one_head : (h : Head) (stored after after' before-out after-out after-out' : List ℕ) (a b : Result (ℕ × ℕ) Refusal)
    → HeadIs h stored after before-out after-out a → HeadIs h stored after' before-out after-out' b
    → (a ≡ b) × (after-out ≡ after-out') × (take (length (stored_after h stored)) after ≡ take (length (stored_after h stored)) after')
one_head h stored after after' before-out after-out after-out' a b i j =
    (one_report a b (i.says ∙ sym j.says), i.output ∙ sym j.output, i.text ∙ sym j.text)
