-- Two structs that a call may return for the same question are the same, and so are the buffers that it wrote, but for what
-- docs/EXCEPTIONS.md lists. Over what the calls have in common, so once for all of a kind. Assumes nothing.
use mathlib.Core.Path.{◌≡◌, refl, sym, ap, ap₂, ◌∙◌}
use mathlib.Core.List.{List}
use Prim.Native.Nat.{ℕ}
use lib.ListN.{length, take}
use Rattle.refusals.specs.Stop.{Stop}
use Rattle.writing.specs.Writing.{WrittenIs}
use Rattle.writing.proofs.Unique.{one_writing}
use Rattle.values.proofs.ByWord.{value_null}
use Rattle.operators.specs.declared.Rules.{Rules}
use Rattle.evaluation.specs.Evaluation.{EvaluatedIs}
use Rattle.evaluation.proofs.Unique.{Alike, Same, one_evaluation}
use Rattle.replacing.specs.Fold.{Folding}
use Rattle.folding.specs.Call.{FoldIs, stored_after}
use Rattle.folding.proofs.Unique.{one_fold}
use Rattle.heads.specs.Heads as heads
use Rattle.naming.specs.OneSide.{Head}
use Rattle.heads.specs.Heads.{HeadIs}
use Rattle.heads.proofs.Unique.{one_head}
use Rattle.answers.specs.Answer.{of_written, of_evaluated, of_shortened, of_joined}
use Rattle.answers.specs.Tells.{Tells}
use Rattle.answers.specs.Row.{PartIs}
use Rattle.answers.specs.declared.Answer.{Answer}
use Rattle.answers.specs.declared.Part.{Part}
use Rattle.std.specs.Prelude.{Result, Ok, Err}
use Rattle.refusals.specs.declared.Refusal.{Refusal}

-- one answer makes one struct
module _ (A : Type 0) (fields : A → Answer) (P Q : A → Type 0) (r s : Answer) where
  pub one_struct : (h : Tells A fields P r) (k : Tells A fields Q s) → h.answer ≡ k.answer → r ≡ s
  one_struct h k e = h.says ∙ ap fields e ∙ sym k.says

-- bind, with, print, and every call that writes rows
module _ (used : ℕ) (before after after' : List ℕ) (s : Stop) (n : ℕ) (result : List ℕ) (r r' : Answer) where
  pub one_written : Tells (Result ℕ Refusal) (of_written used) (λ w. WrittenIs before after w s n result) r
      → Tells (Result ℕ Refusal) (of_written used) (λ w. WrittenIs before after' w s n result) r' → (r ≡ r') × (after ≡ after')
  one_written h k =
      let e = one_writing before after after' h.answer k.answer s n result h.is k.is in
      (one_struct (Result ℕ Refusal) (of_written used) (λ w. WrittenIs before after w s n result) (λ w. WrittenIs before after' w s n result) r r' h k e.0, e.1)

-- fold: the struct, the output, and the text below the mark that it tells
module _ (used : ℕ) (f : Folding) (stored after after' before-out after-out after-out' : List ℕ) (r r' : Answer) where
  pub one_folded : Tells (Result (ℕ × ℕ) Refusal) (of_shortened used) (λ a. FoldIs f stored after before-out after-out a) r
      → Tells (Result (ℕ × ℕ) Refusal) (of_shortened used) (λ a. FoldIs f stored after' before-out after-out' a) r'
      → (r ≡ r') × (after-out ≡ after-out') × (take (length (stored_after f stored)) after ≡ take (length (stored_after f stored)) after')
  one_folded h k =
      let e = one_fold f stored after after' before-out after-out after-out' h.answer k.answer h.is k.is in
      (one_struct (Result (ℕ × ℕ) Refusal) (of_shortened used) (λ a. FoldIs f stored after before-out after-out a) (λ a. FoldIs f stored after' before-out after-out' a) r r' h k e.0, e.1, e.2)

-- the joining of columns likewise
module _ (used : ℕ) (f : Head) (stored after after' before-out after-out after-out' : List ℕ) (r r' : Answer) where
  pub one_joined : Tells (Result (ℕ × ℕ) Refusal) (of_joined used) (λ a. HeadIs f stored after before-out after-out a) r
      → Tells (Result (ℕ × ℕ) Refusal) (of_joined used) (λ a. HeadIs f stored after' before-out after-out' a) r'
      → (r ≡ r') × (after-out ≡ after-out') × (take (length (heads.stored_after f stored)) after ≡ take (length (heads.stored_after f stored)) after')
  one_joined h k =
      let e = one_head f stored after after' before-out after-out after-out' h.answer k.answer h.is k.is in
      (one_struct (Result (ℕ × ℕ) Refusal) (of_joined used) (λ a. HeadIs f stored after before-out after-out a) (λ a. HeadIs f stored after' before-out after-out' a) r r' h k e.0, e.1, e.2)

-- evaluate: the values may differ in the start of a computed text
pub record OneEvaluated (b : List ℕ) (used : ℕ) (after after' : List ℕ) (r r' : Answer) : Type 0 where
  pub number : r.number ≡ r'.number
  pub place : r.place ≡ r'.place
  pub value : Alike b used after after' r.value r'.value
  pub mark : r.used ≡ r'.used
  pub kept : take used after ≡ take used after'

module _ (b : List ℕ) (used : ℕ) (after after' : List ℕ) (kept : take used after ≡ take used after') where
  one_fields : (e e' : Result ℕ Refusal) → Same b used after after' e e' → OneEvaluated b used after after' (of_evaluated used e) (of_evaluated used e')
  one_fields (Ok w) (Ok w') s = record { number = refl; place = refl; value = s; mark = refl; kept = kept }
  one_fields (Ok w) (Err q) s = absurd s
  one_fields (Err p) (Ok w') s = absurd s
  one_fields (Err p) (Err q) s = record {
    number = ap (λ x. (of_evaluated used (Err x)).number) s;
    place = ap (λ x. (of_evaluated used (Err x)).place) s;
    value = record { content = value_null after ∙ sym (value_null after'); exact = λ n. refl; leaf = λ t e o. refl };
    mark = refl;
    kept = kept;
  }

module _ (R : Rules) (b row before after after' : List ℕ) (used : ℕ) (r r' : Answer) where
  pub one_evaluated : Tells (Result ℕ Refusal) (of_evaluated used) (λ e. EvaluatedIs R b row before after used e) r
      → Tells (Result ℕ Refusal) (of_evaluated used) (λ e. EvaluatedIs R b row before after' used e) r' → OneEvaluated b used after after' r r'
  one_evaluated h k =
      let e = one_evaluation R b row before after after' used h.answer k.answer h.is k.is in
      rw (h.says, k.says) (one_fields b used after after' e.0 h.answer k.answer e.1)

-- two parts with one start and one length
one_record : (p q : Part) → p.start ≡ q.start → p.length ≡ q.length → p ≡ q
one_record p q s l = ap₂ (λ a b. record { start = a; length = b }) s l

-- row: one part
pub one_part : (rows : List ℕ) (width number : ℕ) (p q : Part) → PartIs rows width number p → PartIs rows width number q → p ≡ q
one_part rows width number p q h k = one_record p q (h.begins ∙ sym k.begins) (h.long ∙ sym k.long)
