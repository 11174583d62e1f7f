-- Two results that satisfy an operator's contract are equal: the answer and the text after it. Assumes nothing.
use mathlib.Core.Path.{◌≡◌, sym, ◌∙◌}
use mathlib.Core.Bool.{Bool}
use mathlib.Core.List.{List}
use Prim.Native.Nat.{ℕ}
use lib.ListN.{length}
use Rattle.cells.specs.Cell.{WellFormed}
use Rattle.values.specs.Value.{value_of, from_bool}
use Rattle.integers.specs.Outcome.{Outcome, value, gave, placed, reply_of}
use Rattle.integers.proofs.Unique.{one_answer, one_gave}
use Rattle.operators.specs.Operator.{Applied, unary_of}
use Rattle.operators.specs.declared.Rules.{Rules}
use Rattle.std.specs.Prelude.{Result}
use Rattle.integers.specs.declared.Fault.{Fault}

-- flag
pub one_flag : (b : Bool) (r s : ℕ) → ((top : ℕ) → gave r top ≡ placed top (value (from_bool b)))
    → ((top : ℕ) → gave s top ≡ placed top (value (from_bool b))) → r ≡ s
one_flag b r s f g = one_gave (f 0 ∙ sym (g 0))

-- the two-sided operators
pub one_result : {before after after' : List ℕ} {top : ℕ} {r s : Result (ℕ × ℕ) Fault} {o : Outcome}
    → Applied before after top r o → Applied before after' top s o → (r ≡ s) × (after ≡ after')
one_result {r = r} {s = s} v w = (one_answer r s (v.reply ∙ sym w.reply), v.text ∙ sym w.text)

-- the unary ones, of a cell that is well formed in some text
pub one_unary : (R : Rules) (op a top : ℕ) (r s : Result (ℕ × ℕ) Fault) (stored : List ℕ) → WellFormed (length stored) a
    → ((stored : List ℕ) → WellFormed (length stored) a → reply_of r ≡ placed top (unary_of R op (value_of stored a)))
    → ((stored : List ℕ) → WellFormed (length stored) a → reply_of s ≡ placed top (unary_of R op (value_of stored a))) → r ≡ s
one_unary R op a top r s stored h f g = one_answer r s (f stored h ∙ sym (g stored h))
