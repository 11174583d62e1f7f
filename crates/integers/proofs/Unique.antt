-- Two answers that tell the same are the same, so every contract of this crate has one result. Assumes nothing.
use mathlib.Core.Path.{◌≡◌, refl, sym, ap, ◌∙◌}
use mathlib.Core.Bool.{cond}
use Prim.Native.Nat.{ℕ}
use lib.Dec.{eqb}
use Rattle.values.specs.Value.{Value}
use Rattle.integers.specs.Outcome.{Outcome, value, Reply, gave, number_of, reply_of}
use native.Mathlib.Omega.{arith}
use Rattle.std.specs.Prelude.{Result, Ok, Err}
use Rattle.integers.specs.declared.Fault.{Fault}
use Rattle.integers.specs.declared.Fault.TheVariants.{Overflow, ShiftAmount, TooLong}

-- the fault of a number
fault_of : ℕ → Fault
fault_of n = cond (eqb n 5) Overflow (cond (eqb n 6) ShiftAmount TooLong)

fault_back : (f : Fault) → fault_of (number_of f) ≡ f
unfolding fault_of
fault_back Overflow = refl
fault_back ShiftAmount = refl
fault_back TooLong = refl

-- two faults of one number are the same
pub one_fault : (f g : Fault) → number_of f ≡ number_of g → f ≡ g
one_fault f g e = sym (fault_back f) ∙ ap fault_of e ∙ fault_back g

-- no fault has the number 0
pub no_fault : (f : Fault) → number_of f ≡ 0 → ⊥
no_fault Overflow e = omega (arith, e)
no_fault ShiftAmount e = omega (arith, e)
no_fault TooLong e = omega (arith, e)

answer : Reply → Result (ℕ × ℕ) Fault
answer (gave word top) = Ok (word, top)
answer (Reply.refused n) = Err (fault_of n)

back : (a : Result (ℕ × ℕ) Fault) → answer (reply_of a) ≡ a
unfolding answer
back (Ok (word, top)) = refl
back (Err f) = ap Err (fault_back f)

-- two answers that tell the same are the same
pub one_answer : (a b : Result (ℕ × ℕ) Fault) → reply_of a ≡ reply_of b → a ≡ b
one_answer a b e = sym (back a) ∙ ap answer e ∙ back b

-- two equal outcomes give the same value
pub one_value : {v w : Value} → ◌≡◌ {A = Outcome} (value v) (value w) → v ≡ w
one_value e = cc

-- two equal replies give the same word
pub one_gave : {r s t u : ℕ} → ◌≡◌ {A = Reply} (gave r t) (gave s u) → r ≡ s
one_gave e = cc
