-- A check's answer, handed on before later checks are looked at, or passed by. Assumes nothing.
use mathlib.Core.Path.{◌≡◌, refl, sym, ap, ◌∙◌}
use mathlib.Core.Bool.{Bool, true, false}
use Prim.Native.Nat.{ℕ}
use native.Mathlib.Omega.{arith}
use Rattle.refusals.specs.Stop.{Stop, never, stop, stop_if, stop_of, checked_of, or_else}
use Rattle.refusals.specs.declared.Refusal.{Refusal}
use Rattle.std.specs.Prelude.{Result, Ok, Err, ⊤}
use Rattle.std.specs.Result.{IsErrAnd}
use Rattle.std.proofs.lemmas.Result.{err_from_is_err_and}

-- a check that refuses has the stop of its refusal
pub told_refused : (c : Result ⊤ Refusal) (r : Refusal) (s : Stop) → c ≡ Err r → checked_of c ≡ s → s ≡ stop_of r
told_refused c r s e f = sym f ∙ ap checked_of e

-- a check that finds all sound has no stop
pub told_sound : (c : Result ⊤ Refusal) (s : Stop) → c ≡ Ok tt → checked_of c ≡ s → s ≡ never
told_sound c s e f = sym f ∙ ap checked_of e

module _ (a : Result ⊤ Refusal) (s later : Stop) where
  -- a refusal is handed on
  pub refused_first : (r : Refusal) → a ≡ Err r → checked_of a ≡ s → checked_of a ≡ or_else s later
  refused_first r e f = ap checked_of e ∙ ap (λ x. or_else x later) (sym (told_refused a r s e f))

  -- a sound answer leaves the later checks
  pub sound_first : a ≡ Ok tt → checked_of a ≡ s → or_else s later ≡ later
  sound_first e f = ap (λ x. or_else x later) (told_sound a s e f)

-- what a `?` hands on: the refusal itself
pub at_err : {A : Type 0} {r : Result A Refusal} {e : Refusal} → IsErrAnd r (λ y. y ≡ e) → r ≡ Err e
at_err {A} {r} h = let p = err_from_is_err_and r h in p.1 ∙ ap Err p.2

-- a refusal handed on by `?` comes before the later checks
pub handed_on : (r : Result ⊤ Refusal) (e : Refusal) (s later : Stop) → IsErrAnd r (λ y. y ≡ e) → stop_of e ≡ s → checked_of r ≡ or_else s later
handed_on r e s later h k = ap checked_of (at_err h) ∙ ap (λ x. or_else x later) k

-- a sound answer leaves the later checks
pub passed_by : (s later : Stop) → never ≡ s → or_else s later ≡ later
passed_by s later k = ap (λ x. or_else x later) (sym k)

-- nothing stops where neither check does
pub never_both : (s later : Stop) → or_else s later ≡ never → (s ≡ never) × (later ≡ never)
never_both never later e = (refl, e)
never_both (stop n p) later e = absurd (let z : ◌≡◌ {A = ℕ} 0 1 = cc in omega arith)

-- a check behind which there is none
pub nothing_behind : (s : Stop) → or_else s never ≡ s
nothing_behind never = refl
nothing_behind (stop n p) = refl

-- checks in a row, however they are taken together
pub in_a_row : (a b c : Stop) → or_else (or_else a b) c ≡ or_else a (or_else b c)
in_a_row never b c = refl
in_a_row (stop n p) b c = refl

-- four and what follows them
pub four_in_a_row : (a b c d later : Stop) → or_else (or_else a (or_else b (or_else c d))) later ≡ or_else a (or_else b (or_else c (or_else d later)))
four_in_a_row a b c d later =
    in_a_row a (or_else b (or_else c d)) later ∙ ap (or_else a) (in_a_row b (or_else c d) later ∙ ap (or_else b) (in_a_row c d later))

-- the last of four, after the other three
pub last_of_four : (a b c d : Stop) → or_else a (or_else b (or_else c (or_else d never))) ≡ or_else (or_else a (or_else b (or_else c never))) d
last_of_four a b c d = ap (λ x. or_else a (or_else b (or_else c x))) (nothing_behind d) ∙ sym (four_in_a_row a b c never d)

-- a test that stops nothing fails
pub not_stopped : (b : Bool) (number place : ℕ) → stop_if b number place ≡ never → b ≡ false
not_stopped true number place e = absurd (let z : ◌≡◌ {A = ℕ} 0 1 = cc in omega arith)
not_stopped false number place e = refl

-- the first check that stops decides
pub first_stops : (s later : Stop) (r : Refusal) → s ≡ stop_of r → or_else s later ≡ stop_of r
first_stops s later r e = ap (λ x. or_else x later) e
