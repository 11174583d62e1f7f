-- Which check stops `with`, and what is known where none of them does. Assumes nothing.
use mathlib.Core.Path.{◌≡◌, refl, ap, subst}
use mathlib.Core.List.{List, [], ◌∷◌}
use Prim.Native.Nat.{ℕ, ◌≤◌}
use native.Mathlib.Omega.{arith}
use native.Mathlib.Nat.{zero-add}
use lib.ListN.{length}
use Rattle.refusals.specs.Told.{told}
use Rattle.refusals.specs.Stop.{Stop, never, stop, counted_from, or_else}
use Rattle.refusals.specs.declared.Refusal.{Refusal}
use Rattle.refusals.proofs.First.{never_both}
use Rattle.refusals.proofs.Counting.{counted_never}
use Rattle.checks.specs.Check.{room_stop, output_stop}
use Rattle.checks.proofs.Turns.{output_there}
use Rattle.nodes.specs.declared.Allowed.TheVariants.{Mixed}
use Rattle.forms.specs.Form.{Parsed, tree, refusal, parsed, form_stop}
use Rattle.forms.specs.Held.{ScanIs}
use Rattle.postfix.proofs.Lengths.{parsed_length, parsed_place}
use Rattle.conjunction.specs.With.{old_stop, each_stop}
use Rattle.std.specs.Prelude.{Result, Err}

-- a stop counted from 0 is as it was
pub counted_zero : (s : Stop) → counted_from 0 s ≡ s
counted_zero never = refl
counted_zero (stop number place) = ap (stop number) (zero-add place)

-- where the scan refuses
module _ (used : ℕ) (b nodes : List ℕ) (x : Result ℕ Refusal) (s : ScanIs used b nodes x (parsed Mixed used b)) where
  denied : (r : Refusal) → x ≡ Err r → parsed Mixed used b ≡ refusal (told r).number (told r).place
  denied r e = subst (λ y. ScanIs used b nodes y (parsed Mixed used b)) e s

  pub scan_place : (r : Refusal) → x ≡ Err r → (told r).place ≤ 448
  scan_place r e = parsed_place Mixed used b _ _ (denied r e)

-- the old condition
module _ (used : ℕ) where
  form_short : (b : List ℕ) → form_stop (parsed Mixed used b) ≡ never → length b ≤ 448
  form_short b e = by (parsed Mixed used b) refl e
    where
      by : (p : Parsed) → parsed Mixed used b ≡ p → form_stop p ≡ never → length b ≤ 448
      by (tree t) q e = parsed_length Mixed used b t q
      by (refusal n p) q e = absurd (let z : ◌≡◌ {A = ℕ} 0 1 = cc in omega arith)

  pub whole_short : (b : List ℕ) → counted_from 0 (form_stop (parsed Mixed used b)) ≡ never → length b ≤ 448
  whole_short b e = form_short b (counted_never 0 _ e)

  pub old_short : (old : List ℕ) → old_stop used old ≡ never → length old ≤ 448
  old_short [] e = omega arith
  old_short (b ∷ old) e = form_short (b ∷ old) e

  -- what has been looked at where nothing stops each condition alone
  module _ (size output : ℕ) (old new : List ℕ) (e : each_stop size used output old new ≡ never) where
    after_room : or_else (output_stop output) (or_else (old_stop used old) (or_else (counted_from (length old) (form_stop (parsed Mixed used new))) never)) ≡ never
    after_room = (never_both (room_stop 0 size used) _ e).1

    after_output : or_else (old_stop used old) (or_else (counted_from (length old) (form_stop (parsed Mixed used new))) never) ≡ never
    after_output = (never_both (output_stop output) _ after_room).1

    -- each condition alone
    pub old_sound : old_stop used old ≡ never
    old_sound = (never_both (old_stop used old) _ after_output).0

    pub new_sound : form_stop (parsed Mixed used new) ≡ never
    new_sound = counted_never (length old) _ (never_both (counted_from (length old) (form_stop (parsed Mixed used new))) never (never_both (old_stop used old) _ after_output).1).0

    pub each_old : length old ≤ 448
    each_old = old_short old old_sound

    pub each_new : length new ≤ 448
    each_new = form_short new new_sound

    pub each_output : 448 ≤ output
    each_output = output_there output (never_both (output_stop output) _ after_room).0
