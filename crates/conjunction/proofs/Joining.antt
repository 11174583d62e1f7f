-- The joined bytes, written one condition after the other. Assumes nothing.
use mathlib.Core.Path.{◌≡◌, refl, sym, ap, ◌∙◌}
use mathlib.Core.List.{List, [], ◌∷◌, ◌++◌}
use Prim.Native.Nat.{ℕ, ◌+◌, ◌≤◌, ◌<◌}
use native.Mathlib.Omega.{arith}
use lib.ListN.{length, take, set, length-append}
use Rattle.slices.specs.Splice.{Wrote}
use Rattle.slices.proofs.Splice.{wrote_then, wrote_front, wrote_one}
use Rattle.refusals.specs.Stop.{never, stop_of, counted_from, or_else}
use Rattle.refusals.specs.declared.Refusal.{Refusal}
use Rattle.writing.specs.Writing.{WrittenIs}
use Rattle.nodes.specs.declared.Allowed.TheVariants.{Mixed}
use Rattle.forms.specs.Form.{parsed, form_stop}
use Rattle.conjunction.specs.With.{conjunction, each_stop, with_stop, WithIs}
use Rattle.conjunction.proofs.Stopping.{counted_zero}
use Rattle.std.specs.Prelude.{Result}

-- a conjunction has at most one byte more than the two conditions
pub conjunction_long : (old new : List ℕ) → length (conjunction old new) ≤ length old + length new + 1
conjunction_long [] new = omega arith
conjunction_long (b ∷ old) new = simp (length-append, length-append) (omega arith)

module _ (old new d e f : List ℕ) (p q : ℕ) (first : Wrote d 0 old p e) (second : Wrote e p new q f) where
  pub join_new : length old ≡ 0 → Wrote d 0 (conjunction old new) q f
  join_new h = by old h (wrote_then first second)
    where
      by : (old : List ℕ) → length old ≡ 0 → Wrote d 0 (old ++ new) q f → Wrote d 0 (conjunction old new) q f
      by [] h w = w
      by (b ∷ old) h w = absurd (let z : ⊥ = omega arith in z)

  pub join_both : (length old ≡ 0 → ⊥) → q < length f → Wrote d 0 (conjunction old new) (q + 1) (set f q 48)
  join_both h l = by old h (wrote_then first (wrote_then second (wrote_one f q 48 l)))
    where
      by : (old : List ℕ) → (length old ≡ 0 → ⊥) → Wrote d 0 (old ++ (new ++ (48 ∷ []))) (q + 1) (set f q 48) → Wrote d 0 (conjunction old new) (q + 1) (set f q 48)
      by [] h w = absurd (h refl)
      by (b ∷ old) h w = w

-- what was written at the start is the front of it
pub wrote_whole : {d s : List ℕ} {p : ℕ} {e : List ℕ} → Wrote d 0 s p e → take p e ≡ s
wrote_whole w = wrote_front w

-- the joined bytes decide, where each condition alone is sound
module _ (size used : ℕ) (old new before b : List ℕ) (e : each_stop size used (length before) old new ≡ never) (q : b ≡ conjunction old new) where
  whole_stop : with_stop size used (length before) old new ≡ counted_from 0 (form_stop (parsed Mixed used b))
  whole_stop = ap (λ s. or_else s (form_stop (parsed Mixed used (conjunction old new)))) e ∙ ap (λ l. form_stop (parsed Mixed used l)) (sym q) ∙ sym (counted_zero (form_stop (parsed Mixed used b)))

  pub whole_stops : (r : Refusal) → counted_from 0 (form_stop (parsed Mixed used b)) ≡ stop_of r → with_stop size used (length before) old new ≡ stop_of r
  whole_stops r h = whole_stop ∙ h

  pub with_written : (after : List ℕ) (a : Result ℕ Refusal) → counted_from 0 (form_stop (parsed Mixed used b)) ≡ never → WrittenIs before after a never (length b) b → WithIs size used old new before after a
  with_written after a h w = rw (whole_stop ∙ h, ← q) w
