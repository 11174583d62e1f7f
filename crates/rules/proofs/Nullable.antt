-- A rule made nullable is nullable, and keeps all else. Assumes nothing.
use mathlib.Core.Path.{◌≡◌, refl, sym, ap, ◌∙◌}
use mathlib.Core.Bool.{Bool, true, false}
use Prim.Native.Nat.{ℕ, ◌+◌, ◌*◌, ◌/◌, ◌%◌}
use native.Mathlib.Omega.{arith}
use borrow.Author.Tests.{eq-eqb, eqb-false}
use Rattle.rules.specs.Rule.{kind_of, is_nullable, is_key, bound_of, but_nullable}

-- what setting bit 8 leaves: the rule itself, or 256 more where the bit was 0
module _ (rule : ℕ) {X : Type 0} (kept : is_nullable rule ≡ true → but_nullable rule ≡ rule → X) (set : (rule / 256 % 2 ≡ 1 → ⊥) → but_nullable rule ≡ rule + 256 → X) where
  by_bit : X
  unfolding but_nullable
  by_bit = go (is_nullable rule) refl
    where
      go : (b : Bool) → is_nullable rule ≡ b → X
      go true e = kept e (rw e)
      go false e = set (eqb-false (rule / 256 % 2) 1 e) (rw e)

-- no bit above it is touched
no_carry : (rule : ℕ) → (rule / 256 % 2 ≡ 1 → ⊥) → (rule + 256) / 512 ≡ rule / 512
no_carry rule n =
    let even : rule / 256 ≡ 2 * (rule / 512) = omega arith in
    omega arith

high_bits : (x y : ℕ) → x / 512 ≡ y / 512 → x / 65536 ≡ y / 65536
high_bits x y e =
    let f : x / 65536 ≡ x / 512 / 128 = omega arith in
    let g : y / 65536 ≡ y / 512 / 128 = omega arith in
    f ∙ ap (λ n. n / 128) e ∙ sym g

module _ (rule : ℕ) where
  pub nullable_now : is_nullable (but_nullable rule) ≡ true
  nullable_now = by_bit rule (λ e f. rw f e) (λ n f. rw f (eq-eqb ((rule + 256) / 256 % 2) 1 (omega arith)))

  pub kind_kept : kind_of (but_nullable rule) ≡ kind_of rule
  kind_kept = by_bit rule (λ e f. rw f) (λ n f. rw f (omega arith))

  pub key_kept : is_key (but_nullable rule) ≡ is_key rule
  key_kept = by_bit rule (λ e f. rw f) (λ n f. rw (f, no_carry rule n))

  pub bound_kept : bound_of (but_nullable rule) ≡ bound_of rule
  bound_kept = by_bit rule (λ e f. rw f) (λ n f. rw (f, high_bits (rule + 256) rule (no_carry rule n)))
