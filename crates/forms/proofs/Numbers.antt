-- Refusal 4 from an offset on: a turn of a loop over the nodes, and its ends. Assumes nothing.
use mathlib.Core.Path.{◌≡◌, refl, ap, ◌∙◌}
use mathlib.Core.Bool.{true, false}
use mathlib.Core.List.{List}
use Prim.Native.Nat.{ℕ, zero, suc, ◌+◌, ◌-◌, ◌≤◌, ◌<◌}
use native.Mathlib.Omega.{arith}
use lib.ListN.{length, get_or}
use borrow.Author.Tests.{lt-ltb, le-ltb}
use Rattle.refusals.specs.Stop.{never, stop}
use Rattle.nodes.specs.Kind.{body_of}
use Rattle.forms.specs.Number.{is_missing, numbers_stop}

module _ (width : ℕ) (b : List ℕ) where
  pub numbers_end : (f at : ℕ) → length b ≤ at → numbers_stop width b f at ≡ never
  unfolding numbers_stop
  numbers_end zero at h = refl
  numbers_end (suc f) at h = rw (le-ltb at (length b) h)

  pub numbers_full : (n at : ℕ) → n ≡ 64 → numbers_stop width b (64 - n) at ≡ never
  unfolding numbers_stop
  numbers_full n at e = rw e

  module _ (n at : ℕ) (few : n ≤ 64) (e : n ≡ 64 → ⊥) (h : at < length b) where
    more : 64 - n ≡ suc (64 - (n + 1))
    more = omega arith

    pub numbers_found : is_missing width b at ≡ true → numbers_stop width b (64 - n) at ≡ stop 4 at
    unfolding numbers_stop
    numbers_found m = ap (λ f. numbers_stop width b f at) more ∙ rw (lt-ltb at (length b) h, m)

    pub numbers_turn : is_missing width b at ≡ false → numbers_stop width b (64 - n) at ≡ numbers_stop width b (64 - (n + 1)) (at + 1 + body_of (get_or b at 0))
    unfolding numbers_stop
    numbers_turn m = ap (λ f. numbers_stop width b f at) more ∙ rw (lt-ltb at (length b) h, m)
