-- Refusal 4 over the bytes of a tree: a node that is passed by. Assumes nothing.
use mathlib.Core.Path.{◌≡◌, ap, ◌∙◌}
use mathlib.Core.Bool.{false}
use mathlib.Core.List.{List, ◌∷◌}
use Prim.Native.Nat.{ℕ, suc, ◌+◌, ◌≤◌}
use native.Mathlib.Omega.{arith}
use native.Mathlib.Nat.{add-zero}
use lib.ListN.{length, drop, get_or}
use borrow.Author.Tests.{lt-ltb, ne_eqb}
use Rattle.nodes.specs.Kind.{body_of}
use Rattle.forms.specs.Number.{is_missing, numbers_stop}
use Rattle.postfix.proofs.Numbers.{one_drop}
use Rattle.postfix.proofs.Reading.{before, body_operator}

module _ (wide : ℕ) (b : List ℕ) where
  -- the node that stands next
  pub here : (at k : ℕ) (post : List ℕ) → drop at b ≡ k ∷ post → get_or b at 0 ≡ k
  here at k post e = one_drop b at ∙ ap (λ l. get_or l 0 0) e

  -- a node that is no missing column is passed by
  pub node_passed : (at k f : ℕ) (post : List ℕ) → drop at b ≡ k ∷ post → is_missing wide b at ≡ false → numbers_stop wide b (suc f) at ≡ numbers_stop wide b f (at + 1 + body_of k)
  unfolding numbers_stop
  node_passed at k f post e m = rw (lt-ltb at (length b) (before b at k post e), m, here at k post e)

  -- an operator is
  pub operator_passed : (at op f : ℕ) (post : List ℕ) → 16 ≤ op → drop at b ≡ op ∷ post → numbers_stop wide b (suc f) at ≡ numbers_stop wide b f (at + 1)
  operator_passed at op f post l e =
      node_passed at op f post e (rw (here at op post e, ne_eqb op 4 (λ q. omega arith)))
      ∙ ap (numbers_stop wide b f) (ap (λ n. at + 1 + n) (body_operator op l) ∙ add-zero (at + 1))
