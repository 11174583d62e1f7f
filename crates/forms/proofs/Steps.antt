-- Laws of one step of the scan: which case of the definition holds. Assumes nothing.
use mathlib.Core.Path.{◌≡◌, sym, ap, ◌∙◌, subst}
use mathlib.Core.List.{List, ◌∷◌}
use mathlib.Core.Bool.{true, false}
use Prim.Native.Nat.{ℕ, ◌+◌, ◌≤◌, ◌<◌}
use native.Mathlib.Omega.{arith}
use lib.ListN.{length, get_or}
use borrow.Author.Tests.{lt-ltb, le-ltb, le-leb, lt-leb}
use Rattle.conditions.specs.Ast.{Tree, leaf}
use Rattle.forms.specs.Form.{go, stop, on_one, on_two, node_at}
use Rattle.nodes.specs.Kind.{known, body_of, leaf_word, text_fits}
use Rattle.nodes.specs.declared.Allowed.{Allowed}
use Rattle.forms.specs.Held.{Held, Marks, StepIs}
use Rattle.forms.proofs.Stack.{leaf_held}
use Rattle.forms.proofs.Words.{fine}
use Rattle.std.specs.Prelude.{Result, Ok}
use Rattle.forms.specs.declared.Step.{Step}
use Rattle.refusals.specs.declared.Refusal.{Refusal}

module _ (form : Allowed) (used at : ℕ) (b : List ℕ) (k : ℕ) (e : k ≡ get_or b at 0) (s : List (Tree ℕ)) where
  pub unknown : known form k ≡ false → node_at form used b at (get_or b at 0) s ≡ stop 1
  unfolding node_at
  unknown h = rw (← e, h)

  module _ (h : known form k ≡ true) where
    pub cut : length b < at + 1 + body_of k → node_at form used b at (get_or b at 0) s ≡ stop 1
    unfolding node_at
    cut l = rw (← e, h, lt-leb (at + 1 + body_of k) (length b) l)

    module _ (l : at + 1 + body_of k ≤ length b) where
      pub to_two : 32 ≤ k → node_at form used b at (get_or b at 0) s ≡ on_two k s (at + 1 + body_of k)
      unfolding node_at
      to_two u = rw (← e, h, le-leb (at + 1 + body_of k) (length b) l, le-ltb k 16 (omega arith), le-ltb k 32 u)

      pub to_one : 16 ≤ k → k < 32 → node_at form used b at (get_or b at 0) s ≡ on_one k s (at + 1 + body_of k)
      unfolding node_at
      to_one u v = rw (← e, h, le-leb (at + 1 + body_of k) (length b) l, le-ltb k 16 u, lt-ltb k 32 v)

      pub text_out : k < 16 → text_fits used b at k ≡ false → node_at form used b at (get_or b at 0) s ≡ stop 3
      unfolding node_at
      text_out u f = rw (← e, h, le-leb (at + 1 + body_of k) (length b) l, lt-ltb k 16 u, f)

      pub to_leaf : k < 16 → text_fits used b at k ≡ true → node_at form used b at (get_or b at 0) s ≡ go (leaf (leaf_word b at k) ∷ s) (at + 1 + body_of k)
      unfolding node_at
      to_leaf u f = rw (← e, h, le-leb (at + 1 + body_of k) (length b) l, lt-ltb k 16 u, f)

      pub leaf_step : (nodes starts deeps : List ℕ) (n next w : ℕ) → n < 64 → Marks starts deeps n → length nodes ≡ 64 → ((i : ℕ) → get_or b i 0 < 256) →
          k < 16 → text_fits used b at k ≡ true → next ≡ at + 1 + body_of k → w ≡ leaf_word b at k → Held used nodes starts deeps n s →
          StepIs used nodes starts deeps n (Ok (record { word = w; start = n; deep = 1; next = next })) (node_at form used b at (get_or b at 0) s)
      leaf_step nodes starts deeps n next w small M long B u f p q d =
          let g = fine form used at b B k u h f in
          rw (q, p) (leaf (leaf_word b at k), s, to_leaf u f, leaf_held used nodes starts deeps n small M long (leaf_word b at k) s g.0 g.1 d)

      -- a step of an operator, from what it says of its own case
      pub two_is : (nodes starts deeps : List ℕ) (n body : ℕ) (r : Result Step Refusal) → body ≡ body_of k → 32 ≤ k →
          StepIs used nodes starts deeps n r (on_two k s (at + 1 + body)) → StepIs used nodes starts deeps n r (node_at form used b at (get_or b at 0) s)
      two_is nodes starts deeps n body r q u p =
          subst (StepIs used nodes starts deeps n r) (ap (λ x. on_two k s (at + 1 + x)) q ∙ sym (to_two u)) p

      pub one_is : (nodes starts deeps : List ℕ) (n body : ℕ) (r : Result Step Refusal) → body ≡ body_of k → 16 ≤ k → k < 32 →
          StepIs used nodes starts deeps n r (on_one k s (at + 1 + body)) → StepIs used nodes starts deeps n r (node_at form used b at (get_or b at 0) s)
      one_is nodes starts deeps n body r q u v p =
          subst (StepIs used nodes starts deeps n r) (ap (λ x. on_one k s (at + 1 + x)) q ∙ sym (to_one u v)) p
