-- How long a condition can be, and how far on a refusal can stand: 64 nodes of at most 7 bytes. Assumes nothing.
use mathlib.Core.Path.{◌≡◌}
use mathlib.Core.List.{List, [], ◌∷◌}
use Prim.Native.Nat.{ℕ, ◌+◌, ◌*◌, ◌≤◌}
use native.Mathlib.Omega.{arith}
use lib.ListN.{length, get_or}
use Rattle.conditions.specs.Ast.{Tree}
use Rattle.nodes.specs.declared.Allowed.{Allowed}
use Rattle.nodes.proofs.Bodies.{body_short}
use Rattle.forms.specs.Form.{tree, refusal, go, finish, parsed}
use Rattle.postfix.proofs.Parsing.{node, parse_all, node_went}

module _ (form : Allowed) (used : ℕ) (b : List ℕ) where
  -- a node that goes on ends at most 7 bytes on
  node_short : (at : ℕ) (s s' : List (Tree ℕ)) (next : ℕ) → node form used b at s ≡ go s' next → next ≤ at + 7
  node_short at s s' next e = omega (arith, (node_went form used b at (get_or b at 0) s s' next e).after, body_short (get_or b at 0))

  -- a condition that is one has at most 448 bytes
  pub parsed_length : (t : Tree ℕ) → parsed form used b ≡ tree t → length b ≤ 448
  parsed_length t e = omega (
    arith,
    parse_all form used b (λ f at s r. (t : Tree ℕ) → r ≡ tree t → length b ≤ at + 7 * f)
        (λ at s h t e. absurd (let z : ◌≡◌ {A = ℕ} 0 1 = cc in omega arith))
        (λ f at s h t e. omega arith)
        (λ f at s n h q t e. absurd (let z : ◌≡◌ {A = ℕ} 0 1 = cc in omega arith))
        (λ f at s s' next r h q ih t e. omega (arith, ih t e, node_short at s s' next q)) 64 0 [] t e,
  )

  -- a refusal at the end of the bytes stands there
  finish_place : (s : List (Tree ℕ)) (at n p : ℕ) → finish s at ≡ refusal n p → p ≡ at
  finish_place [] at n p e = cc
  finish_place (t ∷ []) at n p e = absurd (let z : ◌≡◌ {A = ℕ} 0 1 = cc in omega arith)
  finish_place (t ∷ (u ∷ s)) at n p e = cc

  -- a refusal stands at most 448 bytes on
  pub parsed_place : (n p : ℕ) → parsed form used b ≡ refusal n p → p ≤ 448
  parsed_place n p e = omega (
    arith,
    parse_all form used b (λ f at s r. (n p : ℕ) → r ≡ refusal n p → p ≤ at + 7 * f)
        (λ at s h n p e. let q : at ≡ p = cc in omega arith)
        (λ f at s h n p e. omega (arith, finish_place s at n p e))
        (λ f at s m h q n p e. let q : at ≡ p = cc in omega arith)
        (λ f at s s' next r h q ih n p e. omega (arith, ih n p e, node_short at s s' next q)) 64 0 [] n p e,
  )
