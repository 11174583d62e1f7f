-- Where folding is refused, and with what: at an operator of the tree, with 5, 6 or 7. Assumes nothing.
use mathlib.Core.Path.{◌≡◌, ap, subst, ◌∙◌}
use mathlib.Core.List.{[], ◌∷◌, ◌++◌, List}
use Prim.Native.Nat.{ℕ, ◌+◌, ◌≤◌, ◌<◌}
use native.Mathlib.Omega.{arith}
use lib.ListN.{length-append}
use Rattle.integers.specs.Outcome.{Outcome}
use Rattle.operators.specs.declared.Rules.{Rules}
use Rattle.conditions.specs.Ast.{Tree, unary, binary}
use Rattle.postfix.specs.Postfix.{bytes_of, width}
use Rattle.replacing.specs.Fold.{Folding, fold}
use Rattle.shortening.proofs.Ways.{Refuses, only, left, right, own_one, own_two, fold_refuses}
use Rattle.replacing.proofs.Results.{Reached, result_unary, result_binary}

-- a refusal's number and place, of a tree whose bytes begin at this offset
pub record Placed (at : ℕ) (t : Tree ℕ) (n p : ℕ) : Type 0 where
  pub from : at ≤ p
  pub before : p < at + width t
  pub least : 5 ≤ n
  pub most : n ≤ 7

-- a unary operator's byte stands after its operand's
width_one : (op : ℕ) (a : Tree ℕ) → width (unary op a) ≡ width a + 1
unfolding bytes_of
width_one op a = length-append (bytes_of a) (op ∷ [])

-- a two-sided one's after both
width_two : (op : ℕ) (a b : Tree ℕ) → width (binary op a b) ≡ width a + (width b + 1)
unfolding bytes_of
width_two op a b = length-append (bytes_of a) (bytes_of b ++ (op ∷ [])) ∙ ap (λ n. width a + n) (length-append (bytes_of b) (op ∷ []))

-- an operand's refusal lies within the tree
placed_in : {at at₁ n p : ℕ} {t a : Tree ℕ} → at ≤ at₁ → at₁ + width a ≤ at + width t → Placed at₁ a n p → Placed at t n p
placed_in l m q = record { from = omega (arith, q.from); before = omega (arith, q.before); least = q.least; most = q.most }

-- an operator's own refusal
placed_own : {at n p : ℕ} {t : Tree ℕ} {o : Outcome} → at ≤ p → p < at + width t → Reached o → o ≡ Outcome.refused n → Placed at t n p
placed_own l m r e = let q = (subst Reached e r).usual in record { from = l; before = m; least = q.0; most = q.1 }

-- whatever way a tree is refused
refuses_placed : (R : Rules) {at n p : ℕ} {t : Tree ℕ} → Refuses R at t n p → Placed at t n p
refuses_placed R (only {op = op} {a = a} h) = placed_in (omega arith) (omega (arith, width_one op a)) (refuses_placed R h)
refuses_placed R (left {op = op} {a = a} {b = b} h) = placed_in (omega arith) (omega (arith, width_two op a b)) (refuses_placed R h)
refuses_placed R (right {op = op} {a = a} {b = b} h) = placed_in (omega arith) (omega (arith, width_two op a b)) (refuses_placed R h)
refuses_placed R (own_one {op = op} {a = a} v e) = placed_own (omega arith) (omega (arith, width_one op a)) (result_unary R op v) e
refuses_placed R (own_two {op = op} {a = a} {b = b} v w e) = placed_own (omega arith) (omega (arith, width_two op a b)) (result_binary R op v w) e

-- a refused folding
pub fold_placed : (R : Rules) (at : ℕ) (t : Tree ℕ) (s : List ℕ) (n p : ℕ) → fold R at t s ≡ Folding.refused n p → Placed at t n p
fold_placed R at t s n p e = refuses_placed R (fold_refuses R at t s n p e)
