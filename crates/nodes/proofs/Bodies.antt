-- Bodies by kind, and known kinds. Assumes nothing.
use mathlib.Core.Path.{◌≡◌, refl, sym, ◌∙◌}
use mathlib.Core.Bool.{Bool, true, false, cond}
use Prim.Native.Nat.{ℕ, ◌≤◌, ◌<◌}
use native.Mathlib.Omega.{arith}
use lib.Dec.{ltb, eqb}
use borrow.Author.Tests.{le-ltb, lt-ltb, ltb-true, ltb-false}
use Rattle.refusals.proofs.Bools.{true_false}
use Rattle.slices.proofs.Both.{both_true}
use Rattle.nodes.specs.Kind.{is_kind, known, allows, body_of}
use Rattle.nodes.specs.declared.Allowed.{Allowed}

module _ (k : ℕ) where
  pub body_int : k ≡ 1 → body_of k ≡ 4
  unfolding body_of
  body_int e = rw e

  pub body_text : k ≡ 2 → body_of k ≡ 6
  unfolding body_of
  body_text e = rw e

  pub body_name : k ≡ 3 → body_of k ≡ 6
  unfolding body_of
  body_name e = rw e

  pub body_column : k ≡ 4 → body_of k ≡ 1
  unfolding body_of
  body_column e = rw e

-- no body is longer than 6 bytes
pub body_short : (k : ℕ) → body_of k ≤ 6
unfolding body_of
body_short k = by (eqb k 1) (eqb k 2) (eqb k 3) (eqb k 4)
  where
    by : (x y z w : Bool) → cond x 4 (cond y 6 (cond z 6 (cond w 1 0))) ≤ 6
    by true y z w = omega arith
    by false true z w = omega arith
    by false false true w = omega arith
    by false false false true = omega arith
    by false false false false = omega arith

-- what a form allows is a kind of node
pub known_kind : (form : Allowed) (k : ℕ) → known form k ≡ true → is_kind k ≡ true
unfolding known
known_kind form k h = (both_true (is_kind k) (allows form k) h).0

-- the kinds between the leaves and the operators, and beyond, are none
leaf_gap : (k : ℕ) → 5 ≤ k → k < 16 → is_kind k ≡ false
unfolding is_kind
leaf_gap k l u = rw (le-ltb k 5 l, lt-ltb k 16 u)

one_gap : (k : ℕ) → 19 ≤ k → k < 32 → is_kind k ≡ false
unfolding is_kind
one_gap k l u = rw (le-ltb k 5 (omega arith), le-ltb k 16 (omega arith), le-ltb k 19 l, lt-ltb k 32 u)

above : (k : ℕ) → 50 ≤ k → is_kind k ≡ false
unfolding is_kind
above k h =
    rw (le-ltb k 5 (omega arith), le-ltb k 16 (omega arith), le-ltb k 19 (omega arith), le-ltb k 32 (omega arith), le-ltb k 47 (omega arith), le-ltb k 48 (omega arith), le-ltb k 50 h)

-- what is below a bound because it would be none otherwise
module _ (k n : ℕ) (h : is_kind k ≡ true) (gap : n ≤ k → is_kind k ≡ false) where
  bounded : k < n
  bounded = go (ltb k n) refl
    where
      go : (x : Bool) → ltb k n ≡ x → k < n
      go true e = ltb-true k n e
      go false e = true_false (sym h ∙ gap (ltb-false k n e))

module _ (form : Allowed) (k : ℕ) (h : known form k ≡ true) where
  pub known_below : k < 50
  known_below = bounded k 50 (known_kind form k h) (above k)

  pub known_one : k < 32 → k < 19
  known_one u = bounded k 19 (known_kind form k h) (λ l. one_gap k l u)

  pub known_leaf : k < 16 → k < 5
  known_leaf u = bounded k 5 (known_kind form k h) (λ l. leaf_gap k l u)
