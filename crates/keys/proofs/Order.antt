-- Rows compared by key: an order up to equal keys, reflexive, antisymmetric and transitive. Assumes nothing.
use mathlib.Core.Path.{◌≡◌, refl, ap, ap₂, ◌∙◌}
use mathlib.Core.Bool.{Bool, true, false}
use mathlib.Core.List.{List, [], ◌∷◌}
use native.Mathlib.Omega.{arith}
use lib.ListN.{length}
use Rattle.std.specs.declared.cmp.Ordering.TheVariants.{Less, Equal, Greater}
use Rattle.values.specs.Value.{Value}
use Rattle.values.specs.Order.{order}
use Rattle.values.proofs.Ordered.{order_self}
use Rattle.keys.specs.Key.{then_by, by_keys}
use Rattle.keys.proofs.Chains.{flip, Chain, flip_then, chain_then}
use Rattle.keys.proofs.Values.{order_turned, order_chain}

-- a row has its own key
pub keys_self : (keys : List Bool) (v : List Value) → by_keys keys v v ≡ Equal
unfolding by_keys
keys_self [] v = refl
keys_self (k ∷ keys) [] = refl
keys_self (true ∷ keys) (a ∷ v) = rw (order_self a) (keys_self keys v)
keys_self (false ∷ keys) (a ∷ v) = keys_self keys v

-- two rows the other way round
pub keys_turned : (keys : List Bool) (v w : List Value) → by_keys keys w v ≡ flip (by_keys keys v w)
unfolding by_keys
keys_turned [] v w = refl
keys_turned (k ∷ keys) [] [] = refl
keys_turned (k ∷ keys) [] (b ∷ w) = refl
keys_turned (k ∷ keys) (a ∷ v) [] = refl
keys_turned (true ∷ keys) (a ∷ v) (b ∷ w) = ap₂ then_by (order_turned a b) (keys_turned keys v w) ∙ flip_then (order a b) (by_keys keys v w)
keys_turned (false ∷ keys) (a ∷ v) (b ∷ w) = keys_turned keys v w

-- ---- antisymmetric

module _ (keys : List Bool) (v w : List Value) where
  -- Less one way is Greater the other
  pub less_greater : by_keys keys v w ≡ Less → by_keys keys w v ≡ Greater
  less_greater e = keys_turned keys v w ∙ ap flip e

  -- Greater one way is Less the other
  pub greater_less : by_keys keys v w ≡ Greater → by_keys keys w v ≡ Less
  greater_less e = keys_turned keys v w ∙ ap flip e

  -- Equal is so both ways
  pub equal_turned : by_keys keys v w ≡ Equal → by_keys keys w v ≡ Equal
  equal_turned e = keys_turned keys v w ∙ ap flip e

-- ---- transitive

-- three rows of one length
keys_chain : (keys : List Bool) (v w x : List Value) → length v ≡ length w → length w ≡ length x → Chain (by_keys keys v w) (by_keys keys w x) (by_keys keys v x)
unfolding by_keys
keys_chain [] v w x m n = refl
keys_chain (k ∷ keys) [] [] [] m n = refl
keys_chain (k ∷ keys) [] [] (c ∷ x) m n = absurd (let z : ⊥ = omega arith in z)
keys_chain (k ∷ keys) [] (b ∷ w) x m n = absurd (let z : ⊥ = omega arith in z)
keys_chain (k ∷ keys) (a ∷ v) [] x m n = absurd (let z : ⊥ = omega arith in z)
keys_chain (k ∷ keys) (a ∷ v) (b ∷ w) [] m n = absurd (let z : ⊥ = omega arith in z)
keys_chain (true ∷ keys) (a ∷ v) (b ∷ w) (c ∷ x) m n =
    chain_then (order a b) (order b c) (order a c) (by_keys keys v w) (by_keys keys w x) (by_keys keys v x) (order_chain a b c)
    (keys_chain keys v w x (omega arith) (omega arith))
keys_chain (false ∷ keys) (a ∷ v) (b ∷ w) (c ∷ x) m n = keys_chain keys v w x (omega arith) (omega arith)

module _ (keys : List Bool) (v w x : List Value) (m : length v ≡ length w) (n : length w ≡ length x) where
  -- each link Less or Equal: Less across, Equal where both are
  pub less_less : by_keys keys v w ≡ Less → by_keys keys w x ≡ Less → by_keys keys v x ≡ Less
  less_less e f = let h : Chain Less Less (by_keys keys v x) = rw (e, f) at (keys_chain keys v w x m n) in h

  pub less_equal : by_keys keys v w ≡ Less → by_keys keys w x ≡ Equal → by_keys keys v x ≡ Less
  less_equal e f = let h : Chain Less Equal (by_keys keys v x) = rw (e, f) at (keys_chain keys v w x m n) in h

  pub equal_less : by_keys keys v w ≡ Equal → by_keys keys w x ≡ Less → by_keys keys v x ≡ Less
  equal_less e f = let h : Chain Equal Less (by_keys keys v x) = rw (e, f) at (keys_chain keys v w x m n) in h

  pub equal_equal : by_keys keys v w ≡ Equal → by_keys keys w x ≡ Equal → by_keys keys v x ≡ Equal
  equal_equal e f = let h : Chain Equal Equal (by_keys keys v x) = rw (e, f) at (keys_chain keys v w x m n) in h
