-- Induction over `parse`, and what a node says that goes on. Assumes nothing.
use mathlib.Core.Path.{◌≡◌, refl}
use mathlib.Core.Bool.{Bool, true, false, cond}
use mathlib.Core.List.{List, [], ◌∷◌}
use Prim.Native.Nat.{ℕ, zero, suc, ◌+◌, ◌≤◌, ◌<◌}
use native.Mathlib.Omega.{arith}
use lib.ListN.{length, get_or}
use lib.Dec.{ltb, leb}
use borrow.Author.Tests.{ltb-true, ltb-false, leb-true}
use Rattle.conditions.specs.Ast.{Tree, leaf, unary, binary, height}
use Rattle.nodes.specs.Kind.{known, body_of, leaf_word, text_fits}
use Rattle.nodes.specs.declared.Allowed.{Allowed}
use Rattle.forms.specs.Form.{Parsed, refusal, Move, go, stop, pushed, on_one, on_two, node_at, finish, follow, parse}

module _ (form : Allowed) (used : ℕ) (b : List ℕ) where
  -- the node that stands at an offset
  abbrev pub node : ℕ → List (Tree ℕ) → Move
  node at s = node_at form used b at (get_or b at 0) s

  -- what holds at each way out and is kept by each node holds of the whole
  module _ (P : ℕ → ℕ → List (Tree ℕ) → Parsed → Type 0)
      (full : (at : ℕ) (s : List (Tree ℕ)) → at < length b → P 0 at s (refusal 2 at))
      (ended : (f at : ℕ) (s : List (Tree ℕ)) → length b ≤ at → P f at s (finish s at))
      (stops : (f at : ℕ) (s : List (Tree ℕ)) (n : ℕ) → at < length b → node at s ≡ stop n → P (suc f) at s (refusal n at))
      (goes : (f at : ℕ) (s s' : List (Tree ℕ)) (next : ℕ) (r : Parsed) → at < length b → node at s ≡ go s' next → P f next s' r → P (suc f) at s r) where
    pub parse_all : (f at : ℕ) (s : List (Tree ℕ)) → P f at s (parse form used b f at s)
    unfolding parse
    parse_all zero at s = by (ltb at (length b)) refl
      where
        by : (x : Bool) → ltb at (length b) ≡ x → P 0 at s (cond x (refusal 2 at) (finish s at))
        by true e = full at s (ltb-true _ _ e)
        by false e = ended 0 at s (ltb-false _ _ e)
    parse_all (suc f) at s = by (λ s' next. parse_all f next s') (ltb at (length b)) refl
      where
        rest : List (Tree ℕ) → ℕ → Parsed
        rest s' next = parse form used b f next s'

        by : ((s' : List (Tree ℕ)) (next : ℕ) → P f next s' (rest s' next)) → (x : Bool) → ltb at (length b) ≡ x → P (suc f) at s (cond x (follow (node at s) at rest) (finish s at))
        by h false e = ended (suc f) at s (ltb-false _ _ e)
        by h true e = through (node at s) refl
          where
            through : (m : Move) → node at s ≡ m → P (suc f) at s (follow m at rest)
            through (go s' next) q = goes f at s s' next _ (ltb-true _ _ e) q (h s' next)
            through (stop n) q = stops f at s n (ltb-true _ _ e) q

-- what became of the stack: a leaf was put on it, or the operands gave way to an operator over them
pub data Became (used : ℕ) (b : List ℕ) (at k : ℕ) (s s' : List (Tree ℕ)) : Type 0 where
  put : k < 16 → text_fits used b at k ≡ true → s' ≡ leaf (leaf_word b at k) ∷ s → Became used b at k s s'
  one : (a : Tree ℕ) (r : List (Tree ℕ)) → 16 ≤ k → k < 32 → s ≡ a ∷ r → s' ≡ unary k a ∷ r → height (unary k a) ≤ 16 → Became used b at k s s'
  two : (a c : Tree ℕ) (r : List (Tree ℕ)) → 32 ≤ k → s ≡ c ∷ (a ∷ r) → s' ≡ binary k a c ∷ r → height (binary k a c) ≤ 16 → Became used b at k s s'

-- a node of kind k that goes on
pub record Went (form : Allowed) (used : ℕ) (b : List ℕ) (at k : ℕ) (s s' : List (Tree ℕ)) (next : ℕ) : Type 0 where
  pub kind : known form k ≡ true
  pub inside : at + 1 + body_of k ≤ length b
  pub after : next ≡ at + 1 + body_of k
  pub became : Became used b at k s s'

-- a tree that went on the stack
pushed_went : (t : Tree ℕ) (s s' : List (Tree ℕ)) (n next : ℕ) → pushed t s n ≡ go s' next → (height t ≤ 16) × (s' ≡ t ∷ s) × (next ≡ n)
pushed_went t s s' n next e = by (leb (height t) 16) refl e
  where
    by : (x : Bool) → leb (height t) 16 ≡ x → cond x (go (t ∷ s) n) (stop 2) ≡ go s' next → (height t ≤ 16) × (s' ≡ t ∷ s) × (next ≡ n)
    by true q e = (leb-true _ _ q, cc, cc)
    by false q e = absurd (let z : ◌≡◌ {A = ℕ} 0 1 = cc in omega arith)

module _ (form : Allowed) (used : ℕ) (b : List ℕ) (at k : ℕ) (s s' : List (Tree ℕ)) (next : ℕ) where
  module _ (K : known form k ≡ true) (I : at + 1 + body_of k ≤ length b) where
    -- an operator over one operand
    one_went : 16 ≤ k → k < 32 → on_one k s (at + 1 + body_of k) ≡ go s' next → Went form used b at k s s' next
    one_went l u e = by s refl e
      where
        by : (r : List (Tree ℕ)) → s ≡ r → on_one k r (at + 1 + body_of k) ≡ go s' next → Went form used b at k s s' next
        by [] q e = absurd (let z : ◌≡◌ {A = ℕ} 0 1 = cc in omega arith)
        by (a ∷ r) q e =
            let p = pushed_went (unary k a) r s' (at + 1 + body_of k) next e in
            record { kind = K; inside = I; after = p.2; became = one a r l u q p.1 p.0 }

    -- an operator over two
    two_went : 32 ≤ k → on_two k s (at + 1 + body_of k) ≡ go s' next → Went form used b at k s s' next
    two_went l e = by s refl e
      where
        by : (r : List (Tree ℕ)) → s ≡ r → on_two k r (at + 1 + body_of k) ≡ go s' next → Went form used b at k s s' next
        by [] q e = absurd (let z : ◌≡◌ {A = ℕ} 0 1 = cc in omega arith)
        by (c ∷ []) q e = absurd (let z : ◌≡◌ {A = ℕ} 0 1 = cc in omega arith)
        by (c ∷ (a ∷ r)) q e =
            let p = pushed_went (binary k a c) r s' (at + 1 + body_of k) next e in
            record { kind = K; inside = I; after = p.2; became = two a c r l q p.1 p.0 }

    -- a leaf
    leaf_went : k < 16 → (x : Bool) → text_fits used b at k ≡ x → cond x (go (leaf (leaf_word b at k) ∷ s) (at + 1 + body_of k)) (stop 3) ≡ go s' next → Went form used b at k s s' next
    leaf_went l true q e = record { kind = K; inside = I; after = cc; became = put l q cc }
    leaf_went l false q e = absurd (let z : ◌≡◌ {A = ℕ} 0 1 = cc in omega arith)

  -- what a node says that goes on
  pub node_went : node_at form used b at k s ≡ go s' next → Went form used b at k s s' next
  unfolding node_at
  node_went e = by (known form k) refl (leb (at + 1 + body_of k) (length b)) refl (ltb k 16) refl (ltb k 32) refl e
    where
      by : (p : Bool) → known form k ≡ p → (q : Bool) → leb (at + 1 + body_of k) (length b) ≡ q → (x : Bool) → ltb k 16 ≡ x → (y : Bool) → ltb k 32 ≡ y
          → cond p (cond q (cond x (cond (text_fits used b at k) (go (leaf (leaf_word b at k) ∷ s) (at + 1 + body_of k)) (stop 3))
          (cond y (on_one k s (at + 1 + body_of k)) (on_two k s (at + 1 + body_of k)))) (stop 1)) (stop 1) ≡ go s' next
          → Went form used b at k s s' next
      by false K q I x f y g e = absurd (let z : ◌≡◌ {A = ℕ} 0 1 = cc in omega arith)
      by true K false I x f y g e = absurd (let z : ◌≡◌ {A = ℕ} 0 1 = cc in omega arith)
      by true K true I true f y g e = leaf_went K (leb-true _ _ I) (ltb-true _ _ f) (text_fits used b at k) refl e
      by true K true I false f true g e = one_went K (leb-true _ _ I) (ltb-false _ _ f) (ltb-true _ _ g) e
      by true K true I false f false g e = two_went K (leb-true _ _ I) (ltb-false _ _ g) e
