-- Laws of the tables that hold a stack of trees. Assumes nothing.
use mathlib.Core.Path.{◌≡◌, refl, sym, ap, ap₂, ◌∙◌, subst}
use mathlib.Core.List.{List, [], ◌∷◌}
use Prim.Native.Nat.{ℕ, ◌+◌, ◌-◌, ◌*◌, ◌^◌, ◌/◌, ◌%◌, ◌≤◌, ◌<◌, max}
use native.Mathlib.Omega.{arith}
use native.Mathlib.Nat.{add-sub_cancel}
use lib.ListN.{length, get_or, set}
use lib.Seq.{get_or-set_same, get_or-set_other}
use borrow.Author.Tests.{le-leb, lt-leb}
use Rattle.conditions.specs.Ast.{Tree, leaf, unary, binary, height, size}
use Rattle.conditions.specs.Table.{node_of}
use Rattle.conditions.specs.declared.Node.TheVariants.{Leaf, One, Two}
use Rattle.conditions.proofs.NodeKind.{node_leaf, node_one, node_two}
use Rattle.conditions.proofs.Walk.{size_pos}
use Rattle.forms.specs.Form.{stop, on_one, on_two}
use Rattle.forms.specs.Held.{LeafHeld, Denotes, Held, Marks, StepIs}
use Rattle.std.specs.Prelude.{Ok}

-- the node of a unary operator's word
one_node : (k : ℕ) → 16 ≤ k → k < 32 → node_of (k * 2 ^ 56) ≡ One k
one_node k l u = let e : k * 2 ^ 56 / 2 ^ 56 ≡ k = omega arith in node_one (k * 2 ^ 56) (omega (arith, e, l)) (omega (arith, e, u)) ∙ ap One e

-- the node of a two-sided operator's word, whose body is x
two_node : (k x : ℕ) → 32 ≤ k → x < 2 ^ 56 → node_of (k * 2 ^ 56 + x) ≡ Two k x
two_node k x l u =
    let e : (k * 2 ^ 56 + x) / 2 ^ 56 ≡ k = omega arith in
    let f : (k * 2 ^ 56 + x) % 2 ^ 56 ≡ x = omega arith in
    node_two (k * 2 ^ 56 + x) (omega (arith, e, l)) ∙ ap₂ Two e f

-- the node of a leaf's word
pub leaf_node : (k x : ℕ) → k < 16 → x < 2 ^ 56 → node_of (k * 2 ^ 56 + x) ≡ Leaf (k * 2 ^ 56 + x)
leaf_node k x l u = node_leaf (k * 2 ^ 56 + x) (omega (arith, l, u))

-- a store at n is not seen below n
other : (l : List ℕ) (n k w : ℕ) → k < n → get_or (set l n w) k 0 ≡ get_or l k 0
other l n k w h = get_or-set_other l n k w 0 (omega arith)

-- a store at n changes no tree below n
pub denotes_set : (used : ℕ) (nodes : List ℕ) (n w k : ℕ) (t : Tree ℕ) → k < n → Denotes used nodes k t → Denotes used (set nodes n w) k t
unfolding Denotes
denotes_set used nodes n w k (leaf x) h d = (ap node_of (other nodes n k w h) ∙ d.0, d.1)
denotes_set used nodes n w k (unary op a) h d =
    (ap node_of (other nodes n k w h) ∙ d.0, d.1, d.2, denotes_set used nodes n w (k - 1) a (omega (arith, d.2)) d.3)
denotes_set used nodes n w k (binary op a b) h d = (
  d.0,
  ap node_of (other nodes n k w h) ∙ d.1,
  d.2,
  d.3,
  denotes_set used nodes n w d.0 a (omega (arith, d.3)) d.4,
  denotes_set used nodes n w (k - 1) b (omega (arith, d.3)) d.5,
)

-- trees below an index stay held when an entry is set there
pub held_set : (used : ℕ) (nodes starts deeps : List ℕ) (n w a e m : ℕ) (s : List (Tree ℕ)) → m ≤ n → Held used nodes starts deeps m s →
    Held used (set nodes n w) (set starts n a) (set deeps n e) m s
unfolding Held
held_set used nodes starts deeps n w a e m [] h d = d
held_set used nodes starts deeps n w a e m (t ∷ s) h d =
    let q : get_or (set starts n a) (m - 1) 0 ≡ get_or starts (m - 1) 0 = other starts n (m - 1) a (omega (arith, d.0)) in (
      d.0,
      ap (λ x. x + size t) q ∙ d.1,
      other deeps n (m - 1) e (omega (arith, d.0)) ∙ d.2,
      denotes_set used nodes n w (m - 1) t (omega (arith, d.0)) d.3,
      subst (λ x. Held used (set nodes n w) (set starts n a) (set deeps n e) x s) (sym q)
          (held_set used nodes starts deeps n w a e (get_or starts (m - 1) 0) s (omega (arith, d.1, size_pos t)) d.4),
    )

module _ (used : ℕ) (nodes starts deeps : List ℕ) (n : ℕ) (small : n < 64) (M : Marks starts deeps n) (long : length nodes ≡ 64) where
  -- a tree goes on the stack: its word at n, its start and its height
  pub held_push : (w a e : ℕ) (t : Tree ℕ) (s : List (Tree ℕ)) → a + size t ≡ n + 1 → e ≡ height t → Denotes used (set nodes n w) n t →
      Held used nodes starts deeps a s → Held used (set nodes n w) (set starts n a) (set deeps n e) (n + 1) (t ∷ s)
  unfolding Held
  held_push w a e t s p q d h =
      rw (add-sub_cancel n 1, get_or-set_same starts n a 0 (omega (arith, M.starts_long)), get_or-set_same deeps n e 0 (omega (arith, M.deeps_long)))
      (omega arith, p, q, d, held_set used nodes starts deeps n w a e a s (omega (arith, size_pos t)) h)

  -- the word that was stored
  stored : (w : ℕ) → get_or (set nodes n w) n 0 ≡ w
  stored w = get_or-set_same nodes n w 0 (omega arith)

  pub leaf_held : (w : ℕ) (s : List (Tree ℕ)) → node_of w ≡ Leaf w → LeafHeld used w → Held used nodes starts deeps n s →
      Held used (set nodes n w) (set starts n n) (set deeps n 1) (n + 1) (leaf w ∷ s)
  unfolding Denotes size height
  leaf_held w s e l h = held_push w n 1 (leaf w) s refl refl (ap node_of (stored w) ∙ e, l) h

  pub one_held : (k : ℕ) (a : Tree ℕ) (s : List (Tree ℕ)) → 16 ≤ k → k < 19 → Held used nodes starts deeps n (a ∷ s) →
      Held used (set nodes n (k * 2 ^ 56)) (set starts n (get_or starts (n - 1) 0)) (set deeps n (get_or deeps (n - 1) 0 + 1)) (n + 1) (unary k a ∷ s)
  unfolding Held Denotes size height
  one_held k a s l u h =
      let w : ℕ = k * 2 ^ 56 in
      held_push w (get_or starts (n - 1) 0) (get_or deeps (n - 1) 0 + 1) (unary k a) s (omega (arith, h.1)) (ap (λ x. x + 1) h.2)
      (ap node_of (stored w) ∙ one_node k l (omega arith), (l, u), h.0, denotes_set used nodes n w (n - 1) a (omega (arith, h.0)) h.3) h.4

  pub two_held : (k : ℕ) (a b : Tree ℕ) (s : List (Tree ℕ)) → 32 ≤ k → k < 50 → (h : Held used nodes starts deeps n (b ∷ (a ∷ s))) →
      Held used (set nodes n (k * 2 ^ 56 + (get_or starts (n - 1) 0 - 1))) (set starts n (get_or starts (get_or starts (n - 1) 0 - 1) 0))
      (set deeps n (max (get_or deeps (get_or starts (n - 1) 0 - 1) 0) (get_or deeps (n - 1) 0) + 1)) (n + 1) (binary k a b ∷ s)
  unfolding Held Denotes size height
  two_held k a b s l u h =
      let r : ℕ = get_or starts (n - 1) 0 in
      let w : ℕ = k * 2 ^ 56 + (r - 1) in
      held_push w (get_or starts (r - 1) 0) (max (get_or deeps (r - 1) 0) (get_or deeps (n - 1) 0) + 1) (binary k a b) s
      (omega (arith, h.1, h.4.1)) (ap₂ (λ x y. max x y + 1) h.4.2 h.2) (
        r - 1,
        ap node_of (stored w) ∙ two_node k (r - 1) l (omega (arith, h.1, small)),
        (l, u),
        omega (arith, h.1, size_pos b),
        denotes_set used nodes n w (r - 1) a (omega (arith, h.1, size_pos b)) h.4.3,
        denotes_set used nodes n w (n - 1) b (omega (arith, h.0)) h.3,
      ) h.4.4

  -- ---- the steps

  pub one_empty : (k next : ℕ) (s : List (Tree ℕ)) → n ≡ 0 → Held used nodes starts deeps n s → on_one k s next ≡ stop 1
  unfolding Held
  one_empty k next [] e h = refl
  one_empty k next (a ∷ s) e h = absurd (omega (arith, h.0))

  pub one_deep : (k next : ℕ) (s : List (Tree ℕ)) → (n ≡ 0 → ⊥) → 16 ≤ get_or deeps (n - 1) 0 → Held used nodes starts deeps n s → on_one k s next ≡ stop 2
  unfolding Held height
  one_deep k next [] e d h = absurd (e h)
  one_deep k next (a ∷ s) e d h = rw (lt-leb (height a + 1) 16 (omega (arith, h.2)))

  pub one_step : (k next : ℕ) (s : List (Tree ℕ)) → 16 ≤ k → k < 19 → (n ≡ 0 → ⊥) → get_or deeps (n - 1) 0 < 16 → Held used nodes starts deeps n s →
      StepIs used nodes starts deeps n (Ok (record { word = k * 2 ^ 56; start = get_or starts (n - 1) 0; deep = get_or deeps (n - 1) 0 + 1; next = next })) (on_one k s next)
  unfolding height
  one_step k next [] l u e d h = absurd (e (unfold Held in h))
  one_step k next (a ∷ s) l u e d h =
      let q : get_or deeps (n - 1) 0 ≡ height a = unfold Held in h.2 in
      (unary k a, s, rw (le-leb (height a + 1) 16 (omega arith)), one_held k a s l u h)

  pub two_empty : (k next : ℕ) (s : List (Tree ℕ)) → n ≡ 0 → Held used nodes starts deeps n s → on_two k s next ≡ stop 1
  unfolding Held
  two_empty k next [] e h = refl
  two_empty k next (b ∷ []) e h = absurd (omega (arith, h.0))
  two_empty k next (b ∷ (a ∷ s)) e h = absurd (omega (arith, h.0))

  pub two_single : (k next : ℕ) (s : List (Tree ℕ)) → (n ≡ 0 → ⊥) → get_or starts (n - 1) 0 ≡ 0 → Held used nodes starts deeps n s → on_two k s next ≡ stop 1
  unfolding Held
  two_single k next [] e r h = absurd (e h)
  two_single k next (b ∷ []) e r h = refl
  two_single k next (b ∷ (a ∷ s)) e r h = absurd (omega (arith, h.4.0))

  module _ (k next : ℕ) (s : List (Tree ℕ)) (e : n ≡ 0 → ⊥) (r : get_or starts (n - 1) 0 ≡ 0 → ⊥) (h : Held used nodes starts deeps n s) where
    abbrev higher : ℕ
    higher = max (get_or deeps (get_or starts (n - 1) 0 - 1) 0) (get_or deeps (n - 1) 0)

    pub two_deep : 16 ≤ higher → on_two k s next ≡ stop 2
    unfolding height
    two_deep d = by s h
      where
        by : (s : List (Tree ℕ)) → Held used nodes starts deeps n s → on_two k s next ≡ stop 2
        by [] h = absurd (e (unfold Held in h))
        by (b ∷ []) h = absurd (r (unfold Held in h.4))
        by (b ∷ (a ∷ s)) h =
            let q : higher ≡ max (height a) (height b) = unfold Held in ap₂ max h.4.2 h.2 in
            rw (lt-leb (max (height a) (height b) + 1) 16 (omega arith))

    pub two_step : 32 ≤ k → k < 50 → higher < 16 →
        StepIs used nodes starts deeps n (Ok (record { word = k * 2 ^ 56 + (get_or starts (n - 1) 0 - 1); start = get_or starts (get_or starts (n - 1) 0 - 1) 0; deep = higher + 1; next = next })) (on_two k s next)
    unfolding height
    two_step l u d = by s h
      where
        by : (s : List (Tree ℕ)) → Held used nodes starts deeps n s →
            StepIs used nodes starts deeps n (Ok (record { word = k * 2 ^ 56 + (get_or starts (n - 1) 0 - 1); start = get_or starts (get_or starts (n - 1) 0 - 1) 0; deep = higher + 1; next = next })) (on_two k s next)
        by [] h = absurd (e (unfold Held in h))
        by (b ∷ []) h = absurd (r (unfold Held in h.4))
        by (b ∷ (a ∷ s)) h =
            let q : higher ≡ max (height a) (height b) = unfold Held in ap₂ max h.4.2 h.2 in
            (binary k a b, s, rw (le-leb (max (height a) (height b) + 1) 16 (omega arith)), two_held k a b s l u h)
