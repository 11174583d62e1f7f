-- The laws of the walk: what a tree asks of its operands, and how the operands' parts make the whole one. Assumes nothing.
use mathlib.Core.Path.{◌≡◌, refl, ap, ◌∙◌}
use mathlib.Core.List.{List, [], ◌∷◌, ◌++◌, append_assoc}
use Prim.Native.Nat.{ℕ, ◌+◌, ◌-◌, ◌*◌, ◌≤◌, ◌<◌}
use native.Mathlib.Omega.{arith}
use native.Mathlib.Numerals.{add-one}
use lib.ListN.{length, take, set, get_or, length-append}
use lib.Seq.{take-suc-set}
use Rattle.refusals.specs.Stop.{stop_of}
use Rattle.refusals.specs.declared.Refusal.{Refusal}
use Rattle.conditions.specs.Ast.{Tree, leaf, unary, binary, map_tree, size}
use Rattle.conditions.specs.Table.{node_of}
use Rattle.conditions.specs.declared.Node.TheVariants.{Leaf, One, Two}
use Rattle.forms.specs.Held.{LeafHeld}
use Rattle.forms.proofs.Denoting.{OneAt, TwoAt, leaf_at, one_at, two_at, leaf_size, one_size, one_height, two_size, two_height, right_below}
use Rattle.postfix.specs.Postfix.{bytes_of, width}
use Rattle.postfix.proofs.Reading.{width_size}
use Rattle.numbering.specs.Number.{bind_leaf, names_stop}
use Rattle.numbering.specs.Asked.{LeafAsks}
use Rattle.numbering.specs.Walk.{BindAsks, Binds}
use Rattle.std.specs.Prelude.{Result, Ok, Err}

-- binding changes no count
pub size_map : {A B : Type 0} (f : A → B) (t : Tree A) → size (map_tree f t) ≡ size t
unfolding size map_tree
size_map f (leaf x) = refl
size_map f (unary op a) = ap (λ n. n + 1) (size_map f a)
size_map f (binary op a b) = omega (arith, size_map f a, size_map f b)

-- a bound tree takes at most 7 bytes a node
pub bound_width : (stored columns : List ℕ) (t : Tree ℕ) → width (map_tree (bind_leaf stored columns) t) ≤ 7 * size t
bound_width stored columns t = omega (arith, width_size (map_tree (bind_leaf stored columns) t), size_map (bind_leaf stored columns) t)

-- one more byte after what stands before it
operator_list : (before after s : List ℕ) (end e op : ℕ) → e < length after → take e after ≡ take end before ++ s
    → take (e + 1) (set after e op) ≡ take end before ++ (s ++ (op ∷ []))
operator_list before after s end e op h w = rw (add-one, take-suc-set) (ap (λ l. l ++ (op ∷ [])) w ∙ append_assoc (take end before) s (op ∷ []))

module _ {stored columns nodes before : List ℕ} {k depth at end : ℕ} {t : Tree ℕ} (A : BindAsks stored columns nodes before k depth at end t) where
  module _ {w : ℕ} (e : node_of (get_or nodes k 0) ≡ Leaf w) where
    -- the tree is the leaf
    is_leaf : (t ≡ leaf w) × LeafHeld (length stored) w
    is_leaf = leaf_at (length stored) k nodes t w A.held e

    -- what the leaf asks
    pub leaf_asks : LeafAsks stored columns before w at end
    leaf_asks =
        let q = leaf_size is_leaf.0 in
        record { sound = A.sound; few = A.few; held = is_leaf.1; space = omega (arith, q, A.space); early = omega (arith, q, A.early) }

    -- the leaf's part is the tree's
    pub leaf_bound : (after : List ℕ) (r : Result (ℕ × ℕ) Refusal) → Binds stored columns before after at end (leaf w) r → Binds stored columns before after at end t r
    leaf_bound after r h = rw is_leaf.0 h

  module _ {op : ℕ} (e : node_of (get_or nodes k 0) ≡ One op) where
    -- the operator over its operand
    abbrev one : OneAt (length stored) k nodes op t
    one = one_at (length stored) k nodes t op A.held e

    -- the operand
    abbrev only : Tree ℕ
    only = one.only

    -- the operator is a byte
    pub one_known : op < 19
    one_known = one.known.1

    -- the operand stands before it
    pub one_below : 0 < k
    one_below = one.below

    -- the operand asks no more than the tree
    only_asks : BindAsks stored columns nodes before (k - 1) (depth - 1) at end only
    only_asks = record {
      sound = A.sound;
      few = A.few;
      held = one.denotes;
      deep = omega (arith, one_height one, A.deep);
      inside = omega (arith, A.inside);
      space = omega (arith, one_size one, A.space);
      early = omega (arith, one_size one, A.early);
    }

    -- what the operand asks
    pub one_asks : (s : Tree ℕ) × BindAsks stored columns nodes before (k - 1) (depth - 1) at end s
    one_asks = (only, only_asks)

    -- the operand was bound, or refused
    module _ (after : List ℕ) (r : Result (ℕ × ℕ) Refusal)
        (f : (s : Tree ℕ) → BindAsks stored columns nodes before (k - 1) (depth - 1) at end s → Binds stored columns before after at end s r) where
      -- its refusal is handed on
      pub one_refused : {q : Refusal} → r ≡ Err q → Binds stored columns before after at end t r
      unfolding names_stop
      one_refused {q} g =
          let h : names_stop stored columns at only ≡ stop_of q = rw g at (f only only_asks) in
          rw (g, one.whole) h

      module _ {p n : ℕ} (g : r ≡ Ok (p, n)) (long : length after ≡ length before) where
        -- the operand's part
        operand : Binds stored columns before after at end only (Ok (p, n))
        operand = rw g at (f only only_asks)

        -- there is space for the operator
        pub one_room : p < length after
        one_room = omega (arith, operand.1, bound_width stored columns only, one_size one, A.space)

        -- the offset after the operand is one of the condition's
        pub one_next : n < 448
        one_next = omega (arith, operand.3, width_size only, one_size one, A.early)

        -- with the operator after it, the operand's part is the tree's
        pub one_binds : Binds stored columns before (set after p op) at end t (Ok (p + 1, n + 1))
        unfolding names_stop map_tree bytes_of
        one_binds = rw one.whole (
          operand.0,
          omega (arith, operand.1, length-append (bytes_of (map_tree (bind_leaf stored columns) only)) (op ∷ [])),
          operator_list before after (bytes_of (map_tree (bind_leaf stored columns) only)) end p op one_room operand.2,
          omega (arith, operand.3, length-append (bytes_of only) (op ∷ [])),
        )

  module _ {op l : ℕ} (e : node_of (get_or nodes k 0) ≡ Two op l) where
    -- the operator over its operands
    abbrev two : TwoAt (length stored) k nodes op l t
    two = two_at (length stored) k nodes t op l A.held e

    -- the left operand
    abbrev left : Tree ℕ
    left = two.left

    -- the right operand
    abbrev right : Tree ℕ
    right = two.right

    -- the operator is a byte
    pub two_known : op < 50
    two_known = two.known.1

    -- the right operand stands before it
    pub two_below : 0 < k
    two_below = right_below two

    -- the left operand asks no more than the tree
    left_ready : BindAsks stored columns nodes before l (depth - 1) at end left
    left_ready = record {
      sound = A.sound;
      few = A.few;
      held = two.left_denotes;
      deep = omega (arith, two_height two, A.deep);
      inside = omega (arith, two.below, A.inside);
      space = omega (arith, two_size two, A.space);
      early = omega (arith, two_size two, A.early);
    }

    -- what the left operand asks
    pub left_asks : (s : Tree ℕ) × BindAsks stored columns nodes before l (depth - 1) at end s
    left_asks = (left, left_ready)

    -- the left operand was bound, or refused
    module _ (middle : List ℕ) (r : Result (ℕ × ℕ) Refusal)
        (f : (s : Tree ℕ) → BindAsks stored columns nodes before l (depth - 1) at end s → Binds stored columns before middle at end s r) where
      -- its refusal is handed on
      pub left_refused : {q : Refusal} → r ≡ Err q → Binds stored columns before middle at end t r
      unfolding names_stop
      left_refused {q} g =
          let h : names_stop stored columns at left ≡ stop_of q = rw g at (f left left_ready) in
          rw (g, two.whole, h)

      module _ {d m : ℕ} (g : r ≡ Ok (d, m)) (long : length middle ≡ length before) where
        -- the left operand's part
        first : Binds stored columns before middle at end left (Ok (d, m))
        first = rw g at (f left left_ready)

        -- the right operand asks no more than what is left
        right_ready : BindAsks stored columns nodes middle (k - 1) (depth - 1) m d right
        right_ready = record {
          sound = A.sound;
          few = A.few;
          held = two.right_denotes;
          deep = omega (arith, two_height two, A.deep);
          inside = omega (arith, A.inside);
          space = omega (arith, first.1, bound_width stored columns left, two_size two, A.space);
          early = omega (arith, first.3, width_size left, two_size two, A.early);
        }

        -- what the right operand asks
        pub right_asks : (s : Tree ℕ) × BindAsks stored columns nodes middle (k - 1) (depth - 1) m d s
        right_asks = (right, right_ready)

        -- the right operand was bound, or refused
        module _ (after : List ℕ) (s : Result (ℕ × ℕ) Refusal)
            (f₂ : (u : Tree ℕ) → BindAsks stored columns nodes middle (k - 1) (depth - 1) m d u → Binds stored columns middle after m d u s) where
          -- the right operand's bytes begin where the left one's end
          right_names : names_stop stored columns at t ≡ names_stop stored columns m right
          unfolding names_stop
          right_names = ap (names_stop stored columns at) two.whole ∙ rw (first.0, first.3)

          -- its refusal is handed on
          pub right_refused : {q : Refusal} → s ≡ Err q → Binds stored columns before after at end t s
          right_refused {q} g₂ =
              let h : names_stop stored columns m right ≡ stop_of q = rw g₂ at (f₂ right right_ready) in
              rw g₂ (right_names ∙ h)

          module _ {p n : ℕ} (g₂ : s ≡ Ok (p, n)) (long₂ : length after ≡ length middle) where
            -- the right operand's part
            second : Binds stored columns middle after m d right (Ok (p, n))
            second = rw g₂ at (f₂ right right_ready)

            -- there is space for the operator
            pub two_room : p < length after
            two_room = omega (arith, first.1, second.1, bound_width stored columns left, bound_width stored columns right, two_size two, A.space)

            -- the offset after the operands is one of the condition's
            pub two_next : n < 448
            two_next = omega (arith, first.3, second.3, width_size left, width_size right, two_size two, A.early)

            -- the bytes of the two operands
            both_bytes : take p after ≡ take end before ++ (bytes_of (map_tree (bind_leaf stored columns) left) ++ bytes_of (map_tree (bind_leaf stored columns) right))
            both_bytes = second.2 ∙ ap (λ x. x ++ bytes_of (map_tree (bind_leaf stored columns) right)) first.2 ∙ append_assoc (take end before) _ _

            -- with the operator after them, the operands' parts are the tree's
            pub two_binds : Binds stored columns before (set after p op) at end t (Ok (p + 1, n + 1))
            unfolding map_tree bytes_of
            two_binds =
                let x = bytes_of (map_tree (bind_leaf stored columns) left) in
                let y = bytes_of (map_tree (bind_leaf stored columns) right) in (
                  right_names ∙ second.0,
                  rw two.whole (omega (arith, first.1, second.1, length-append x (y ++ (op ∷ [])), length-append y (op ∷ []))),
                  rw two.whole (operator_list before after (x ++ y) end p op two_room both_bytes ∙ ap (λ z. take end before ++ z) (append_assoc x y (op ∷ []))),
                  rw two.whole (omega (arith, first.3, second.3, length-append (bytes_of left) (bytes_of right ++ (op ∷ [])), length-append (bytes_of right) (op ∷ []))),
                )
