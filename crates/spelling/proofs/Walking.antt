-- The laws of the walk: what a tree asks of its operands, and how their printed texts make the tree's. Assumes nothing.
use mathlib.Core.Path.{◌≡◌, refl}
use mathlib.Core.Bool.{Bool, true, false, cond}
use mathlib.Core.List.{List, [], ◌∷◌, ◌++◌, append-nil}
use Prim.Native.Nat.{ℕ, ◌+◌, ◌-◌, ◌*◌, ◌^◌, ◌≤◌, ◌<◌}
use native.Mathlib.Omega.{arith}
use lib.ListN.{length, get_or, length-append}
use lib.Dec.{ltb}
use Rattle.puts.specs.Put.{Puts}
use Rattle.puts.proofs.Putting.{puts_then, either}
use Rattle.conditions.specs.Ast.{Tree, leaf, unary, binary, map_tree, size}
use Rattle.conditions.specs.Table.{node_of, leaf_of}
use Rattle.conditions.specs.declared.Node.TheVariants.{Leaf, One, Two}
use Rattle.forms.specs.Held.{LeafHeld}
use Rattle.forms.proofs.Denoting.{OneAt, TwoAt, leaf_at, one_at, two_at, leaf_size, one_size, one_height, two_size, two_height, right_below}
use Rattle.signs.specs.Sign.{precedence, spaced, prefix}
use Rattle.signs.proofs.Lengths.{spaced_short, prefix_short}
use Rattle.spelling.specs.Spell.{parenthesised, printed_atom, printed}
use Rattle.spelling.specs.Walk.{PrintAsks}
use Rattle.spelling.proofs.Leaves.{atom_short}

-- ---- how long a printed text gets

-- the same text, its parentheses put where the test holds
in_parentheses : (t : Bool) (s : List ℕ) → cond t (40 ∷ []) [] ++ (s ++ cond t (41 ∷ []) []) ≡ parenthesised t s
in_parentheses true s = refl
in_parentheses false s = append-nil s

-- two bytes more at most
around : (t : Bool) (s : List ℕ) → length (parenthesised t s) ≤ length s + 2
around true s = rw length-append (omega arith)
around false s = omega arith

-- at most 400,000 bytes a node
pub printed_short : (stored : List ℕ) (asked : ℕ) (t : Tree ℕ) → length (printed asked (map_tree (leaf_of stored) t)) ≤ 400000 * size t
unfolding printed map_tree size
printed_short stored asked (leaf w) = omega (arith, atom_short stored w)
printed_short stored asked (unary op a) = rw length-append (omega (arith, prefix_short op, printed_short stored 10 a))
printed_short stored asked (binary op a b) =
    let x : List ℕ = printed (precedence op) (map_tree (leaf_of stored) a) in
    let y : List ℕ = printed (precedence op + 1) (map_tree (leaf_of stored) b) in
    omega (arith, around (ltb (precedence op) asked) (x ++ (spaced op ++ y)), length-append x (spaced op ++ y), length-append (spaced op) y, spaced_short op, printed_short stored (precedence op) a, printed_short stored (precedence op + 1) b)

-- ---- the walk

module _ {stored nodes : List ℕ} {k depth at : ℕ} {t : Tree ℕ} (A : PrintAsks stored nodes k depth at t) where
  -- what a tree prints
  abbrev text : ℕ → Tree ℕ → List ℕ
  text asked s = printed asked (map_tree (leaf_of stored) s)

  module _ {w : ℕ} (e : node_of (get_or nodes k 0) ≡ Leaf w) where
    -- the tree is the leaf
    is_leaf : (t ≡ leaf w) × LeafHeld (length stored) w
    is_leaf = leaf_at (length stored) k nodes t w A.denotes e

    -- what the leaf asks
    pub leaf_asks : LeafHeld (length stored) w × (at + 400000 < 2 ^ 64)
    leaf_asks = (is_leaf.1, omega (arith, leaf_size is_leaf.0, A.room))

    -- the leaf's text is the tree's
    pub leaf_puts : (asked : ℕ) {out : List ℕ} {r : ℕ} {out₁ : List ℕ} → Puts out at (printed_atom (leaf_of stored w)) r out₁ → Puts out at (text asked t) r out₁
    unfolding printed map_tree
    leaf_puts asked p = rw is_leaf.0 p

  module _ {op : ℕ} (e : node_of (get_or nodes k 0) ≡ One op) where
    -- the operator over its operand
    abbrev one : OneAt (length stored) k nodes op t
    one = one_at (length stored) k nodes t op A.denotes e

    -- the operand
    abbrev only : Tree ℕ
    only = one.only

    -- the operand stands before it
    pub one_below : 0 < k
    one_below = one.below

    -- there is room for what stands before the operand
    pub one_room : at + 4 < 2 ^ 64
    one_room = omega (arith, A.room, one_size one)

    module _ {out : List ℕ} {next : ℕ} {out₁ : List ℕ} (p : Puts out at (prefix op) next out₁) where
      -- what the operand asks
      only_asks : PrintAsks stored nodes (k - 1) (depth - 1) next only
      only_asks = record {
        denotes = one.denotes;
        deep = omega (arith, one_height one, A.deep);
        inside = omega (arith, A.inside);
        room = omega (arith, one_size one, A.room, p.place, prefix_short op);
      }

      -- as the contract has it
      pub one_asks : (s : Tree ℕ) × PrintAsks stored nodes (k - 1) (depth - 1) next s
      one_asks = (only, only_asks)

      -- the operand is asked 10, and gets no parentheses around the whole
      pub one_puts : (asked : ℕ) {r : ℕ} {out₂ : List ℕ} → ((s : Tree ℕ) → PrintAsks stored nodes (k - 1) (depth - 1) next s → Puts out₁ next (text 10 s) r out₂)
          → Puts out at (text asked t) r out₂
      unfolding printed map_tree
      one_puts asked f = rw one.whole (puts_then p (f only only_asks))

  module _ {op l : ℕ} (e : node_of (get_or nodes k 0) ≡ Two op l) where
    -- the operator over its operands
    abbrev two : TwoAt (length stored) k nodes op l t
    two = two_at (length stored) k nodes t op l A.denotes e

    -- the left operand
    abbrev left : Tree ℕ
    left = two.left

    -- the right operand
    abbrev right : Tree ℕ
    right = two.right

    -- the right operand stands before it
    pub two_below : 0 < k
    two_below = right_below two

    -- there is room for a parenthesis
    pub open_room : at + 1 < 2 ^ 64
    open_room = omega (arith, A.room, two_size two)

    -- a parenthesis may stand before the left operand
    module _ (test : Bool) {out : List ℕ} {from : ℕ} {out₁ : List ℕ} (p : Puts out at (cond test (40 ∷ []) []) from out₁) where
      -- at most one byte further
      from_near : from ≤ at + 1
      from_near = omega (arith, p.place, either test (40 ∷ []) [] 1 (omega arith) (omega arith))

      -- what the left operand asks
      left_asked : PrintAsks stored nodes l (depth - 1) from left
      left_asked = record {
        denotes = two.left_denotes;
        deep = omega (arith, two_height two, A.deep);
        inside = omega (arith, A.inside, two.below);
        room = omega (arith, two_size two, A.room, from_near);
      }

      -- as the contract has it
      pub left_asks : (s : Tree ℕ) × PrintAsks stored nodes l (depth - 1) from s
      left_asks = (left, left_asked)

      -- the left operand is put
      module _ (own : ℕ) {middle : ℕ} {out₂ : List ℕ}
          (f : (s : Tree ℕ) → PrintAsks stored nodes l (depth - 1) from s → Puts out₁ from (text own s) middle out₂) where
        -- the place after the left operand
        middle_near : middle ≤ at + 1 + 400000 * size left
        middle_near = omega (arith, from_near, (f left left_asked).place, printed_short stored own left)

        -- there is room for the sign
        pub sign_room : middle + 5 < 2 ^ 64
        sign_room = omega (arith, A.room, two_size two, middle_near)

        module _ {next : ℕ} {out₃ : List ℕ} (s : Puts out₂ middle (spaced op) next out₃) where
          -- the place after the sign
          next_near : next ≤ at + 6 + 400000 * size left
          next_near = omega (arith, middle_near, s.place, spaced_short op)

          -- what the right operand asks
          right_asked : PrintAsks stored nodes (k - 1) (depth - 1) next right
          right_asked = record {
            denotes = two.right_denotes;
            deep = omega (arith, two_height two, A.deep);
            inside = omega (arith, A.inside);
            room = omega (arith, two_size two, A.room, next_near);
          }

          -- as the contract has it
          pub right_asks : (s : Tree ℕ) × PrintAsks stored nodes (k - 1) (depth - 1) next s
          right_asks = (right, right_asked)

          -- the right operand is put
          module _ {end : ℕ} {out₄ : List ℕ}
              (g : (s : Tree ℕ) → PrintAsks stored nodes (k - 1) (depth - 1) next s → Puts out₃ next (text (own + 1) s) end out₄) where
            -- there is room for a parenthesis
            pub close_room : end + 1 < 2 ^ 64
            close_room = omega (arith, A.room, two_size two, next_near, (g right right_asked).place, printed_short stored (own + 1) right)

            -- all of it is the tree's text
            pub operator_puts : (asked : ℕ) → own ≡ precedence op → test ≡ ltb own asked → {r : ℕ} {out₅ : List ℕ} → Puts out₄ end (cond test (41 ∷ []) []) r out₅
                → Puts out at (text asked t) r out₅
            unfolding printed map_tree
            operator_puts asked q b {r} {out₅} c =
                let whole : List ℕ = text own left ++ (spaced op ++ text (own + 1) right) in
                let put = puts_then p (puts_then (puts_then (f left left_asked) (puts_then s (g right right_asked))) c) in
                let n : parenthesised test whole ≡ text asked (binary op left right) = rw (b, q) in
                rw (two.whole, ← n, ← in_parentheses test whole) put
