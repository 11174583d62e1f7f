-- What postfix bytes say: one tree, its leaves by their words, or a refusal with its place (document 01, "Condition" and "Order"). Assumes nothing: these are definitions.
use Rattle.std.specs.Prelude.{ℕ, zero, suc, ◌+◌, List, [], ◌∷◌, cond, length, get_or, ltb, leb}
use Rattle.refusals.specs.Stop.{Stop, never}
use Rattle.nodes.specs.Kind.{known, body_of, leaf_word, text_fits}
use Rattle.nodes.specs.declared.Allowed.{Allowed}
use Rattle.conditions.specs.Ast.{Tree, leaf, unary, binary, height}

-- a condition's tree, or a refusal's number and place
pub data Parsed : Type 0 where
  tree : Tree ℕ → Parsed
  refusal : ℕ → ℕ → Parsed

-- what is made of the tree, or of the refusal
abbrev pub of_tree : {A : Type 0} → (Tree ℕ → A) → (ℕ → ℕ → A) → Parsed → A
of_tree f refused (tree t) = f t
of_tree f refused (refusal number place) = refused number place

-- one node: the stack and the offset after it, or a refusal's number
pub data Move : Type 0 where
  go : List (Tree ℕ) → ℕ → Move
  stop : ℕ → Move

-- a tree that is at most 16 deep goes on the stack
abbrev pub pushed : Tree ℕ → List (Tree ℕ) → ℕ → Move
pushed t s next = cond (leb (height t) 16) (go (t ∷ s) next) (stop 2)

-- operands, then depth
abbrev pub on_one : ℕ → List (Tree ℕ) → ℕ → Move
on_one op [] next = stop 1
on_one op (a ∷ s) next = pushed (unary op a) s next

-- a two-sided operator takes the two trees on top, the right one uppermost
abbrev pub on_two : ℕ → List (Tree ℕ) → ℕ → Move
on_two op [] next = stop 1
on_two op (b ∷ []) next = stop 1
on_two op (b ∷ (a ∷ s)) next = pushed (binary op a b) s next

-- the node at an offset: kind, body, text, operands, depth, in this order
unfoldable pub node_at : Allowed → ℕ → List ℕ → ℕ → ℕ → List (Tree ℕ) → Move
node_at form used b at k s =
    cond (known form k)
    (cond (leb (at + 1 + body_of k) (length b))
    (cond (ltb k 16) (cond (text_fits used b at k) (go (leaf (leaf_word b at k) ∷ s) (at + 1 + body_of k)) (stop 3))
    (cond (ltb k 32) (on_one k s (at + 1 + body_of k)) (on_two k s (at + 1 + body_of k))))
    (stop 1))
    (stop 1)

-- exactly one result
abbrev pub finish : List (Tree ℕ) → ℕ → Parsed
finish [] at = refusal 1 at
finish (t ∷ []) at = tree t
finish (t ∷ (u ∷ s)) at = refusal 1 at

-- what a node came to, then the rest; a refusal is told at the node's offset
abbrev pub follow : Move → ℕ → (List (Tree ℕ) → ℕ → Parsed) → Parsed
follow (go s next) at rest = rest s next
follow (stop n) at rest = refusal n at

-- from an offset, with a stack, where so many nodes are still allowed: the count is looked at before the node
unfoldable pub parse : Allowed → ℕ → List ℕ → ℕ → ℕ → List (Tree ℕ) → Parsed
parse form used b zero at s = cond (ltb at (length b)) (refusal 2 at) (finish s at)
parse form used b (suc f) at s =
    cond (ltb at (length b)) (follow (node_at form used b at (get_or b at 0) s) at (λ s' next. parse form used b f next s')) (finish s at)

-- the tree of a whole condition of at most 64 nodes
abbrev pub parsed : Allowed → ℕ → List ℕ → Parsed
parsed form used b = parse form used b 64 0 []

-- the form's refusal, or none
abbrev pub form_stop : Parsed → Stop
form_stop (tree t) = never
form_stop (refusal number place) = Stop.stop number place
