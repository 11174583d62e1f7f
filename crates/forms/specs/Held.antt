-- How the scan's tables hold a stack of trees, and what its steps and the whole say. Assumes nothing: these are definitions.
use Rattle.std.specs.Prelude.{ℕ, ◌+◌, ◌-◌, ◌^◌, ◌/◌, ◌≤◌, ◌<◌, ◌≡◌, cond, List, [], ◌∷◌, length, get_or, set, eqb}
use Rattle.refusals.specs.Told.{told}
use Rattle.cells.specs.Cell.{WellFormed, start_of, length_of}
use Rattle.nodes.specs.Kind.{leaf_word}
use Rattle.conditions.specs.Ast.{Tree, leaf, unary, binary, height, size}
use Rattle.conditions.specs.Table.{node_of}
use Rattle.conditions.specs.declared.Node.TheVariants.{Leaf, One, Two}
use Rattle.forms.specs.Form.{Parsed, tree, refusal, Move, go, stop}
use Rattle.std.specs.Prelude.{Result, Ok, Err}
use Rattle.forms.specs.declared.Step.{Step}
use Rattle.refusals.specs.declared.Refusal.{Refusal}

-- a literal is well formed below the mark, a name ends at or before it
unfoldable pub LeafHeld : ℕ → ℕ → Type 0
LeafHeld used w = cond (eqb (w / 2 ^ 56) 4) (Unit {0}) (cond (eqb (w / 2 ^ 56) 3) (start_of w + length_of w ≤ used) (WellFormed used w))

-- at k of the table stands the tree
unfoldable pub Denotes : ℕ → List ℕ → ℕ → Tree ℕ → Type 0
Denotes used nodes k (leaf w) = (node_of (get_or nodes k 0) ≡ Leaf w) × LeafHeld used w
Denotes used nodes k (unary op a) = (node_of (get_or nodes k 0) ≡ One op) × ((16 ≤ op) × (op < 19)) × (0 < k) × Denotes used nodes (k - 1) a
Denotes used nodes k (binary op a b) =
    (l : ℕ) × (node_of (get_or nodes k 0) ≡ Two op l) × ((32 ≤ op) × (op < 50)) × (l < k) × Denotes used nodes l a × Denotes used nodes (k - 1) b

-- the first n nodes are the trees of a stack, the top one last: `starts` has where each begins, `deeps` its height
unfoldable pub Held : ℕ → List ℕ → List ℕ → List ℕ → ℕ → List (Tree ℕ) → Type 0
Held used nodes starts deeps n [] = n ≡ 0
Held used nodes starts deeps n (t ∷ s) =
    (0 < n) × (get_or starts (n - 1) 0 + size t ≡ n) × (get_or deeps (n - 1) 0 ≡ height t) × Denotes used nodes (n - 1) t
    × Held used nodes starts deeps (get_or starts (n - 1) 0) s

-- the tables as numbers
pub record Marks (starts deeps : List ℕ) (n : ℕ) : Type 0 where
  pub starts_long : length starts ≡ 64
  pub deeps_long : length deeps ≡ 64
  pub below : (i : ℕ) → i < n → get_or starts i 0 ≤ i
  pub shallow : (i : ℕ) → i < n → get_or deeps i 0 ≤ 16

-- what one step of the scan says of the definition's move, whatever the stack that the tables hold
abbrev pub StepIs : ℕ → List ℕ → List ℕ → List ℕ → ℕ → Result Step Refusal → Move → Type 0
StepIs used nodes starts deeps n (Ok step) m =
    (t : Tree ℕ) × (s : List (Tree ℕ)) × (m ≡ go (t ∷ s) step.next) × Held used (set nodes n step.word) (set starts n step.start) (set deeps n step.deep) (n + 1) (t ∷ s)
StepIs used nodes starts deeps n (Err r) m = m ≡ stop (told r).number

-- and as numbers: it goes on, within the bytes, or is refused at this offset; the first node is a leaf, and its word is read off the bytes
abbrev pub StepFine : ℕ → ℕ → List ℕ → Result Step Refusal → Type 0
StepFine at n b (Ok step) =
    (step.start ≤ n) × (step.deep ≤ 16) × (at < step.next) × (step.next ≤ length b) × (n ≡ 0 → step.word ≡ leaf_word b at (get_or b at 0))
StepFine at n b (Err r) = (told r).place ≡ at

-- the same of an operator, which is never the first node
abbrev pub OperatorFine : ℕ → ℕ → ℕ → Result Step Refusal → Type 0
OperatorFine at n next (Ok step) = (step.start ≤ n) × (step.deep ≤ 16) × (step.next ≡ next) × (n ≡ 0 → ⊥)
OperatorFine at n next (Err r) = (told r).place ≡ at

-- what the whole scan says of the definition; the first word of the table is that of the first leaf
abbrev pub ScanIs : ℕ → List ℕ → List ℕ → Result ℕ Refusal → Parsed → Type 0
ScanIs used b nodes (Ok n) p =
    (t : Tree ℕ) × (p ≡ tree t) × (0 < n) × (size t ≡ n) × (n ≤ 64) × (height t ≤ 16) × Denotes used nodes (n - 1) t
    × (get_or nodes 0 0 ≡ leaf_word b 0 (get_or b 0 0))
ScanIs used b nodes (Err r) p = p ≡ refusal (told r).number (told r).place
