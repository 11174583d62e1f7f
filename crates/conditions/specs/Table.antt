-- The table of nodes that the code walks: the tree that stands at an index, what makes a walk from there sound, and what it answers.
-- Assumes nothing: these are definitions.
use Rattle.std.specs.Prelude.{ℕ, zero, suc, ◌+◌, ◌-◌, ◌*◌, ◌^◌, ◌/◌, ◌%◌, ◌≤◌, ◌<◌, ◌≡◌, List, map, cond, length, take, get_or, ltb, eqb}
use Rattle.slices.specs.Splice.{piece}
use Rattle.cells.specs.Cell.{WellFormed, kind_of, start_of, length_of}
use Rattle.values.specs.Value.{Value, null, value_of}
use Rattle.integers.specs.Outcome.{Outcome, value, number_of}
use Rattle.operators.specs.declared.Rules.{Rules}
use Rattle.conditions.specs.Ast.{Ast, Atom, leaf, literal, column, named, unary, binary, joins, eval}
use Rattle.conditions.specs.declared.Node.{Node}
use Rattle.conditions.specs.declared.Node.TheVariants.{Leaf, One, Two}
use Rattle.std.specs.Prelude.{Result, Ok, Err}
use Rattle.integers.specs.declared.Fault.{Fault}

-- the node of a word, kind × 2^56 + body: a leaf's body is its cell's or its column's, a two-sided operator's the index of its left operand
unfoldable pub node_of : ℕ → Node
node_of w = cond (ltb (w / 2 ^ 56) 16) (Leaf w) (cond (ltb (w / 2 ^ 56) 32) (One (w / 2 ^ 56)) (Two (w / 2 ^ 56) (w % 2 ^ 56)))

-- what a leaf's word means: kind 4 is a column by its number, kind 3 one by its name, any other a literal
unfoldable pub leaf_of : List ℕ → ℕ → Atom
leaf_of base w =
    cond (eqb (w / 2 ^ 56) 4) (column (w % 2 ^ 56)) (cond (eqb (w / 2 ^ 56) 3) (named (piece (start_of w) (length_of w) base)) (literal (value_of base w)))

-- a tree from its node and the trees below it: the right operand, or the only one, stands just before
abbrev pub grow : List ℕ → Node → (ℕ → Ast) → ℕ → Ast
grow base (Leaf w) sub k = leaf (leaf_of base w)
grow base (One op) sub k = unary op (sub (k - 1))
grow base (Two op l) sub k = binary op (sub l) (sub (k - 1))

-- the tree at index k, at most d deep
unfoldable pub tree_of : List ℕ → ℕ → List ℕ → ℕ → Ast
tree_of base zero nodes k = leaf (literal null)
tree_of base (suc d) nodes k = grow base (node_of (get_or nodes k 0)) (tree_of base d nodes) k

-- of a bound condition: a column is below the width, a literal is well formed below the mark
unfoldable pub LeafSound : ℕ → ℕ → ℕ → Type 0
LeafSound used width w = cond (eqb (w / 2 ^ 56) 4) (w % 2 ^ 56 < width) (cond (eqb (w / 2 ^ 56) 3) ⊥ (WellFormed used w))

-- a node that is sound, its operands standing before it and being sound themselves
abbrev pub SoundAt : ℕ → ℕ → Node → (ℕ → Type 0) → ℕ → Type 0
SoundAt used width (Leaf w) sub k = LeafSound used width w
SoundAt used width (One op) sub k = ((16 ≤ op) × (op < 19)) × (0 < k) × sub (k - 1)
SoundAt used width (Two op l) sub k = ((32 ≤ op) × (op < 50)) × (l < k) × sub l × sub (k - 1)

-- at k there stands a tree at most d deep, of known operators, whose texts end at or before the mark and whose columns are below the width
unfoldable pub Sound : ℕ → ℕ → ℕ → List ℕ → ℕ → Type 0
Sound used width zero nodes k = ⊥
Sound used width (suc d) nodes k = (k < length nodes) × SoundAt used width (node_of (get_or nodes k 0)) (Sound used width d nodes) k

-- what the words of a row mean
unfoldable pub row_of : List ℕ → List ℕ → List Value
row_of base row = map (value_of base) row

-- every cell of a row is well formed below the mark
pub record RowSound (used : ℕ) (row : List ℕ) : Type 0 where
  pub cells : (i : ℕ) → i < length row → WellFormed used (get_or row i 0)

-- what evaluation asks: marks in order, a text that cells can point into, a sound tree and row, and room for each join
pub record Asks (R : Rules) (used top depth k : ℕ) (nodes row text : List ℕ) : Type 0 where
  pub marks : used ≤ top
  pub short : R.limit ≤ 1024
  pub small : length text ≤ 65536
  pub sound : Sound used (length row) depth nodes k
  pub rows : RowSound used row
  pub room : top + 1024 * joins (tree_of (take used text) depth nodes k) ≤ length text

-- what an answer says of an outcome, where the text now is t, the top was this and may have risen by so much
abbrev pub Says : List ℕ → ℕ → ℕ → Result (ℕ × ℕ) Fault → Outcome → Type 0
Says t top room (Ok (w, u)) o = (o ≡ value (value_of (take u t) w)) × WellFormed u w × (top ≤ u) × (u ≤ top + room)
Says t top room (Err fault) o = o ≡ Outcome.refused (number_of fault)

-- and the text below the old top is as it was
pub record Gives (before after : List ℕ) (top room : ℕ) (r : Result (ℕ × ℕ) Fault) (o : Outcome) : Type 0 where
  pub kept : take top after ≡ take top before
  pub says : Says after top room r o

-- what evaluation answers: as `eval` does, of the tree at k and the row, both read in the text below the mark as it was
abbrev pub Answers : (R : Rules) (used top depth k : ℕ) (nodes row before after : List ℕ) → Result (ℕ × ℕ) Fault → Type 0
Answers R used top depth k nodes row before after r =
    Gives before after top (1024 * joins (tree_of (take used before) depth nodes k)) r
    (eval R (row_of (take used before) row) (tree_of (take used before) depth nodes k))

-- the word of a leaf's cell: the row's own, or the literal's own
abbrev pub leaf_cell : List ℕ → ℕ → ℕ
leaf_cell row w = cond (eqb (w / 2 ^ 56) 4) (get_or row (w % 2 ^ 56) 0) w

-- a leaf's cell is exact; a text of any other tree was computed, and starts at the old top or above
abbrev pub LiesAt : ℕ → Node → List ℕ → ℕ → Type 0
LiesAt top (Leaf x) row w = w ≡ leaf_cell row x
LiesAt top (One op) row w = kind_of w ≡ 2 → top ≤ start_of w
LiesAt top (Two op l) row w = kind_of w ≡ 2 → top ≤ start_of w

-- where the cell of an answer lies
abbrev pub Lies : ℕ → Node → List ℕ → Result (ℕ × ℕ) Fault → Type 0
Lies top node row (Ok (w, u)) = LiesAt top node row w
Lies top node row (Err fault) = Unit {0}

-- what the word of a leaf's cell is
pub record LeafIs (used w : ℕ) (row : List ℕ) (r : ℕ) : Type 0 where
  pub exact : r ≡ leaf_cell row w
  pub means : (R : Rules) (base : List ℕ) → eval R (row_of base row) (leaf (leaf_of base w)) ≡ value (value_of base r)
  pub within : WellFormed used r
