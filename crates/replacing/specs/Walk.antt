-- What the walk over the table of nodes asks, and what it gives of the definition. Assumes nothing: these are definitions.
use Rattle.std.specs.Prelude.{ℕ, ◌+◌, ◌*◌, ◌^◌, ◌≤◌, ◌<◌, ◌≡◌, List, ◌++◌, length, take}
use Rattle.refusals.specs.Told.{told}
use Rattle.std.specs.Int.{w32}
use Rattle.std.proofs.Common.{SFits}
use Rattle.values.specs.Value.{Value, null, int, str}
use Rattle.integers.specs.Outcome.{Outcome, value}
use Rattle.cells.specs.Cell.{WellFormed, kind_of}
use Rattle.operators.specs.Operator.{Room}
use Rattle.operators.specs.declared.Rules.{Rules}
use Rattle.conditions.specs.Ast.{Tree, leaf, unary, binary, size, height, joins}
use Rattle.forms.specs.Held.{LeafHeld, Denotes}
use Rattle.postfix.specs.Postfix.{bytes_of, width}
use Rattle.replacing.specs.Fold.{Folding, folded, appended}
use Rattle.std.specs.Prelude.{Result, Ok, Err}
use Rattle.replacing.specs.declared.Folded.{Folded}
use Rattle.refusals.specs.declared.Refusal.{Refusal}

-- every leaf of the tree is held below the mark
unfoldable pub AllHeld : ℕ → Tree ℕ → Type 0
AllHeld used (leaf w) = LeafHeld used w
AllHeld used (unary op a) = AllHeld used a
AllHeld used (binary op a b) = AllHeld used a × AllHeld used b

-- the word of a tree's last node: a leaf's own, or kind × 2^56 of an operator
abbrev pub root : Tree ℕ → ℕ
root (leaf w) = w
root (unary op a) = op * 2 ^ 56
root (binary op a b) = op * 2 ^ 56

-- no operator's kind is a literal's
abbrev pub Rooted : Tree ℕ → Type 0
Rooted (leaf w) = Unit {0}
Rooted (unary op a) = 16 ≤ op
Rooted (binary op a b) = 16 ≤ op

-- the text below the top is the stored text after folding so far
pub record Stored (text s : List ℕ) (top : ℕ) : Type 0 where
  pub long : top ≡ length s
  pub below : take top text ≡ s

-- a folded tree stands in the output, after the bytes in front of it
pub record Stands (front : List ℕ) (x : Tree ℕ) (s : List ℕ) (word end : ℕ) (out : List ℕ) : Type 0 where
  pub last : word ≡ root x
  pub rooted : Rooted x
  pub held : AllHeld (length s) x
  pub place : end ≡ length front + width x
  pub bytes : take end out ≡ front ++ bytes_of x

-- two folded operands stand there, one after the other
pub record StandTwo (front : List ℕ) (x y : Tree ℕ) (s : List ℕ) (left right end : ℕ) (out : List ℕ) : Type 0 where
  pub left_last : left ≡ root x
  pub left_rooted : Rooted x
  pub left_held : AllHeld (length s) x
  pub right_last : right ≡ root y
  pub right_rooted : Rooted y
  pub right_held : AllHeld (length s) y
  pub place : end ≡ length front + (width x + width y)
  pub bytes : take end out ≡ front ++ (bytes_of x ++ bytes_of y)

-- what a part says of the definition's folding: its tree stands in the output, its text is stored, and the offset after it is told; or the refusal
abbrev pub Says : List ℕ → ℕ → List ℕ → List ℕ → Result Folded Refusal → Folding → Type 0
Says front next text out (Ok part) f =
    (x : Tree ℕ) × (s : List ℕ) × (f ≡ folded x s) × Stands front x s part.word part.end out × Stored text s part.top × (part.next ≡ next)
Says front next text out (Err r) f = f ≡ Folding.refused (told r).number (told r).place

-- a value that a literal can stand for: an Int of 32 bits, a text no longer than so much, no Binary
abbrev pub Literal : ℕ → Value → Type 0
Literal most null = Unit {0}
Literal most (int z) = SFits w32 z
Literal most (str b) = length b ≤ most
Literal most Value.binary = ⊥

-- the value of an operator, its text appended to the stored one, as far as an answer's word can tell
pub record Becomes (text s : List ℕ) (o : Outcome) : Type 0 where
  pub fits : length s ≤ 65536
  pub literal : (v : Value) → o ≡ value v → Literal 1024 v
  pub stored : (v : Value) → o ≡ value v → take (length s + length (appended v)) text ≡ s ++ appended v

-- what a two-sided operator asks: two operands that are well formed where they are literals, room for a joined text, space for the bytes
pub record TwoAsks (R : Rules) (op left right top place start end size space : ℕ) : Type 0 where
  pub known : (32 ≤ op) × (op < 50)
  pub room : Room R top size
  pub left_well : kind_of left < 3 → WellFormed top left
  pub right_well : kind_of right < 3 → WellFormed top right
  pub start_space : start + 7 ≤ space
  pub end_space : end < space
  pub early : place < 448

-- a tree stands at k, at most so deep; its bytes begin at an offset; there is room for its joined texts and space for its bytes
pub record FoldAsks (R : Rules) (used top depth k at end : ℕ) (nodes text out : List ℕ) (t : Tree ℕ) : Type 0 where
  pub marks : used ≤ top
  pub short : R.limit ≤ 1024
  pub small : length text ≤ 65536
  pub denotes : Denotes used nodes k t
  pub deep : height t ≤ depth
  pub inside : k < length nodes
  pub room : top + 1024 * joins t ≤ length text
  pub space : end + 7 * size t ≤ length out
  pub early : at + 7 * size t ≤ 448

-- what the walk gives: the text below the old top as it was, and the tree folded
pub record Gives (front : List ℕ) (next top : ℕ) (before after out : List ℕ) (r : Result Folded Refusal) (f : Folding) : Type 0 where
  pub kept : take top after ≡ take top before
  pub says : Says front next after out r f
