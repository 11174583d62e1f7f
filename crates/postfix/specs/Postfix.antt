-- The postfix bytes of a tree whose leaves stand by their words (document 01, "Condition"). Assumes nothing: these are definitions.
use Rattle.std.specs.Prelude.{ℕ, zero, suc, ◌/◌, ◌%◌, cond, List, [], ◌∷◌, ◌++◌, length, eqb}
use Rattle.cells.specs.Cell.{kind_of, body_of, start_of, length_of}
use Rattle.conditions.specs.Ast.{Tree, leaf, unary, binary}

-- a number in so many bytes, the low one first
unfoldable pub little : ℕ → ℕ → List ℕ
little zero x = []
little (suc n) x = x % 256 ∷ little n (x / 256)

-- the body of a leaf: an Int's 4 bytes, a text's or a name's start and length, a column's number
unfoldable pub body_bytes : ℕ → List ℕ
body_bytes w =
    cond (eqb (kind_of w) 1) (little 4 (body_of w))
    (cond (eqb (kind_of w) 2) (little 4 (start_of w) ++ little 2 (length_of w))
    (cond (eqb (kind_of w) 3) (little 4 (start_of w) ++ little 2 (length_of w)) (cond (eqb (kind_of w) 4) (little 1 (body_of w)) [])))

-- a leaf: its kind, then its body
abbrev pub leaf_bytes : ℕ → List ℕ
leaf_bytes w = kind_of w ∷ body_bytes w

-- operands first, the left one before the right, then the operator
unfoldable pub bytes_of : Tree ℕ → List ℕ
bytes_of (leaf w) = leaf_bytes w
bytes_of (unary op a) = bytes_of a ++ (op ∷ [])
bytes_of (binary op a b) = bytes_of a ++ (bytes_of b ++ (op ∷ []))

-- how many bytes a tree takes
abbrev pub width : Tree ℕ → ℕ
width t = length (bytes_of t)
