-- Folding as a function on trees and on the stored text that it appends to (document 01, "Folding replaces .."; Expr's operators of expr.rs).
-- Assumes nothing: these are definitions.
use Rattle.std.specs.Prelude.{ℕ, ◌+◌, Bool, false, cond, List, [], ◌++◌, length, ltb}
use Rattle.slices.specs.Bytes.{both}
use Rattle.cells.specs.Cell.{kind_of, word_of}
use Rattle.values.specs.Value.{Value, null, int, str, binary, value_of}
use Rattle.integers.specs.Outcome.{Outcome, value, cell_at}
use Rattle.operators.specs.Operator.{unary_of, binary_of}
use Rattle.operators.specs.declared.Rules.{Rules}
use Rattle.conditions.specs.Ast.{Tree, leaf, unary}
use Rattle.postfix.specs.Postfix.{width}

-- the folded tree and the stored text after it, or a refusal's number and place
pub data Folding : Type 0 where
  folded : Tree ℕ → List ℕ → Folding
  refused : ℕ → ℕ → Folding

-- a refusal is handed on
abbrev pub and_fold : Folding → (Tree ℕ → List ℕ → Folding) → Folding
and_fold (folded t stored) f = f t stored
and_fold (Folding.refused number place) f = Folding.refused number place

-- a literal: Null, an Int or a text, no column
abbrev pub is_literal : Tree ℕ → Bool
is_literal (leaf w) = ltb (kind_of w) 3
is_literal (unary op a) = false
is_literal (Tree.binary op a b) = false

-- the word of a leaf
abbrev pub leaf_word_of : Tree ℕ → ℕ
leaf_word_of (leaf w) = w
leaf_word_of (unary op a) = 0
leaf_word_of (Tree.binary op a b) = 0

-- what a value appends to the stored text: a joined text
abbrev pub appended : Value → List ℕ
appended null = []
appended (int number) = []
appended (str bytes) = bytes
appended binary = []

-- an operator over literals gives way to its value, a joined text standing at the mark; its refusal is told at the operator's offset
abbrev pub replaced : ℕ → List ℕ → Outcome → Folding
replaced place stored (value v) = folded (leaf (word_of (cell_at (length stored) v))) (stored ++ appended v)
replaced place stored (Outcome.refused number) = Folding.refused number place

-- a unary operator at an offset, its operand folded
abbrev pub fold_one : Rules → ℕ → ℕ → Tree ℕ → List ℕ → Folding
fold_one R place op a stored = cond (is_literal a) (replaced place stored (unary_of R op (value_of stored (leaf_word_of a)))) (folded (unary op a) stored)

-- a two-sided operator at an offset, its operands folded; never AND (48) or OR (49)
abbrev pub fold_two : Rules → ℕ → ℕ → Tree ℕ → Tree ℕ → List ℕ → Folding
fold_two R place op a b stored =
    cond (both (ltb op 47) (both (is_literal a) (is_literal b)))
    (replaced place stored (binary_of R op (value_of stored (leaf_word_of a)) (value_of stored (leaf_word_of b)))) (folded (Tree.binary op a b) stored)

-- folding in postfix order: left operand, right operand, operator; the tree's bytes begin at this offset
unfoldable pub fold : Rules → ℕ → Tree ℕ → List ℕ → Folding
fold R at (leaf w) stored = folded (leaf w) stored
fold R at (unary op a) stored = and_fold (fold R at a stored) (λ x s. fold_one R (at + width a) op x s)
fold R at (Tree.binary op a b) stored =
    and_fold (fold R at a stored) (λ x s. and_fold (fold R (at + width a) b s) (λ y s'. fold_two R (at + width a + width b) op x y s'))
