-- A tree printed by precedence, format_with_precedence of expr.rs (document 01, "Printing"). Assumes nothing: these are definitions.
use Rattle.std.specs.Prelude.{ℕ, ◌+◌, Bool, true, false, List, [], ◌∷◌, ◌++◌, ltb}
use Rattle.conditions.specs.Ast.{Ast, Atom, leaf, unary, binary, literal, column, named}
use Rattle.display.specs.Display.{display}
use Rattle.signs.specs.Sign.{precedence, spaced, prefix}

-- parentheses (40, 41) where a test holds
abbrev pub parenthesised : Bool → List ℕ → List ℕ
parenthesised true s = 40 ∷ (s ++ (41 ∷ []))
parenthesised false s = s

-- a literal as its value is displayed, a column by its name (a named condition has no numbers)
abbrev pub printed_atom : Atom → List ℕ
printed_atom (literal v) = display v
printed_atom (column c) = []
printed_atom (named name) = name

-- the printed text of a tree of which a precedence is asked: the left operand is asked the operator's, the right one more, parentheses
-- when the own is below the asked; unary operators ask 10 and get none
unfoldable pub printed : ℕ → Ast → List ℕ
printed asked (leaf x) = printed_atom x
printed asked (unary op a) = prefix op ++ printed 10 a
printed asked (binary op a b) =
    parenthesised (ltb (precedence op) asked) (printed (precedence op) a ++ (spaced op ++ printed (precedence op + 1) b))
