-- What a word that was worked out from two words says. Assumes nothing: these are definitions.
use Rattle.std.specs.Prelude.{ℕ, ◌≤◌, ◌<◌, ◌≡◌, cond, List, length, Option, Some}
use Rattle.cells.specs.Cell.{WellFormed, kind_of}
use Rattle.values.specs.Value.{Value, value_of, to_bool, from_bool}
use Rattle.integers.specs.Outcome.{Outcome, value, gave, placed}
use Rattle.operators.specs.declared.Rules.{Rules}
use Rattle.conditions.specs.Ast.{decides, two_sided}

-- a word that was worked out is the cell of the outcome, which adds no text
pub record Settled (r : Option ℕ) (o : Outcome) : Type 0 where
  pub told : (word : ℕ) → r ≡ Some word → (top : ℕ) → gave word top ≡ placed top o

-- Ast::eval of a two-sided operator both of whose operands have a value: the left one decides, or else both count
unfoldable pub on_both : Rules → ℕ → Value → Value → Outcome
on_both R op v w = cond (decides op v) (value (from_bool (to_bool v))) (two_sided R op v w)

-- a word that was worked out from the words of two cells, whatever text they are read in
pub record GivesBoth (op a b : ℕ) (r : Option ℕ) : Type 0 where
  pub settled : (R : Rules) (stored : List ℕ) → WellFormed (length stored) a → WellFormed (length stored) b → Settled r (on_both R op (value_of stored a) (value_of stored b))

-- two words of Ints
pub record Ints (a b : ℕ) : Type 0 where
  pub first : kind_of a ≡ 1
  pub second : kind_of b ≡ 1

-- the kinds of two-sided operators: 32 to 46, 48 and 49
pub record IsTwoSided (op : ℕ) : Type 0 where
  pub above : 32 ≤ op
  pub below : op < 50
  pub known : op ≡ 47 → ⊥
