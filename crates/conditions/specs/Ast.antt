-- Conditions as trees, and what one comes to on a row: Ast and Ast::eval of expr.rs. Assumes nothing: these are definitions.
use Rattle.std.specs.Prelude.{ℕ, ◌+◌, max, List, Bool, false, not, cond, get_or, ltb, eqb}
use Rattle.values.specs.Value.{Value, null, to_bool, from_bool}
use Rattle.integers.specs.Outcome.{Outcome, value}
use Rattle.operators.specs.Operator.{unary_of, binary_of}
use Rattle.operators.specs.declared.Rules.{Rules}

-- a tree over its leaves; an operator is told by its kind's number, AND (48) and OR (49) too
pub data Tree (A : Type 0) : Type 0 where
  leaf : A → Tree A
  unary : ℕ → Tree A → Tree A
  binary : ℕ → Tree A → Tree A → Tree A

-- what a leaf means: a column stands by its number, or by its name before it is bound
pub data Atom : Type 0 where
  literal : Value → Atom
  column : ℕ → Atom
  named : List ℕ → Atom

-- Ast of expr.rs
abbrev pub Ast : Type 0
Ast = Tree Atom

-- the same tree over other leaves
unfoldable pub map_tree : {A B : Type 0} → (A → B) → Tree A → Tree B
map_tree f (leaf x) = leaf (f x)
map_tree f (unary op a) = unary op (map_tree f a)
map_tree f (binary op a b) = binary op (map_tree f a) (map_tree f b)

-- a refusal is handed on; a value goes to the rest
abbrev pub and_then : Outcome → (Value → Outcome) → Outcome
and_then (value v) f = f v
and_then (Outcome.refused n) f = Outcome.refused n

-- AND is decided by a false left operand, OR by a true one; nothing else is
unfoldable pub decides : ℕ → Value → Bool
decides op v = cond (eqb op 48) (not (to_bool v)) (cond (eqb op 49) (to_bool v) false)

-- where the left operand has not decided: AND and OR give the right one's truth as 1 or 0
unfoldable pub two_sided : Rules → ℕ → Value → Value → Outcome
two_sided R op v w = cond (ltb op 47) (binary_of R op v w) (value (from_bool (to_bool w)))

-- Ast::eval: left operand first, then right; the right isn't evaluated when the left decides. (A bound condition has no named column.)
unfoldable pub eval : Rules → List Value → Ast → Outcome
eval R row (leaf (literal v)) = value v
eval R row (leaf (column c)) = value (get_or row c null)
eval R row (leaf (named name)) = value null
eval R row (unary op a) = and_then (eval R row a) (unary_of R op)
eval R row (binary op a b) =
    and_then (eval R row a) (λ v. cond (decides op v) (value (from_bool (to_bool v))) (and_then (eval R row b) (two_sided R op v)))

-- how many nodes a tree has
unfoldable pub size : {A : Type 0} → Tree A → ℕ
size (leaf x) = 1
size (unary op a) = size a + 1
size (binary op a b) = size a + size b + 1

-- how deep it is, a leaf having depth 1
unfoldable pub height : {A : Type 0} → Tree A → ℕ
height (leaf x) = 1
height (unary op a) = height a + 1
height (binary op a b) = max (height a) (height b) + 1

-- how many two-sided operators it has: each may join two texts
unfoldable pub joins : {A : Type 0} → Tree A → ℕ
joins (leaf x) = 0
joins (unary op a) = joins a
joins (binary op a b) = joins a + joins b + 1
