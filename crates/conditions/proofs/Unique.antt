-- Two results that satisfy a contract of this crate are equal, but for what docs/EXCEPTIONS.md leaves open; those of node_of and leaf are equations already.
-- Assumes nothing.
use mathlib.Core.Path.{◌≡◌, sym, ap, ◌∙◌}
use mathlib.Core.List.{List}
use mathlib.Core.Bool.{Bool, false}
use Prim.Native.Nat.{ℕ}
use lib.ListN.{length, take, get_or}
use Rattle.cells.specs.Cell.{WellFormed, ref_of}
use Rattle.cells.proofs.Stops.{never_stops}
use Rattle.values.specs.Value.{value_of, to_bool}
use Rattle.values.proofs.ByWord.{is_str, one_word}
use Rattle.integers.specs.Outcome.{Outcome, value, number_of}
use Rattle.integers.proofs.Unique.{one_value}
use Rattle.operators.specs.declared.Rules.{Rules}
use Rattle.conditions.specs.Ast.{decides}
use Rattle.conditions.specs.Table.{node_of, Answers, Lies, LiesAt}
use Rattle.conditions.specs.declared.Node.{Node}
use Rattle.conditions.specs.declared.Node.TheVariants.{Leaf, One, Two}
use Rattle.std.specs.Prelude.{Result, Ok, Err}
use Rattle.integers.specs.declared.Fault.{Fault}
use Rattle.integers.proofs.Unique.{no_fault, one_fault}

-- truth, of a cell that is well formed in some text
pub one_truth : (word : ℕ) (r s : Bool) (stored : List ℕ) → WellFormed (length stored) word
    → ((stored : List ℕ) → WellFormed (length stored) word → r ≡ to_bool (value_of stored word))
    → ((stored : List ℕ) → WellFormed (length stored) word → s ≡ to_bool (value_of stored word)) → r ≡ s
one_truth word r s stored h f g = f stored h ∙ sym (g stored h)

-- decided, of a cell that is well formed in some text
pub one_decision : (op left : ℕ) (r s : Bool) (stored : List ℕ) → WellFormed (length stored) left
    → ((stored : List ℕ) → WellFormed (length stored) left → r ≡ decides op (value_of stored left))
    → ((stored : List ℕ) → WellFormed (length stored) left → s ≡ decides op (value_of stored left)) → r ≡ s
one_decision op left r s stored h f g = f stored h ∙ sym (g stored h)

-- ---- evaluate

-- where the node is a leaf, the two words are equal
abbrev pub SameLeaf : Node → ℕ → ℕ → Type 0
SameLeaf (Leaf x) w w' = w ≡ w'
SameLeaf (One op) w w' = Unit {0}
SameLeaf (Two op l) w w' = Unit {0}

-- two cells, each under its own top: they mean the same; their words differ at most where they are a text that was computed
pub record Alike (node : Node) (text text' : List ℕ) (w w' : ℕ) : Type 0 where
  pub content : value_of text w ≡ value_of text' w'
  pub exact : is_str (ref_of w) ≡ false → w ≡ w'
  pub leaf : SameLeaf node w w'

-- two answers: alike cells, or the same refusal; the tops may differ
abbrev pub Same : Node → List ℕ → List ℕ → Result (ℕ × ℕ) Fault → Result (ℕ × ℕ) Fault → Type 0
Same node after after' (Ok (w, u)) (Ok (w', u')) = Alike node (take u after) (take u' after') w w'
Same node after after' (Ok (w, u)) (Err fault) = ⊥
Same node after after' (Err fault) s = Err fault ≡ s

-- the number of an outcome's refusal
numbered : Outcome → ℕ
numbered (value v) = 0
numbered (Outcome.refused number) = number

one_leaf : (top : ℕ) (node : Node) (row : List ℕ) (w w' : ℕ) → LiesAt top node row w → LiesAt top node row w' → SameLeaf node w w'
one_leaf top (Leaf x) row w w' h k = h ∙ sym k
one_leaf top (One op) row w w' h k = tt
one_leaf top (Two op l) row w w' h k = tt

alike : (node : Node) (x y : List ℕ) (u u' w w' : ℕ) → value_of x w ≡ value_of y w' → WellFormed u w → WellFormed u' w' → SameLeaf node w w' → Alike node x y w w'
alike node x y u u' w w' e h k l = record {
  content = e;
  exact = λ n. one_word x y w w' (never_stops u w 0 h).0 (never_stops u' w' 0 k).0 n e;
  leaf = l;
}

module _ (R : Rules) (used top depth k : ℕ) (nodes row before after after' : List ℕ) where
  abbrev node : Node
  node = node_of (get_or nodes k 0)

  one_answer : (r s : Result (ℕ × ℕ) Fault) → Answers R used top depth k nodes row before after r → Lies top node row r
      → Answers R used top depth k nodes row before after' s → Lies top node row s → Same node after after' r s
  unfolding numbered
  one_answer (Ok (w, u)) (Ok (w', u')) h l i m =
      alike node (take u after) (take u' after') u u' w w' (one_value (sym h.says.0 ∙ i.says.0)) h.says.1 i.says.1 (one_leaf top node row w w' l m)
  one_answer (Ok (w, u)) (Err g) h l i m = let e : 0 ≡ number_of g = ap numbered (sym h.says.0 ∙ i.says) in no_fault g (sym e)
  one_answer (Err f) (Ok (w, u)) h l i m = absurd (let e : number_of f ≡ 0 = ap numbered (sym h.says ∙ i.says.0) in no_fault f e)
  one_answer (Err f) (Err g) h l i m = let e : number_of f ≡ number_of g = ap numbered (sym h.says ∙ i.says) in ap Err (one_fault f g e)

  -- evaluate
  pub one_evaluation : (r s : Result (ℕ × ℕ) Fault) → Answers R used top depth k nodes row before after r → Lies top node row r
      → Answers R used top depth k nodes row before after' s → Lies top node row s
      → (take top after ≡ take top after') × Same node after after' r s
  one_evaluation r s h l i m = (h.kept ∙ sym i.kept, one_answer r s h l i m)
