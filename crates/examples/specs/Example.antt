-- What an example is: a call with its inputs, and the answer expected. Assumes nothing: these are definitions.
use Rattle.std.specs.Prelude.{ℕ, Bool, false, List, [], ◌∷◌, eqb}
use Rattle.slices.specs.Bytes.{both, is_equal, same_bytes}
use Rattle.values.specs.Value.{Value}
use Rattle.values.specs.Order.{order}
use Rattle.integers.specs.Outcome.{Outcome, value}
use Rattle.operators.specs.Operator.{unary_of, binary_of, base}
use Rattle.evaluation.specs.Evaluation.{Report, gave, evaluation}
use Rattle.postfix.specs.Postfix.{bytes_of}
use Rattle.replacing.specs.Fold.{Folding, folded}
use Rattle.folding.specs.Call.{folding}
use Rattle.entries.specs.Entries.{Row, row_in, Given, list_words, Outcome as JoinOutcome, answered, left_join}
use Rattle.joins.specs.Join.{rows_of, is_whole, given_of}

-- an operator by its kind's number, over values; a condition's bytes evaluated on a row of words; a condition's bytes folded;
-- a left join by a condition's bytes of the words of left and of right rows, one Int column each
pub data Call : Type 0 where
  unary : ℕ → Value → Call
  binary : ℕ → Value → Value → Call
  evaluates : List ℕ → List ℕ → Call
  folds : List ℕ → Call
  left_joins : List ℕ → List ℕ → List ℕ → Call

-- a value, an operator's refusal by its number, a call's refusal with its place, or the bytes or words that are written
pub data Expected : Type 0 where
  gives : Value → Expected
  stops : ℕ → Expected
  refuses : ℕ → ℕ → Expected
  writes : List ℕ → Expected

-- document 01's number of the example, the call, and its answer
pub record Example : Type 0 where
  pub number : ℕ
  pub call : Call
  pub answer : Expected

-- what an operator comes to
abbrev pub of_outcome : Outcome → Expected
of_outcome (value v) = gives v
of_outcome (Outcome.refused number) = stops number

-- what one evaluation comes to
abbrev pub of_result : Report → Expected
of_result (gave v) = gives v
of_result (Report.refused number place) = refuses number place

-- what folding comes to
abbrev pub of_folding : Folding → Expected
of_folding (folded t stored) = writes (bytes_of t)
of_folding (Folding.refused number place) = refuses number place

-- the words of a table of one column: its name is the first stored byte, its rule that of an Int
abbrev pub int_column : List ℕ
int_column = 144115188075855873 ∷ 1 ∷ []

-- what a join comes to
abbrev pub of_join : Given → List Row → JoinOutcome → Expected
of_join g rights (answered es) = writes (list_words (row_in g.left) (row_in rights) g.columns es)
of_join g rights (JoinOutcome.refused number place) = refuses number place

-- a left join's answer, the name "a" being stored and the output having so many words
abbrev pub of_left_join : Given → List Row → ℕ → Expected
of_left_join g rights output = of_join g rights (left_join g rights output)

-- what the definitions say of a call: no text is stored, but for a join's column name, and there is just the room that is asked for
abbrev pub run : Call → Expected
run (unary op v) = of_outcome (unary_of base op v)
run (binary op v w) = of_outcome (binary_of base op v w)
run (evaluates b row) = of_result (evaluation base b row [] 32768 0)
run (folds b) = of_folding (folding base b [] 32768 0 448)
run (left_joins b left right) = of_left_join (given_of base int_column left int_column (is_whole int_column right) b (97 ∷ []) 32769 1) (rows_of int_column right) 8

-- the test that two answers are the same
abbrev pub same_answer : Expected → Expected → Bool
same_answer (gives v) (gives w) = is_equal (order v w)
same_answer (gives v) (stops n) = false
same_answer (gives v) (refuses n p) = false
same_answer (gives v) (writes b) = false
same_answer (stops m) (gives w) = false
same_answer (stops m) (stops n) = eqb m n
same_answer (stops m) (refuses n p) = false
same_answer (stops m) (writes b) = false
same_answer (refuses m p) (gives w) = false
same_answer (refuses m p) (stops n) = false
same_answer (refuses m p) (refuses n q) = both (eqb m n) (eqb p q)
same_answer (refuses m p) (writes b) = false
same_answer (writes a) (gives w) = false
same_answer (writes a) (stops n) = false
same_answer (writes a) (refuses n q) = false
same_answer (writes a) (writes b) = same_bytes a b

-- the example comes out as expected
unfoldable pub comes_out : Example → Bool
comes_out e = same_answer (run e.call) e.answer
