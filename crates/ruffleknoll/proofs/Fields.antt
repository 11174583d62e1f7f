-- What the struct of a join has in each field, by what the definition of joins comes to. (Of the other calls: answers/proofs/Fields.antt.) Assumes nothing.
use Prim.Native.Nat.{ℕ}
use mathlib.Core.Path.{◌≡◌}
use mathlib.Core.List.{List, []}
use lib.ListN.{length, take}
use Rattle.refusals.specs.Stop.{never, stop}
use Rattle.operators.specs.Operator.{base}
use Rattle.entries.specs.Entries.{Row, row_in, Given, list_words, Outcome, answered, refused, left_join, inner_join}
use Rattle.joins.specs.Join.{rows_of, is_whole, given_of, OutcomeIs}
use Rattle.answers.specs.Answer.{accepted, of_written}
use Rattle.answers.specs.Tells.{Tells}
use Rattle.answers.specs.declared.Answer.{Answer}
use Rattle.answers.proofs.Fields.{stopped, written_fields}
use Rattle.ruffleknoll.specs.Calls.{InnerJoins, LeftJoins}
use Rattle.std.specs.Prelude.{Result}
use Rattle.refusals.specs.declared.Refusal.{Refusal}

-- the rows written are the entries listed
abbrev pub of_outcome : ℕ → Outcome → Answer
of_outcome used (answered es) = accepted (length es) used
of_outcome used (refused number place) = stopped used number place

outcome_fields : (used : ℕ) (g : Given) (rights : List Row) (before after : List ℕ) (o : Outcome) (r : Answer)
    → Tells (Result ℕ Refusal) (of_written used) (λ w. OutcomeIs g rights before after w o) r → r ≡ of_outcome used o
outcome_fields used g rights before after (answered es) r h =
    written_fields used before after never (length es) (list_words (row_in g.left) (row_in rights) g.columns es) r h
outcome_fields used g rights before after (refused number place) r h = written_fields used before after (stop number place) 0 [] r h

module _ (left_columns left right_columns right condition text : List ℕ) (used : ℕ) (out written : List ℕ) (r : Answer) where
  abbrev given : Given
  given = given_of base left_columns left right_columns (is_whole right_columns right) condition (take used text) (length text) used

  pub inner_join_fields : InnerJoins left_columns left right_columns right condition text used out written r
      → r ≡ of_outcome used (inner_join given (rows_of right_columns right) (length out))
  inner_join_fields = outcome_fields used given (rows_of right_columns right) out written (inner_join given (rows_of right_columns right) (length out)) r

  pub left_join_fields : LeftJoins left_columns left right_columns right condition text used out written r
      → r ≡ of_outcome used (left_join given (rows_of right_columns right) (length out))
  left_join_fields = outcome_fields used given (rows_of right_columns right) out written (left_join given (rows_of right_columns right) (length out)) r
