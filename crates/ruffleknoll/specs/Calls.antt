-- What each exported call promises, in the order of its arguments: what was lent, then the buffers after the call, then the struct
-- (docs/DECISIONS.md, "Exported calls"). Assumes nothing: these are definitions.
use Rattle.std.specs.Prelude.{ℕ, ◌≡◌, Bool, List, length, take}
use Rattle.operators.specs.Operator.{base}
use Rattle.evaluation.specs.Evaluation.{EvaluatedIs}
use Rattle.folding.specs.Call.{FoldIs, folding}
use Rattle.binding.specs.Bind.{BindIs}
use Rattle.conjunction.specs.With.{WithIs}
use Rattle.printing.specs.Print.{PrintIs}
use Rattle.heads.specs.Heads.{HeadIs, head}
use Rattle.selecting.specs.Select.{SelectIs, DeleteIs}
use Rattle.updating.specs.Update.{UpdateIs}
use Rattle.joins.specs.Join.{InnerJoinIs, LeftJoinIs}
use Rattle.inserting.specs.Insert.{InsertIs}
use Rattle.answers.specs.Answer.{of_evaluated, of_shortened, of_written, of_joined}
use Rattle.answers.specs.Tells.{Tells}
use Rattle.answers.specs.declared.Answer.{Answer}
use Rattle.std.specs.Prelude.{Result}
use Rattle.refusals.specs.declared.Refusal.{Refusal}

-- what `evaluate` tells and leaves
abbrev pub Evaluates : (condition row text : List ℕ) (used : ℕ) (after : List ℕ) → Answer → Type 0
Evaluates condition row text used after = Tells (Result ℕ Refusal) (of_evaluated used) (λ e. EvaluatedIs base condition row text after used e)

-- what `fold` tells and leaves
abbrev pub Folds : (condition text : List ℕ) (used : ℕ) (out after written : List ℕ) → Answer → Type 0
Folds condition text used out after written =
    Tells (Result (ℕ × ℕ) Refusal) (of_shortened used)
    (λ s. FoldIs (folding base condition (take used text) (length text) used (length out)) (take used text) after out written s)

-- what `bind` tells and leaves
abbrev pub Binds : (condition columns text : List ℕ) (used : ℕ) (out written : List ℕ) → Answer → Type 0
Binds condition columns text used out written = Tells (Result ℕ Refusal) (of_written used) (λ w. BindIs condition columns (take used text) (length text) used out written w)

-- what `with` tells and leaves
abbrev pub Conjoins : (old new text : List ℕ) (used : ℕ) (out written : List ℕ) → Answer → Type 0
Conjoins old new text used out written = Tells (Result ℕ Refusal) (of_written used) (λ w. WithIs (length text) used old new out written w)

-- what `print` tells and leaves
abbrev pub Prints : (condition text : List ℕ) (used : ℕ) (out written : List ℕ) → Answer → Type 0
Prints condition text used out written = Tells (Result ℕ Refusal) (of_written used) (λ w. PrintIs condition (take used text) (length text) used out written w)

-- the columns of both sides of a join; the right ones become nullable where it pads
abbrev pub JoinsColumns : Bool → (left_name left right_name right text : List ℕ) (used : ℕ) (out after written : List ℕ) → Answer → Type 0
JoinsColumns pads left_name left right_name right text used out after written =
    Tells (Result (ℕ × ℕ) Refusal) (of_joined used)
    (λ j. HeadIs (head pads left_name left right_name right (take used text) (length text) used (length out)) (take used text) after out written j)

-- what `select` tells and leaves
abbrev pub Selects : (columns rows list condition text : List ℕ) (used : ℕ) (out written : List ℕ) → Answer → Type 0
Selects columns rows list condition text used out written =
    Tells (Result ℕ Refusal) (of_written used) (λ w. SelectIs base columns rows list condition (take used text) (length text) used out written w)

-- what `inner_join` tells and leaves
abbrev pub InnerJoins : (left_columns left right_columns right condition text : List ℕ) (used : ℕ) (out written : List ℕ) → Answer → Type 0
InnerJoins left_columns left right_columns right condition text used out written =
    Tells (Result ℕ Refusal) (of_written used) (λ w. InnerJoinIs base left_columns left right_columns right condition (take used text) (length text) used out written w)

-- what `left_join` tells and leaves
abbrev pub LeftJoins : (left_columns left right_columns right condition text : List ℕ) (used : ℕ) (out written : List ℕ) → Answer → Type 0
LeftJoins left_columns left right_columns right condition text used out written =
    Tells (Result ℕ Refusal) (of_written used) (λ w. LeftJoinIs base left_columns left right_columns right condition (take used text) (length text) used out written w)

-- what `delete` tells and leaves
abbrev pub Deletes : (columns rows condition text : List ℕ) (used : ℕ) (out written : List ℕ) → Answer → Type 0
Deletes columns rows condition text used out written =
    Tells (Result ℕ Refusal) (of_written used) (λ w. DeleteIs base columns rows condition (take used text) (length text) used out written w)

-- what `update` tells and leaves
abbrev pub Updates : (columns rows sets condition text : List ℕ) (used : ℕ) (out written : List ℕ) → Answer → Type 0
Updates columns rows sets condition text used out written =
    Tells (Result ℕ Refusal) (of_written used) (λ w. UpdateIs base columns rows sets condition (take used text) (length text) used out written w)

-- what `insert` tells and leaves
abbrev pub Inserts : (columns old new text : List ℕ) (used : ℕ) (out written : List ℕ) → Answer → Type 0
Inserts columns old new text used out written =
    Tells (Result ℕ Refusal) (of_written used) (λ w. InsertIs columns (take used text) old new (length text) used out written w)

-- a row call with a condition leaves the text below the mark as it was, and all of it where there is no condition
abbrev pub TextKept : (condition text : List ℕ) (used : ℕ) (after : List ℕ) → Type 0
TextKept condition text used after = (take used after ≡ take used text) × (length condition ≡ 0 → after ≡ text)
