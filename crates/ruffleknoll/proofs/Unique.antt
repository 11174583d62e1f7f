-- For each exported call: two structs that its promise admits are the same, and so are the buffers that it wrote, also where the two
-- lent texts agree below the mark only. So no result depends on what lay above it. What is left open is in docs/EXCEPTIONS.md. Assumes nothing.
use Prim.Native.Nat.{ℕ}
use mathlib.Core.Path.{◌≡◌, refl, sym, subst, ◌∙◌}
use mathlib.Core.Bool.{Bool}
use mathlib.Core.List.{List}
use lib.ListN.{length, take}
use Rattle.refusals.specs.Stop.{unless_stopped}
use Rattle.operators.specs.Operator.{base}
use Rattle.folding.specs.Call as folding
use Rattle.folding.specs.Call.{FoldIs}
use Rattle.replacing.specs.Fold.{Folding}
use Rattle.naming.specs.OneSide.{Head}
use Rattle.heads.specs.Heads as heads
use Rattle.heads.specs.Heads.{HeadIs}
use Rattle.evaluation.specs.Evaluation.{Says, evaluation}
use Rattle.binding.specs.Bind.{BindIs}
use Rattle.binding.proofs.Unique as bind
use Rattle.conjunction.specs.With.{WithIs}
use Rattle.conjunction.proofs.Unique as conjunction
use Rattle.printing.specs.Print.{PrintIs}
use Rattle.printing.proofs.Unique as print
use Rattle.selecting.specs.Select.{SelectIs, DeleteIs}
use Rattle.selecting.proofs.Unique as select
use Rattle.updating.specs.Update.{UpdateIs}
use Rattle.updating.proofs.Unique as update
use Rattle.joins.specs.Join.{InnerJoinIs, LeftJoinIs}
use Rattle.joins.proofs.Unique as join
use Rattle.inserting.specs.Insert.{InsertIs}
use Rattle.inserting.proofs.Unique as insert
use Rattle.answers.specs.Answer.{of_written}
use Rattle.keys.specs.Key.{key_order, rows_stop}
use Rattle.answers.specs.Tells.{Tells}
use Rattle.answers.specs.Row.{PartIs}
use Rattle.answers.specs.Earlier.{which_earlier, which_of}
use Rattle.answers.specs.declared.Answer.{Answer}
use Rattle.answers.specs.declared.Part.{Part}
use Rattle.answers.proofs.Unique.{OneEvaluated, one_evaluated, one_folded, one_joined, one_part, one_struct}
use Rattle.ruffleknoll.specs.Calls.{Evaluates, Folds, Binds, Conjoins, Prints, JoinsColumns, Selects, InnerJoins, LeftJoins, Deletes, Updates, Inserts, TextKept}
use Rattle.std.specs.Prelude.{Result}
use Rattle.refusals.specs.declared.Refusal.{Refusal}

-- two lent texts that are as long as each other and the same below the mark
pub record SameBelow (used : ℕ) (text text' : List ℕ) : Type 0 where
  pub long : length text ≡ length text'
  pub below : take used text ≡ take used text'

-- what is said of a text's length and of its bytes below the mark is true of both
module _ (P : ℕ → List ℕ → Type 0) (used : ℕ) (text text' : List ℕ) (s : SameBelow used text text') where
  also : P (length text') (take used text') → P (length text) (take used text)
  also p = subst (λ n. P n (take used text)) (sym s.long) (subst (P (length text')) (sym s.below) p)

-- the calls that tell a count: a definition whose answers are unique makes the struct unique
module _ (used : ℕ) (Is : ℕ → List ℕ → List ℕ → Result ℕ Refusal → Type 0)
    (one : (size : ℕ) (stored written written' : List ℕ) (a b : Result ℕ Refusal) → Is size stored written a → Is size stored written' b → (a ≡ b) × (written ≡ written'))
    (text text' written written' : List ℕ) (s : SameBelow used text text') (r r' : Answer) where
  one_count : Tells (Result ℕ Refusal) (of_written used) (Is (length text) (take used text) written) r → Tells (Result ℕ Refusal) (of_written used) (Is (length text') (take used text') written') r'
      → (r ≡ r') × (written ≡ written')
  one_count h k =
      let e = one (length text) (take used text) written written' h.answer k.answer h.is (also (λ n t. Is n t written' k.answer) used text text' s k.is) in (
        one_struct (Result ℕ Refusal) (of_written used) (Is (length text) (take used text) written) (Is (length text') (take used text') written') r r' h k e.0,
        e.1,
      )

module _ (used : ℕ) (text text' : List ℕ) (s : SameBelow used text text') (r r' : Answer) where
  -- but for the start of a computed text
  pub one_evaluate : (condition row after after' : List ℕ) → Evaluates condition row text used after r → Evaluates condition row text' used after' r'
      → OneEvaluated condition used after after' r r'
  one_evaluate condition row after after' h k =
      one_evaluated base condition row text after after' used r r' h record {
        answer = k.answer;
        is = record {
          kept = k.is.kept ∙ sym s.below;
          says = also (λ n t. Says condition row after' used k.answer (evaluation base condition row t n used)) used text text' s k.is.says;
        };
        says = k.says;
      }

  module _ (condition out after after' written written' : List ℕ) where
    abbrev folded : Folding
    folded = folding.folding base condition (take used text) (length text) used (length out)

    -- the text below the mark that is told, too
    pub one_fold : Folds condition text used out after written r → Folds condition text' used out after' written' r'
        → (r ≡ r') × (written ≡ written') × (take (length (folding.stored_after folded (take used text))) after ≡ take (length (folding.stored_after folded (take used text))) after')
    one_fold h k =
        one_folded used folded (take used text) after after' out written written' r r' h record {
          answer = k.answer;
          is = also (λ n t. FoldIs (folding.folding base condition t n used (length out)) t after' out written' k.answer) used text text' s k.is;
          says = k.says;
        }

  module _ (pads : Bool) (left_name left right_name right out after after' written written' : List ℕ) where
    abbrev headed : Head
    headed = heads.head pads left_name left right_name right (take used text) (length text) used (length out)

    -- the text below the mark that is told, too; inner_join_columns and left_join_columns
    pub one_join_columns : JoinsColumns pads left_name left right_name right text used out after written r
        → JoinsColumns pads left_name left right_name right text' used out after' written' r'
        → (r ≡ r') × (written ≡ written') × (take (length (heads.stored_after headed (take used text))) after ≡ take (length (heads.stored_after headed (take used text))) after')
    one_join_columns h k =
        one_joined used headed (take used text) after after' out written written' r r' h record {
          answer = k.answer;
          is = also (λ n t. HeadIs (heads.head pads left_name left right_name right t n used (length out)) t after' out written' k.answer) used text text' s k.is;
          says = k.says;
        }

  module _ (out written written' : List ℕ) where
    pub one_bind : (condition columns : List ℕ) → Binds condition columns text used out written r → Binds condition columns text' used out written' r'
        → (r ≡ r') × (written ≡ written')
    one_bind condition columns =
        one_count used (λ n t w. BindIs condition columns t n used out w) (λ n t w w'. bind.one_bind condition columns t n used out w w') text text' written written' s r r'

    pub one_with : (old new : List ℕ) → Conjoins old new text used out written r → Conjoins old new text' used out written' r' → (r ≡ r') × (written ≡ written')
    one_with old new =
        one_count used (λ n t w. WithIs n used old new out w) (λ n t w w'. conjunction.one_with n used old new out w w') text text' written written' s r r'

    pub one_print : (condition : List ℕ) → Prints condition text used out written r → Prints condition text' used out written' r' → (r ≡ r') × (written ≡ written')
    one_print condition =
        one_count used (λ n t w. PrintIs condition t n used out w) (λ n t w w'. print.one_print condition t n used out w w') text text' written written' s r r'

    pub one_select : (columns rows list condition : List ℕ) → Selects columns rows list condition text used out written r
        → Selects columns rows list condition text' used out written' r' → (r ≡ r') × (written ≡ written')
    one_select columns rows list condition =
        one_count used (λ n t w. SelectIs base columns rows list condition t n used out w)
        (λ n t w w' a b. select.one_select base columns rows condition t n used out w w' a b list) text text' written written' s r r'

    pub one_delete : (columns rows condition : List ℕ) → Deletes columns rows condition text used out written r
        → Deletes columns rows condition text' used out written' r' → (r ≡ r') × (written ≡ written')
    one_delete columns rows condition =
        one_count used (λ n t w. DeleteIs base columns rows condition t n used out w)
        (λ n t w w'. select.one_delete base columns rows condition t n used out w w') text text' written written' s r r'

    pub one_update : (columns rows sets condition : List ℕ) → Updates columns rows sets condition text used out written r
        → Updates columns rows sets condition text' used out written' r' → (r ≡ r') × (written ≡ written')
    one_update columns rows sets condition =
        one_count used (λ n t w. UpdateIs base columns rows sets condition t n used out w)
        (λ n t w w'. update.one_update base columns rows sets condition t n used out w w') text text' written written' s r r'

    pub one_insert : (columns old new : List ℕ) → Inserts columns old new text used out written r
        → Inserts columns old new text' used out written' r' → (r ≡ r') × (written ≡ written')
    one_insert columns old new =
        one_count used (λ n t w. InsertIs columns t old new n used out w)
        (λ n t w w'. insert.one_insert columns t old new n used out w w') text text' written written' s r r'

    module _ (left_columns left right_columns right condition : List ℕ) where
      pub one_inner_join : InnerJoins left_columns left right_columns right condition text used out written r
          → InnerJoins left_columns left right_columns right condition text' used out written' r' → (r ≡ r') × (written ≡ written')
      one_inner_join =
          one_count used (λ n t w. InnerJoinIs base left_columns left right_columns right condition t n used out w)
          (λ n t w w'. join.one_inner_join base left_columns left right_columns right condition t n used out w w') text text' written written' s r r'

      pub one_left_join : LeftJoins left_columns left right_columns right condition text used out written r
          → LeftJoins left_columns left right_columns right condition text' used out written' r' → (r ≡ r') × (written ≡ written')
      one_left_join =
          one_count used (λ n t w. LeftJoinIs base left_columns left right_columns right condition t n used out w)
          (λ n t w w'. join.one_left_join base left_columns left right_columns right condition t n used out w w') text text' written written' s r r'

-- a call's own text after it: the same below the mark, and all of it where there is no condition
pub one_text : (condition text : List ℕ) (used : ℕ) (after after' : List ℕ) → TextKept condition text used after → TextKept condition text used after'
    → TextKept condition after used after'
one_text condition text used after after' h k = (k.0 ∙ sym h.0, λ e. k.1 e ∙ sym (h.1 e))

-- `earlier` hands back one number
pub one_earlier : (columns text text' : List ℕ) (used : ℕ) (first second : List ℕ) → SameBelow used text text'
    → which_earlier columns text used first second ≡ which_earlier columns text' used first second
unfolding which_earlier
one_earlier columns text text' used first second s =
    also (λ n t. unless_stopped (λ number place. 0) (rows_stop columns n used first second) (which_of (key_order columns t first second)) ≡ which_earlier columns text' used first second)
    used text text' s refl

-- `row` is lent no text
pub one_row : (rows : List ℕ) (width number : ℕ) (p q : Part) → PartIs rows width number p → PartIs rows width number q → p ≡ q
one_row = one_part
