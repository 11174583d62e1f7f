-- `rules::is_valid_value` meets its contract. Assumes nothing.
use mathlib.Core.Path.{sym, ap, ◌∙◌}
use borrow.Author.Tests.{eq-eqb, ne_eqb}
use Rattle.slices.proofs.Pieces.{piece_length}
use Rattle.cells.specs.Cell.{Inside}
use Rattle.values.specs.Value.{to_value}
use Rattle.rules.specs.Rule.{within_bound, is_valid_value, bound_of}
use Rattle.rules.proofs.is_valid_value.Goals as goal

pub returns-then-rule-eq2 : goal.returns-then-rule-eq2
unfolding to_value is_valid_value Inside
returns-then-rule-eq2 c = λ t h. rw (c.in-Str.is, eq-eqb _ _ c.if-rule-eq2.true)
    (c.within_bound.ensures ∙ sym (ap (λ n. within_bound n (bound_of c.args.rule)) (piece_length _ _ t (rw c.in-Str.is at h))))

pub returns-in-Null : goal.returns-in-Null
unfolding to_value is_valid_value
returns-in-Null c = λ t h. rw c.in-Null.is c.is_nullable.ensures

pub returns-in-Int : goal.returns-in-Int
unfolding to_value is_valid_value
returns-in-Int c = λ t h. rw c.in-Int.is

pub returns-else-rule-eq2 : goal.returns-else-rule-eq2
unfolding to_value is_valid_value
returns-else-rule-eq2 c = λ t h. rw (c.in-Str.is, ne_eqb _ _ c.if-rule-eq2.false)

pub returns-in-Binary : goal.returns-in-Binary
unfolding to_value is_valid_value
returns-in-Binary c = λ t h. rw c.in-Binary.is
