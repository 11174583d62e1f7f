-- A condition that one pass worked out is evaluated. Assumes nothing.
use mathlib.Core.Path.{◌≡◌, refl, sym, ap, subst, ◌∙◌}
use mathlib.Core.List.{List}
use Prim.Native.Nat.{ℕ, ◌≤◌}
use native.Mathlib.Omega.{arith}
use lib.ListN.{length, take}
use lib.Seq.{take-length, length-take-le}
use Rattle.refusals.specs.Stop.{never}
use Rattle.cells.specs.Cell.{WellFormed}
use Rattle.cells.proofs.Stops.{inside_more}
use Rattle.values.specs.Value.{value_of}
use Rattle.checks.proofs.Turns.{room_there}
use Rattle.operators.specs.declared.Rules.{Rules}
use Rattle.conditions.specs.Ast.{Tree, size}
use Rattle.conditions.proofs.Giving.{value_more}
use Rattle.nodes.specs.declared.Allowed.TheVariants.{Bound}
use Rattle.forms.specs.Form.{tree, parsed}
use Rattle.forms.proofs.Unique.{one_tree}
use Rattle.straight.specs.Straight.{Straight}
use Rattle.evaluation.specs.Evaluation.{evaluation, stops, at_zero, gave, LiesIn, EvaluatedIs}
use Rattle.evaluation.proofs.Stopping.{row_right, at_none}
use Rattle.std.specs.Prelude.{Ok}

module _ (R : Rules) (b row text : List ℕ) (used w : ℕ) (S : Straight b row text used w) where
  marked : used ≤ length text
  marked = omega (arith, (room_there 32768 (length text) used S.room).1)

  below : length (take used text) ≡ used
  below = length-take-le used text marked

  form : parsed Bound used b ≡ tree S.ran.tree
  form = subst (λ n. parsed Bound n b ≡ tree S.ran.tree) below S.ran.form

  none : stops b row (length text) used ≡ never
  none = at_none b row (length text) used S.room (row_right (length row) S.count.0 S.count.1) S.cells S.ran.tree form S.ran.numbers

  fine : WellFormed used w
  fine = subst (λ n. WellFormed n w) below S.ran.fine

  lies : (t : Tree ℕ) → parsed Bound used b ≡ tree t → LiesIn b row used (size t) w
  lies t e =
      let q : size S.ran.tree ≡ size t = ap size (one_tree form e) in
      record { own = λ o. absurd (omega (arith, S.ran.more)); above = λ l k. absurd (S.ran.plain k) }

  pub passed : EvaluatedIs R b row text text used (Ok w)
  unfolding evaluation
  passed = record {
    kept = refl;
    says = (
      rw (none, form) (ap at_zero (S.ran.means R) ∙ ap (λ v. gave v) (sym (value_more used (length text) text text w marked fine refl) ∙ ap (λ z. value_of z w) (take-length text))),
      inside_more used (length text) w marked fine,
      lies,
    );
  }
