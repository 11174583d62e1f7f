-- `operators::binary` meets its contract. Assumes nothing.
use mathlib.Core.Path.{◌≡◌, sym, ap, ap₂, subst, ◌∙◌}
use lib.ListN.{length, take}
use lib.Seq.{length-take-le}
use Rattle.cells.specs.Cell.{WellFormed}
use Rattle.values.specs.Value.{value_of, from_bool}
use Rattle.values.proofs.ByWord.{value_int, value_str}
use Rattle.integers.specs.Outcome.{value}
use Rattle.operators.specs.Operator.{compared, binary_of, Applied}
use Rattle.operators.proofs.ByKind.{not_int, not_str, binary_compared, binary_ints, binary_join, binary_texts, binary_int_other, binary_text_other, binary_other, applied_null, applied_ints, applied_flag}
use native.Mathlib.Omega.{arith}
use Rattle.operators.proofs.binary.Goals as goal

pub slice_bounds-compare-end-then-op-lt38 : goal.slice_bounds-compare-end-then-op-lt38
slice_bounds-compare-end-then-op-lt38 c =
    let below : length (take c.args.top c.args.text.now) ≡ c.args.top = length-take-le c.args.top c.args.text.now (omega (arith, c.requires.2.above)) in
    sym below

pub compare-requires : goal.compare-requires
compare-requires c =
    let below : length (take c.args.top c.args.text.now) ≡ c.args.top = length-take-le c.args.top c.args.text.now (omega (arith, c.requires.2.above)) in
    (c.requires.0, c.if-op-lt38.true, subst (λ n. WellFormed n c.args.a) (sym below) c.requires.3, subst (λ n. WellFormed n c.args.b) (sym below) c.requires.4)

pub returns-then-op-lt38 : goal.returns-then-op-lt38
unfolding compared
returns-then-op-lt38 c = applied_flag _ _ c.compare.result _ _
    (binary_compared _ _ (value_of (take c.args.top c.args.text.now) c.args.a) (value_of (take c.args.top c.args.text.now) c.args.b) c.if-op-lt38.true ∙ ap (λ b. value (from_bool b)) (sym c.compare.ensures)) (c.flag.ensures c.args.top)

pub returns-then-other-eq1 : goal.returns-then-other-eq1
returns-then-other-eq1 c = applied_ints _ _ _ _ _ _ _
    (ap₂ (binary_of c.args.rules c.args.op) (value_int (take c.args.top c.args.text.now) _ c.if-kind-eq1.true) (value_int (take c.args.top c.args.text.now) _ c.if-other-eq1.true) ∙ binary_ints _ _ c.if-op-lt38.false _ _) c.on_ints.ensures

pub returns-then-kind-eq1 : goal.returns-then-kind-eq1
returns-then-kind-eq1 c = applied_null _ _ _
    (ap (λ v. binary_of c.args.rules c.args.op v (value_of (take c.args.top c.args.text.now) c.args.b)) (value_int (take c.args.top c.args.text.now) _ c.if-kind-eq1.true) ∙ binary_int_other _ _ c.if-op-lt38.false _ _ (not_int _ _ c.if-other-eq1.false))

pub returns-then-op-eq38 : goal.returns-then-op-eq38
returns-then-op-eq38 c = subst (λ o. Applied c.args.text.now c.join.new.text c.args.top c.join.result o)
    (sym (ap₂ (binary_of c.args.rules c.args.op) (value_str (take c.args.top c.args.text.now) _ c.if-kind-eq2.true) (value_str (take c.args.top c.args.text.now) _ c.if-other-eq2.true) ∙ binary_join _ _ c.if-op-lt38.false _ _ c.if-op-eq38.true))
    c.join.ensures

pub returns-then-other-eq2 : goal.returns-then-other-eq2
returns-then-other-eq2 c = applied_null _ _ _
    (ap₂ (binary_of c.args.rules c.args.op) (value_str (take c.args.top c.args.text.now) _ c.if-kind-eq2.true) (value_str (take c.args.top c.args.text.now) _ c.if-other-eq2.true) ∙ binary_texts _ _ c.if-op-lt38.false _ _ c.if-op-eq38.false)

pub returns-then-kind-eq2 : goal.returns-then-kind-eq2
returns-then-kind-eq2 c = applied_null _ _ _
    (ap (λ v. binary_of c.args.rules c.args.op v (value_of (take c.args.top c.args.text.now) c.args.b)) (value_str (take c.args.top c.args.text.now) _ c.if-kind-eq2.true) ∙ binary_text_other _ _ c.if-op-lt38.false _ _ (not_str _ _ c.if-other-eq2.false))

pub returns : goal.returns
returns c = applied_null _ _ _ (binary_other _ _ c.if-op-lt38.false _ _ (not_int (take c.args.top c.args.text.now) _ c.if-kind-eq1.false) (not_str (take c.args.top c.args.text.now) _ c.if-kind-eq2.false))
