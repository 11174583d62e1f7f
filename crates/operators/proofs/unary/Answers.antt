-- `operators::unary` meets its contract. Assumes nothing.
use mathlib.Core.Path.{◌≡◌, sym, ap, ◌∙◌}
use mathlib.Core.Bool.{not}
use lib.ListN.{length}
use Rattle.cells.specs.Cell.{Inside}
use Rattle.cells.proofs.Stops.{well_inside}
use Rattle.values.specs.Value.{to_value, value_of, from_bool, to_bool}
use Rattle.values.proofs.ByWord.{value_int}
use Rattle.integers.specs.Outcome.{value, placed}
use Rattle.integers.proofs.Placing.{placed_null}
use Rattle.operators.specs.Operator.{unary_of}
use Rattle.operators.proofs.ByKind.{not_int, unary_other}
use native.Mathlib.Omega.{arith}
use Rattle.operators.proofs.unary.Goals as goal

pub returns-then-op-eq18 : goal.returns-then-op-eq18
unfolding unary_of
returns-then-op-eq18 c = λ t h.
    let r = c.from.ensures in
    let i : Inside (length t) c.from.result = rw r (well_inside _ _ h) in
    let e = c.to_bool.ensures t i ∙ ap (λ v. to_bool (to_value t v)) r in
    rw c.if-op-eq18.true (c.flag.ensures c.args.top ∙ ap (λ b. placed c.args.top (value (from_bool (not b)))) e)

pub returns-then-op-eq16 : goal.returns-then-op-eq16
unfolding unary_of
returns-then-op-eq16 c = λ t h. rw (c.if-op-eq16.true, value_int t c.args.a c.if-a-eq1.true) c.negate.ensures

pub returns-then-a-eq1 : goal.returns-then-a-eq1
unfolding unary_of
returns-then-a-eq1 c = λ t h.
    let e : c.args.op ≡ 17 = omega arith in
    rw (e, value_int t c.args.a c.if-a-eq1.true) c.invert.ensures

pub returns : goal.returns
returns c = λ t h.
    let n = c.if-op-eq18.false in
    sym (ap (placed c.args.top) (unary_other c.args.rules c.args.op (value_of t c.args.a) c.requires.0 (omega arith) (not_int t c.args.a c.if-a-eq1.false)) ∙ placed_null c.args.top)
