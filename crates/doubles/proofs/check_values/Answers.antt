-- `doubles::check_values` meets its contract. The loop's invariant: what stops the cells is what stops those that are left.
-- Assumes nothing.
use mathlib.Core.Path.{refl, sym, ap, ◌∙◌}
use mathlib.Core.Bool.{not}
use Prim.Native.Nat.{◌+◌, ◌*◌, ◌%◌, ◌<◌}
use native.Mathlib.Omega.{arith}
use lib.ListN.{length}
use Rattle.tables.specs.Table.{column_count}
use Rattle.doubles.proofs.Valid.{rule_there, values_end, values_stopped, values_on}
use borrow.Author.Rules.{rules}
use Rattle.doubles.proofs.check_values.Goals as goal

pub loop-i-init : goal.loop-i-init
loop-i-init c = refl

pub nonzero_rem-rule : goal.nonzero_rem-rule
nonzero_rem-rule c = omega (arith, c.requires.1)

pub overflow_mul-rule : goal.overflow_mul-rule
overflow_mul-rule c =
    let there : 2 * (c.loop-i.i % column_count c.args.columns.now) + 1 < length c.args.columns.now = rule_there c.args.columns.now c.loop-i.i c.requires.0 c.requires.1 in
    omega (arith, there)

pub overflow_add-rule : goal.overflow_add-rule
overflow_add-rule c =
    let there : 2 * (c.loop-i.i % column_count c.args.columns.now) + 1 < length c.args.columns.now = rule_there c.args.columns.now c.loop-i.i c.requires.0 c.requires.1 in
    omega (arith, there)

pub offset_bounds-columns-i : goal.offset_bounds-columns-i
offset_bounds-columns-i c =
    let there : 2 * (c.loop-i.i % column_count c.args.columns.now) + 1 < length c.args.columns.now = rule_there c.args.columns.now c.loop-i.i c.requires.0 c.requires.1 in
    omega (arith, there)

pub bounds-columns-i : goal.bounds-columns-i
bounds-columns-i c =
    let there : 2 * (c.loop-i.i % column_count c.args.columns.now) + 1 < length c.args.columns.now = rule_there c.args.columns.now c.loop-i.i c.requires.0 c.requires.1 in
    omega (arith, there)

pub returns-then-not-is_valid_value : goal.returns-then-not-is_valid_value
returns-then-not-is_valid_value c =
    let inside : c.loop-i.i < length c.args.rows.now = omega (arith, c.loop-i-test.true) in
    sym (c.loop-i.invariant ∙ values_stopped _ _ _ _ inside c.requires.2 _ c.from.ensures _ c.is_valid_value.ensures (ap not c.if-not-is_valid_value.true))

pub loop-i-preserved : goal.loop-i-preserved
loop-i-preserved c =
    let inside : c.loop-i.i < length c.args.rows.now = omega (arith, c.loop-i-test.true) in
    (c.loop-i.invariant ∙ values_on _ _ _ _ inside c.requires.2 _ c.from.ensures _ c.is_valid_value.ensures (ap not c.if-not-is_valid_value.false))

pub returns : goal.returns
returns c = sym (c.loop-i.invariant ∙ values_end _ _ _ _ c.loop-i-test.false)
