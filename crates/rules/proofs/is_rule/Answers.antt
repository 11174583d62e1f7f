-- `rules::is_rule` meets its contract. Assumes nothing.
use Prim.Native.Nat.{◌%◌}
use borrow.Author.Tests.{lt-ltb, le-ltb, eq-eqb, ne_eqb}
use Rattle.rules.specs.Rule.{is_rule}
use native.Mathlib.Omega.{arith}
use Rattle.rules.proofs.is_rule.Goals as goal

pub returns-then-rule-ge4294967296 : goal.returns-then-rule-ge4294967296
unfolding is_rule
returns-then-rule-ge4294967296 c = rw (le-ltb _ _ c.if-rule-ge4294967296.true)

pub returns-then-rule-ne0 : goal.returns-then-rule-ne0
unfolding is_rule
returns-then-rule-ne0 c = rw (lt-ltb _ _ c.if-rule-ge4294967296.false, ne_eqb _ _ c.if-rule-ne0.true)

pub returns-then-rule-eq2 : goal.returns-then-rule-eq2
unfolding is_rule
returns-then-rule-eq2 c = rw (lt-ltb _ _ c.if-rule-ge4294967296.false, eq-eqb _ _ c.if-rule-ne0.false, eq-eqb _ _ c.if-rule-eq2.true)

pub returns-then-rule-ne0-2 : goal.returns-then-rule-ne0-2
unfolding is_rule
returns-then-rule-ne0-2 c = rw (lt-ltb _ _ c.if-rule-ge4294967296.false, eq-eqb _ _ c.if-rule-ne0.false, ne_eqb _ _ c.if-rule-eq2.false, ne_eqb _ _ c.if-rule-ne0-2.true)

pub returns-in-1 : goal.returns-in-1
unfolding is_rule
returns-in-1 c = rw (lt-ltb _ _ c.if-rule-ge4294967296.false, eq-eqb _ _ c.if-rule-ne0.false, ne_eqb _ _ c.if-rule-eq2.false, eq-eqb _ _ c.if-rule-ne0-2.false, eq-eqb _ _ c.in-1.is)

pub returns-in-3 : goal.returns-in-3
unfolding is_rule
returns-in-3 c = rw (
  lt-ltb _ _ c.if-rule-ge4294967296.false,
  eq-eqb _ _ c.if-rule-ne0.false,
  ne_eqb _ _ c.if-rule-eq2.false,
  eq-eqb _ _ c.if-rule-ne0-2.false,
  ne_eqb (c.args.rule % 256) 1 (omega arith),
  eq-eqb _ _ c.in-3.is,
)

pub returns-in_default : goal.returns-in_default
unfolding is_rule
returns-in_default c = rw (
  lt-ltb _ _ c.if-rule-ge4294967296.false,
  eq-eqb _ _ c.if-rule-ne0.false,
  ne_eqb _ _ c.if-rule-eq2.false,
  eq-eqb _ _ c.if-rule-ne0-2.false,
  ne_eqb _ _ c.in_default.in_default-own.rest.0.1,
  ne_eqb _ _ c.in_default.in_default-own.rest.1,
)
