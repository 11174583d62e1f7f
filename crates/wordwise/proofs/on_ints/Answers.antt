-- `wordwise::on_ints` meets its contract. Assumes nothing.
use lib.IntN.{◌+ℤ◌, ◌-ℤ◌, ◌*ℤ◌}
use Rattle.integers.specs.Integer.{on_ints}
use Rattle.integers.proofs.Ranges.{sum_fits, difference_fits, product_fits}
use Rattle.wordwise.proofs.Settling.{given_as, flag_given, ints_given, ints_less, ints_most, ints_greater, ints_least, asked, came}
use native.Mathlib.Omega.{arith}
use Rattle.wordwise.proofs.on_ints.Goals as goal

pub returns-then-op-eq34-clause-is : goal.returns-then-op-eq34-clause-is
returns-then-op-eq34-clause-is c = given_as _ 34 _ _ _ c.if-op-eq34.true (flag_given 34 _ _ _ _ c.flag.ensures (λ R t h k. ints_less R t c.args.a c.args.b c.requires _ _ c.number-x.ensures c.number-y.ensures))

pub returns-then-op-eq35-clause-is : goal.returns-then-op-eq35-clause-is
returns-then-op-eq35-clause-is c = given_as _ 35 _ _ _ c.if-op-eq35.true (flag_given 35 _ _ _ _ c.flag-then-op-eq35.ensures (λ R t h k. ints_most R t c.args.a c.args.b c.requires _ _ c.number-x.ensures c.number-y.ensures))

pub returns-then-op-eq36-clause-is : goal.returns-then-op-eq36-clause-is
returns-then-op-eq36-clause-is c = given_as _ 36 _ _ _ c.if-op-eq36.true (flag_given 36 _ _ _ _ c.flag-then-op-eq36.ensures (λ R t h k. ints_greater R t c.args.a c.args.b c.requires _ _ c.number-x.ensures c.number-y.ensures))

pub returns-then-op-eq37-clause-is : goal.returns-then-op-eq37-clause-is
returns-then-op-eq37-clause-is c = given_as _ 37 _ _ _ c.if-op-eq37.true (flag_given 37 _ _ _ _ c.flag-then-op-eq37.ensures (λ R t h k. ints_least R t c.args.a c.args.b c.requires _ _ c.number-x.ensures c.number-y.ensures))

pub returns-then-op-eq38-clause-is : goal.returns-then-op-eq38-clause-is
unfolding on_ints
returns-then-op-eq38-clause-is c = given_as _ 38 _ _ _ c.if-op-eq38.true
    (ints_given 38 c.args.a c.args.b _ (omega arith) (omega arith) c.requires (came ◌+ℤ◌ sum_fits c.args.a c.args.b _ _ c.number-x.ensures c.number-y.ensures _ c.narrow.ensures))

pub returns-then-op-eq39-clause-is : goal.returns-then-op-eq39-clause-is
unfolding on_ints
returns-then-op-eq39-clause-is c = given_as _ 39 _ _ _ c.if-op-eq39.true
    (ints_given 39 c.args.a c.args.b _ (omega arith) (omega arith) c.requires (came ◌-ℤ◌ difference_fits c.args.a c.args.b _ _ c.number-x.ensures c.number-y.ensures _ c.narrow-then-op-eq39.ensures))

pub overflow_mul-x : goal.overflow_mul-x
overflow_mul-x c = asked ◌*ℤ◌ product_fits c.args.a c.args.b _ _ c.number-x.ensures c.number-y.ensures

pub returns-then-op-eq40-clause-is : goal.returns-then-op-eq40-clause-is
unfolding on_ints
returns-then-op-eq40-clause-is c = given_as _ 40 _ _ _ c.if-op-eq40.true
    (ints_given 40 c.args.a c.args.b _ (omega arith) (omega arith) c.requires (came ◌*ℤ◌ product_fits c.args.a c.args.b _ _ c.number-x.ensures c.number-y.ensures _ c.narrow-then-op-eq40.ensures))
