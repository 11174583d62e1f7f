-- `wordwise::on_words` meets its contract. Assumes nothing.
use lib.Bits.{bit_and, bit_or, bit_xor, and_lt, or_lt, xor_lt}
use Rattle.integers.specs.Integer.{on_ints}
use Rattle.wordwise.proofs.Settling.{given_as, flag_given, ints_given, ints_equal, ints_unequal, on_bits_lem}
use native.Mathlib.Omega.{arith}
use Rattle.wordwise.proofs.on_words.Goals as goal

pub returns-then-op-eq32-clause-is : goal.returns-then-op-eq32-clause-is
returns-then-op-eq32-clause-is c = given_as _ 32 _ _ _ c.if-op-eq32.true (flag_given 32 _ _ _ _ c.flag.ensures (λ R t h k. ints_equal R t c.args.a c.args.b c.requires h k))

pub returns-then-op-eq33-clause-is : goal.returns-then-op-eq33-clause-is
returns-then-op-eq33-clause-is c = given_as _ 33 _ _ _ c.if-op-eq33.true (flag_given 33 _ _ _ _ c.flag-then-op-eq33.ensures (λ R t h k. ints_unequal R t c.args.a c.args.b c.requires h k))

pub returns-then-op-eq42-clause-is : goal.returns-then-op-eq42-clause-is
unfolding on_ints
returns-then-op-eq42-clause-is c = given_as _ 42 _ _ _ c.if-op-eq42.true (ints_given 42 c.args.a c.args.b _ (omega arith) (omega arith) c.requires (on_bits_lem bit_and and_lt c.args.a c.args.b))

pub returns-then-op-eq43-clause-is : goal.returns-then-op-eq43-clause-is
unfolding on_ints
returns-then-op-eq43-clause-is c = given_as _ 43 _ _ _ c.if-op-eq43.true (ints_given 43 c.args.a c.args.b _ (omega arith) (omega arith) c.requires (on_bits_lem bit_or or_lt c.args.a c.args.b))

pub returns-then-op-eq44-clause-is : goal.returns-then-op-eq44-clause-is
unfolding on_ints
returns-then-op-eq44-clause-is c = given_as _ 44 _ _ _ c.if-op-eq44.true (ints_given 44 c.args.a c.args.b _ (omega arith) (omega arith) c.requires (on_bits_lem bit_xor xor_lt c.args.a c.args.b))

pub returns-then-op-lt47-clause-is : goal.returns-then-op-lt47-clause-is
returns-then-op-lt47-clause-is c = ints_given _ _ _ _ c.if-op-lt38.false c.if-op-lt47.true c.requires c.rare.ensures
