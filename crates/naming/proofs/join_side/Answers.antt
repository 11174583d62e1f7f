-- `naming::join_side` meets its contract. The loop's invariant: the words and the text so far, and then what is left of the side. Assumes nothing.
use mathlib.Core.Path.{◌≡◌}
use Prim.Native.Nat.{◌/◌}
use native.Mathlib.Omega.{arith}
use lib.ListN.{length, length-set}
use Rattle.naming.proofs.Joining.{joining_start, joining_end, joining_asks, joining_refused, joining_turn}
use Rattle.naming.proofs.join_side.Goals as goal

pub loop-i-init : goal.loop-i-init
loop-i-init c = joining_start _ _ _ _ _ _ _ c.requires

pub join_name-requires : goal.join_name-requires
join_name-requires c = joining_asks _ _ _ _ _ _ _ c.requires _ _ _ _ c.loop-i.invariant c.loop-i-test.true

pub returns-in_default : goal.returns-in_default
returns-in_default c = joining_refused _ _ _ _ _ _ _ c.requires _ _ _ _ c.loop-i.invariant c.loop-i-test.true _ _ c.join_name.ensures c.in_default.is

pub bounds-words-at-in-loop-i : goal.bounds-words-at-in-loop-i
bounds-words-at-in-loop-i c = simp length-set (omega (arith, c.loop-i.invariant.space, c.requires.space))

pub loop-i-preserved : goal.loop-i-preserved
loop-i-preserved c = joining_turn _ _ _ _ _ _ _ c.requires _ _ _ _ c.loop-i.invariant c.loop-i-test.true _ _ c.join_name.ensures _ _ _ c.in-Some.is c.join_name.auto.text c.join_rule.ensures

pub returns : goal.returns
returns c = let e : length c.args.columns.now / 2 ≡ c.loop-i.i = omega (arith, c.loop-i-test.false, c.loop-i.auto.i-end) in
    rw e (joining_end _ _ _ _ _ _ _ c.requires _ _ _ _ c.loop-i.invariant c.loop-i-test.false)
