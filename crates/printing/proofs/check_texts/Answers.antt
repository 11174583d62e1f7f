-- `printing::check_texts` meets its contract. The loop's invariant: what is left to look at decides. Assumes nothing.
use mathlib.Core.Path.{sym, ◌∙◌}
use Prim.Native.Nat.{◌+◌, ◌≤◌}
use native.Mathlib.Omega.{arith}
use lib.ListN.{length}
use Rattle.printing.proofs.Texts.{left_end, left_inside, left_text, left_found, left_turn}
use Rattle.printing.proofs.check_texts.Goals as goal

pub is_unprintable-requires : goal.is_unprintable-requires
is_unprintable-requires c = (c.loop-at-test.true, left_text c.loop-at.invariant c.loop-at-test.true)

pub returns-then-is_unprintable : goal.returns-then-is_unprintable
returns-then-is_unprintable c = sym (left_found c.loop-at.invariant c.loop-at-test.true (sym c.is_unprintable.ensures ∙ c.if-is_unprintable.true))

pub overflow_add-at-in-loop-at : goal.overflow_add-at-in-loop-at
overflow_add-at-in-loop-at c = let q : c.loop-at.at + 1 + c.body_of-body.result ≤ length c.args.b.now = rw (c.body_of-body.ensures, c.wide.ensures.0) (left_inside c.loop-at.invariant c.loop-at-test.true) in
    omega (arith, c.well_formed)

pub loop-at-preserved : goal.loop-at-preserved
loop-at-preserved c = rw (c.body_of-body.ensures, c.wide.ensures.0) (left_turn c.loop-at.invariant c.loop-at-test.true (sym c.is_unprintable.ensures ∙ c.if-is_unprintable.false))

pub returns : goal.returns
returns c = sym (left_end c.loop-at.invariant c.loop-at-test.false)
