-- `evaluation::check_numbers` meets its contract. The loop's invariant: what is left to look at decides. Assumes nothing.
use mathlib.Core.Path.{sym, ◌∙◌}
use Prim.Native.Nat.{◌≤◌}
use Rattle.nodes.proofs.Bodies.{body_short}
use Rattle.forms.proofs.Numbers.{numbers_end, numbers_full, numbers_found, numbers_turn}
use native.Mathlib.Omega.{arith}
use Rattle.evaluation.proofs.check_numbers.Goals as goal

pub returns-then-b-at : goal.returns-then-b-at
returns-then-b-at c = sym (c.loop.invariant ∙ numbers_end _ _ _ _ c.if-b-at.true)

pub returns-then-is_missing : goal.returns-then-is_missing
returns-then-is_missing c = sym (c.loop.invariant ∙ numbers_found _ _ _ _ c.loop.auto.counter-end (λ e. omega (arith, c.loop-test.true)) c.if-b-at.false (sym c.is_missing.ensures ∙ c.if-is_missing.true))

pub overflow_add-at-in-loop : goal.overflow_add-at-in-loop
overflow_add-at-in-loop c = let q : c.body_of-body.result ≤ 6 = rw c.body_of-body.ensures (body_short c.wide.result) in omega (arith, c.if-b-at.false)

pub loop-preserved : goal.loop-preserved
loop-preserved c = rw (c.body_of-body.ensures, c.wide.ensures.0)
    (c.loop.invariant ∙ numbers_turn _ _ _ _ c.loop.auto.counter-end (λ e. omega (arith, c.loop-test.true)) c.if-b-at.false (sym c.is_missing.ensures ∙ c.if-is_missing.false))

pub returns : goal.returns
returns c = sym (c.loop.invariant ∙ numbers_full _ _ _ _ (omega (arith, c.loop-test.false, c.loop.auto.counter-end)))
