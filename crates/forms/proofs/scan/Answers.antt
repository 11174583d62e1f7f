-- `forms::scan` meets its contract. The loop's invariant: the tables hold the definition's stack, and the definition goes on from here. Assumes nothing.
use mathlib.Core.Path.{refl}
use Rattle.refusals.proofs.First.{at_err}
use Rattle.forms.proofs.Scanning.{scan_start, scan_full, step_asks, scan_refused, scan_more, scan_none, scan_many, scan_one}
use Rattle.forms.proofs.scan.Goals as goal

pub loop-at-init : goal.loop-at-init
loop-at-init c = scan_start _ _ _ _ _ _ c.requires refl refl

pub returns-then-n-eq64 : goal.returns-then-n-eq64
returns-then-n-eq64 c = scan_full _ _ _ _ _ _ _ _ c.loop-at.invariant c.loop-at-test.true c.if-n-eq64.true

pub scan_node-requires : goal.scan_node-requires
scan_node-requires c = step_asks _ _ _ _ _ _ _ _ c.loop-at.invariant c.loop-at-test.true c.if-n-eq64.false

pub returns-in_err-step : goal.returns-in_err-step
returns-in_err-step c = rw (at_err c.from_residual.ensures.1)
    (scan_refused _ _ _ _ _ _ _ _ c.loop-at.invariant c.loop-at-test.true c.if-n-eq64.false _ c.in_err-step.ensures.fine c.in_err-step.ensures.is _ refl)

pub loop-at-preserved : goal.loop-at-preserved
loop-at-preserved c = scan_more _ _ _ _ _ _ _ _ c.loop-at.invariant c.loop-at-test.true c.if-n-eq64.false _ c.in_ok-step.ensures.fine c.in_ok-step.ensures.is _ _ _ _ refl

pub returns-then-n-eq0 : goal.returns-then-n-eq0
returns-then-n-eq0 c = scan_none _ _ _ _ _ _ _ _ c.loop-at.invariant c.loop-at-test.false c.if-n-eq0.true

pub returns-then-starts-n-eq0 : goal.returns-then-starts-n-eq0
returns-then-starts-n-eq0 c = scan_one _ _ _ _ _ _ _ _ c.loop-at.invariant c.loop-at-test.false c.if-n-eq0.false c.if-starts-n-eq0.true

pub returns : goal.returns
returns c = scan_many _ _ _ _ _ _ _ _ c.loop-at.invariant c.loop-at-test.false c.if-n-eq0.false c.if-starts-n-eq0.false
