-- `wordwise::decide` meets its contract. Assumes nothing.
use mathlib.Core.Path.{◌≡◌, sym, ◌∙◌}
use Rattle.wordwise.proofs.Settling.{flagged, and_left, and_right, or_left, or_right}
use native.Mathlib.Omega.{arith}
use Rattle.wordwise.proofs.decide.Goals as goal

pub returns-then-truth : goal.returns-then-truth
returns-then-truth c = record { settled = λ R t h k. rw c.if-op-eq48.true (flagged _ _ _ c.flag.ensures (and_right R _ _ _ (sym (c.truth.ensures t h) ∙ c.if-truth.true) (c.truth-then-truth.ensures t k))) }

pub returns-then-op-eq48 : goal.returns-then-op-eq48
returns-then-op-eq48 c = record { settled = λ R t h k. rw c.if-op-eq48.true (flagged _ _ _ c.flag-then-op-eq48.ensures (and_left R _ _ (sym (c.truth.ensures t h) ∙ c.if-truth.false))) }

pub returns-then-truth-2 : goal.returns-then-truth-2
returns-then-truth-2 c = let e : c.args.op ≡ 49 = omega arith in
    record { settled = λ R t h k. rw e (flagged _ _ _ c.flag-then-truth-2.ensures (or_left R _ _ (sym (c.truth-2.ensures t h) ∙ c.if-truth-2.true))) }

pub returns : goal.returns
returns c = let e : c.args.op ≡ 49 = omega arith in
    record { settled = λ R t h k. rw e (flagged _ _ _ c.flag-2.ensures (or_right R _ _ _ (sym (c.truth-2.ensures t h) ∙ c.if-truth-2.false) (c.truth-3.ensures t k))) }
