-- `folding::fold` meets its contract. Assumes nothing.
use mathlib.Core.Path.{refl, sym}
use native.Mathlib.Omega.{arith}
use Prim.Native.Nat.{◌+◌}
use lib.ListN.{replicate, take}
use lib.Seq.{length-take-le}
use Rattle.std.specs.Prelude.{Ok}
use Rattle.refusals.proofs.First.{at_err}
use Rattle.operators.specs.Operator.{base}
use Rattle.postfix.specs.Postfix.{width}
use Rattle.replacing.specs.Fold.{fold}
use Rattle.replacing.specs.Walk.{Gives}
use Rattle.folding.proofs.Calling.{denied, t, stored, some, asks, folding_refused, end_small, copy_room, folding_wrote}
use Rattle.folding.proofs.fold.Goals as goal
use Rattle.folding.proofs.fold.Goals.{In_ok-folded}

-- what the walk gave
gave : (c : In_ok-folded) → Gives (take 0 (replicate 448 0)) (0 + width (t base (omega arith) c.args.condition.now c.args.text.now c.args.out.now c.args.used _ c.prepare.new.nodes c.prepare.auto.nodes c.in_ok-n.ensures)) c.args.used c.args.text.now c.fold_node.new.text c.fold_node.new.out (Ok c.in_ok-folded.folded) (fold base 0 (t base (omega arith) c.args.condition.now c.args.text.now c.args.out.now c.args.used _ c.prepare.new.nodes c.prepare.auto.nodes c.in_ok-n.ensures) (stored base (omega arith) c.args.condition.now c.args.text.now c.args.out.now c.args.used _ c.prepare.new.nodes c.prepare.auto.nodes c.in_ok-n.ensures))
gave c = c.in_ok-folded.ensures _ _ (asks base (omega arith) c.args.condition.now c.args.text.now c.args.out.now c.args.used _ c.prepare.new.nodes c.prepare.auto.nodes c.in_ok-n.ensures _ refl)

pub returns-in_err-n : goal.returns-in_err-n
returns-in_err-n c = rw (at_err c.from_residual.ensures.1) (denied base c.args.condition.now c.args.text.now c.args.out.now c.args.used _ c.in_err-n.ensures)

pub overflow_sub-n : goal.overflow_sub-n
overflow_sub-n c = some base (omega arith) c.args.condition.now c.args.text.now c.args.out.now c.args.used _ c.prepare.new.nodes c.prepare.auto.nodes c.in_ok-n.ensures

pub fold_node-requires : goal.fold_node-requires
fold_node-requires c = (_, _, asks base (omega arith) c.args.condition.now c.args.text.now c.args.out.now c.args.used _ c.prepare.new.nodes c.prepare.auto.nodes c.in_ok-n.ensures _ refl)

pub returns-in_err-folded : goal.returns-in_err-folded
returns-in_err-folded c = rw (at_err c.from_residual-in_err-folded.ensures.1) (folding_refused base (omega arith) c.args.condition.now c.args.text.now c.args.out.now c.args.used _ c.prepare.new.nodes c.prepare.auto.nodes c.in_ok-n.ensures (replicate 448 0) c.fold_node.new.out c.fold_node.new.text _ (c.in_err-folded.ensures _ _ (asks base (omega arith) c.args.condition.now c.args.text.now c.args.out.now c.args.used _ c.prepare.new.nodes c.prepare.auto.nodes c.in_ok-n.ensures _ refl)) _ refl)

pub slice_bounds-space-end : goal.slice_bounds-space-end
slice_bounds-space-end c = omega (arith, end_small base (omega arith) c.args.condition.now c.args.text.now c.args.out.now c.args.used _ c.prepare.new.nodes c.prepare.auto.nodes c.in_ok-n.ensures (replicate 448 0) _ _ _ (gave (goal.at.slice_bounds-space-end c).In_ok-folded) _ _ _ _ refl, c.fold_node.auto.out)

pub slice_bounds-copy-end : goal.slice_bounds-copy-end
slice_bounds-copy-end c = sym (length-take-le _ _ (omega (arith, end_small base (omega arith) c.args.condition.now c.args.text.now c.args.out.now c.args.used _ c.prepare.new.nodes c.prepare.auto.nodes c.in_ok-n.ensures (replicate 448 0) _ _ _ (gave (goal.at.slice_bounds-copy-end c).In_ok-folded) _ _ _ _ refl, c.fold_node.auto.out)))

pub copy-requires : goal.copy-requires
copy-requires c = copy_room base (omega arith) c.args.condition.now c.args.text.now c.args.out.now c.args.used _ c.prepare.new.nodes c.prepare.auto.nodes c.in_ok-n.ensures (replicate 448 0) _ _ _ (gave (goal.at.copy-requires c).In_ok-folded) _ _ _ _ refl

pub returns : goal.returns
returns c = folding_wrote base (omega arith) c.args.condition.now c.args.text.now c.args.out.now c.args.used _ c.prepare.new.nodes c.prepare.auto.nodes c.in_ok-n.ensures (replicate 448 0) _ _ _ (gave (goal.at.returns c).In_ok-folded) _ _ _ _ refl _ _ c.copy.ensures
