-- `straight::run` meets its contract. The loop's invariant: the stack holds the cells of the definition's stack of trees. Assumes nothing.
use mathlib.Core.Path.{refl, sym, subst}
use Prim.Native.Nat.{◌+◌}
use lib.ListN.{set}
use Rattle.std.proofs.lemmas.Option.{IfSome_then}
use Rattle.straight.proofs.Running.{Running, run_start, run_leaf, left_fine, right_fine, run_two, run_end}
use Rattle.straight.proofs.run.Goals as goal

pub loop-at-init : goal.loop-at-init
loop-at-init c = run_start _ _ _ _ _ refl

pub loop-at-preserved-then-k-lt16 : goal.loop-at-preserved-then-k-lt16
loop-at-preserved-then-k-lt16 c = subst (λ x. Running c.args.b.now c.args.row.now c.args.stored.now (set c.loop-at.stack c.loop-at.n c.loop-at.top) c.in_ok-cell.cell (c.loop-at.n + 1) c.loop-at.done (c.loop-at.at + 1 + x)) (sym c.body_of.ensures)
    (run_leaf _ _ _ _ _ _ _ _ c.loop-at.invariant c.loop-at-test.true c.wide-k.result c.wide-k.ensures.0 (λ i. (c.type_inv.b i).fits) c.requires c.if-k-lt16.true c.if-n-eq16.false _ c.in_ok-cell.ensures)

pub two-requires : goal.two-requires
two-requires c = (left_fine _ _ _ _ _ _ _ _ c.loop-at.invariant c.loop-at-test.true _ c.wide-k.ensures.0 c.if-n-lt2.false, right_fine _ _ _ _ _ _ _ _ c.loop-at.invariant c.loop-at-test.true _ c.wide-k.ensures.0 c.if-n-lt2.false)

pub loop-at-preserved : goal.loop-at-preserved
loop-at-preserved c = run_two _ _ _ _ _ _ _ _ c.loop-at.invariant c.loop-at-test.true c.wide-k.result c.wide-k.ensures.0 c.if-n-lt2.false c.in_ok-top.ensures.known c.in_ok-top.top c.in_ok-top.ensures.is

pub returns : goal.returns
returns c = IfSome_then _ c.whole.ensures (run_end _ _ _ _ _ _ _ _ c.loop-at.invariant c.loop-at-test.false)
