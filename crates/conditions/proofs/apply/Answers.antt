-- `conditions::apply` meets its contract. Assumes nothing.
use mathlib.Core.Path.{◌≡◌, sym, ap, subst}
use lib.ListN.{length, take}
use lib.Seq.{length-take-le}
use borrow.Author.Tests.{lt-ltb, le-ltb}
use Rattle.cells.specs.Cell.{WellFormed}
use Rattle.values.specs.Value.{from_bool}
use Rattle.integers.specs.Outcome.{value}
use Rattle.operators.proofs.ByKind.{applied_flag}
use Rattle.conditions.specs.Ast.{two_sided}
use native.Mathlib.Omega.{arith}
use Rattle.conditions.proofs.apply.Goals as goal

pub returns-then-op-lt47 : goal.returns-then-op-lt47
unfolding two_sided
returns-then-op-lt47 c = rw (lt-ltb _ _ c.if-op-lt47.true) c.binary.ensures

pub returns : goal.returns
unfolding two_sided
returns c = let t = take c.args.top c.args.text.now in
    let e : length t ≡ c.args.top = length-take-le _ _ (omega (arith, c.requires.2.above)) in
    let w : WellFormed (length t) c.args.right = subst (λ n. WellFormed n c.args.right) (sym e) c.requires.4 in
    rw (le-ltb _ _ c.if-op-lt47.false)
    (applied_flag _ _ c.truth.result _ _ (ap (λ b. value (from_bool b)) (sym (c.truth.ensures t w))) (c.flag.ensures c.args.top))
