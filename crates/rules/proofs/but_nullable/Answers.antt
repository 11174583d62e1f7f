-- `rules::but_nullable` meets its contract. A rule whose bit 8 is 0 has room for it: nothing is carried on. Assumes nothing.
use mathlib.Core.Path.{◌≡◌, sym, ◌∙◌}
use Prim.Native.Nat.{◌/◌, ◌%◌}
use borrow.Author.Tests.{eqb-false}
use Rattle.rules.specs.Rule.{but_nullable}
use native.Mathlib.Omega.{arith}
use Rattle.rules.proofs.but_nullable.Goals as goal

pub overflow_add-result : goal.overflow_add-result
overflow_add-result c = let n : c.args.rule / 256 % 2 ≡ 1 → ⊥ = eqb-false (c.args.rule / 256 % 2) 1 (sym c.is_nullable.ensures ∙ c.if-is_nullable.false) in
    omega arith

pub returns-then-is_nullable : goal.returns-then-is_nullable
unfolding but_nullable
returns-then-is_nullable c = rw (← c.is_nullable.ensures, c.if-is_nullable.true)

pub returns-else-is_nullable : goal.returns-else-is_nullable
unfolding but_nullable
returns-else-is_nullable c = rw (← c.is_nullable.ensures, c.if-is_nullable.false)
