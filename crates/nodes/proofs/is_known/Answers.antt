-- `nodes::is_known` meets its contract. Assumes nothing.
use mathlib.Core.Path.{◌≡◌, sym, ◌∙◌}
use mathlib.Core.Bool.{true, false}
use Rattle.nodes.specs.Kind.{is_kind, known}
use Rattle.nodes.proofs.is_known.Goals as goal

pub returns-then-not-is_kind : goal.returns-then-not-is_kind
unfolding known
returns-then-not-is_kind c = let e : is_kind c.args.k ≡ false = sym c.is_kind.ensures ∙ c.if-not-is_kind.true in rw e

pub returns-in-Named : goal.returns-in-Named
unfolding known
returns-in-Named c = let e : is_kind c.args.k ≡ true = sym c.is_kind.ensures ∙ c.if-not-is_kind.false in rw (e, c.in-Named.is)

pub returns-in-Bound : goal.returns-in-Bound
unfolding known
returns-in-Bound c = let e : is_kind c.args.k ≡ true = sym c.is_kind.ensures ∙ c.if-not-is_kind.false in rw (e, c.in-Bound.is)

pub returns-in-Mixed : goal.returns-in-Mixed
unfolding known
returns-in-Mixed c = let e : is_kind c.args.k ≡ true = sym c.is_kind.ensures ∙ c.if-not-is_kind.false in rw (e, c.in-Mixed.is)
