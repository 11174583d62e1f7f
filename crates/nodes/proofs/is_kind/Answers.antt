-- `nodes::is_kind` meets its contract. Assumes nothing.
use borrow.Author.Tests.{lt-ltb, le-ltb}
use Rattle.nodes.specs.Kind.{is_kind}
use Rattle.nodes.proofs.is_kind.Goals as goal

pub returns-then-k-lt5 : goal.returns-then-k-lt5
unfolding is_kind
returns-then-k-lt5 c = rw (lt-ltb _ _ c.if-k-lt5.true)

pub returns-then-k-lt16 : goal.returns-then-k-lt16
unfolding is_kind
returns-then-k-lt16 c = rw (le-ltb _ _ c.if-k-lt5.false, lt-ltb _ _ c.if-k-lt16.true)

pub returns-then-k-lt19 : goal.returns-then-k-lt19
unfolding is_kind
returns-then-k-lt19 c = rw (le-ltb _ _ c.if-k-lt5.false, le-ltb _ _ c.if-k-lt16.false, lt-ltb _ _ c.if-k-lt19.true)

pub returns-then-k-lt32 : goal.returns-then-k-lt32
unfolding is_kind
returns-then-k-lt32 c = rw (le-ltb _ _ c.if-k-lt5.false, le-ltb _ _ c.if-k-lt16.false, le-ltb _ _ c.if-k-lt19.false, lt-ltb _ _ c.if-k-lt32.true)

pub returns-then-k-lt47 : goal.returns-then-k-lt47
unfolding is_kind
returns-then-k-lt47 c = rw (le-ltb _ _ c.if-k-lt5.false, le-ltb _ _ c.if-k-lt16.false, le-ltb _ _ c.if-k-lt19.false, le-ltb _ _ c.if-k-lt32.false, lt-ltb _ _ c.if-k-lt47.true)

pub returns-then-k-lt48 : goal.returns-then-k-lt48
unfolding is_kind
returns-then-k-lt48 c = rw (le-ltb _ _ c.if-k-lt5.false, le-ltb _ _ c.if-k-lt16.false, le-ltb _ _ c.if-k-lt19.false, le-ltb _ _ c.if-k-lt32.false, le-ltb _ _ c.if-k-lt47.false, lt-ltb _ _ c.if-k-lt48.true)

pub returns : goal.returns
unfolding is_kind
returns c = rw (le-ltb _ _ c.if-k-lt5.false, le-ltb _ _ c.if-k-lt16.false, le-ltb _ _ c.if-k-lt19.false, le-ltb _ _ c.if-k-lt32.false, le-ltb _ _ c.if-k-lt47.false, le-ltb _ _ c.if-k-lt48.false)
