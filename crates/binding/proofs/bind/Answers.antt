-- `binding::bind` meets its contract: what stops it in document 01's order, then the bytes that the walk wrote. Assumes nothing.
use mathlib.Core.Path.{refl, sym}
use Rattle.refusals.proofs.First.{at_err}
use Rattle.writing.proofs.Answers.{refused_is}
use Rattle.binding.proofs.Stopping.{Tabled, Whole, stored_length, tree_asks, names_stops, bound_whole, end_is, bind_written}
use Rattle.binding.proofs.bind.Goals as goal
use Rattle.binding.proofs.bind.Goals.{In_ok-n, In_ok-end}

-- the condition's tree stands in the table
tabled : (c : In_ok-n) → Tabled c.args.condition.now c.args.columns.now c.args.text.now c.args.used c.args.out.now c.scan.new.nodes c.in_ok-n.n
tabled c = record { passed = sym c.in_ok-check_before.ensures; table = c.in_ok-n.ensures; long = c.scan.auto.nodes }

-- the whole of it is bound
bound : (c : In_ok-end) → Whole c.args.condition.now c.args.columns.now c.args.text.now c.args.used c.args.out.now c.bind_node.new.out c.in_ok-end.end
bound c = bound_whole (record { passed = sym c.in_ok-check_before.ensures; table = c.in_ok-n.ensures; long = c.scan.auto.nodes }) _ refl _ _ c.in_ok-end.ensures _ _ refl c.bind_node.auto.out

pub slice_bounds-bind_node-end-2 : goal.slice_bounds-bind_node-end-2
slice_bounds-bind_node-end-2 c = stored_length (tabled (goal.at.slice_bounds-bind_node-end-2 c).In_ok-n)

pub bind_node-requires : goal.bind_node-requires
bind_node-requires c = tree_asks (tabled (goal.at.bind_node-requires c).In_ok-n) _ refl

pub returns-in_err-end : goal.returns-in_err-end
returns-in_err-end c = rw (at_err c.from_residual-in_err-end.ensures.1) (refused_is _ _ _ _ _ (names_stops (tabled (goal.at.returns-in_err-end c).In_ok-n) _ refl c.bind_node.new.out _ c.in_err-end.ensures _ refl))

pub slice_bounds-space-end : goal.slice_bounds-space-end
slice_bounds-space-end c = (bound (goal.at.slice_bounds-space-end c).In_ok-end).inside

pub slice_bounds-write_bytes-end : goal.slice_bounds-write_bytes-end
slice_bounds-write_bytes-end c = end_is (bound (goal.at.slice_bounds-write_bytes-end c).In_ok-end)

pub returns : goal.returns
returns c = bind_written (bound (goal.at.returns c).In_ok-end) _ _ c.write_bytes.ensures
