-- `printing::print` meets its contract. Assumes nothing.
use Rattle.printing.proofs.Calling.{ready, stored_long, asks, print_short, print_written}
use Rattle.printing.proofs.print.Goals as goal

pub slice_bounds-print_node-end-2 : goal.slice_bounds-print_node-end-2
slice_bounds-print_node-end-2 c = stored_long (ready c.prepare.auto.nodes c.in_ok-n.ensures)

pub print_node-needed-requires : goal.print_node-needed-requires
print_node-needed-requires c = asks (ready c.prepare.auto.nodes c.in_ok-n.ensures)

pub returns-then-out-needed : goal.returns-then-out-needed
returns-then-out-needed c = print_short (ready c.prepare.auto.nodes c.in_ok-n.ensures) c.print_node-needed.ensures _ c.if-out-needed.true

pub slice_bounds-print_node-end-5 : goal.slice_bounds-print_node-end-5
slice_bounds-print_node-end-5 c = stored_long (ready c.prepare.auto.nodes c.in_ok-n.ensures)

pub print_node-requires : goal.print_node-requires
print_node-requires c = asks (ready c.prepare.auto.nodes c.in_ok-n.ensures)

pub returns : goal.returns
returns c = print_written (ready c.prepare.auto.nodes c.in_ok-n.ensures) c.print_node-needed.ensures _ c.if-out-needed.false c.print_node.ensures
