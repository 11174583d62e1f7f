-- `values::equal_cells` meets its contract. Assumes nothing.
use mathlib.Core.Path.{sym, ap, ◌∙◌}
use native.Mathlib.Nat.{add-sub_cancel_left}
use Rattle.slices.specs.Bytes.{is_equal}
use Rattle.cells.proofs.Stops.{never_stops, ends_inside}
use Rattle.values.proofs.Ordered.{order_self}
use Rattle.values.proofs.ByWord.{strs_equal, left_no_text, right_no_text}
use Rattle.values.proofs.equal_cells.Goals as goal

pub returns-then-a-b : goal.returns-then-a-b
returns-then-a-b c = rw c.if-a-b.true (sym (ap is_equal (order_self _)))

pub slice_bounds-equal_bytes-end : goal.slice_bounds-equal_bytes-end
slice_bounds-equal_bytes-end c = ends_inside _ _ c.if-a-eq2.true (never_stops _ _ 0 c.requires.0).1

pub slice_bounds-equal_bytes-end-then-b-eq2 : goal.slice_bounds-equal_bytes-end-then-b-eq2
slice_bounds-equal_bytes-end-then-b-eq2 c = ends_inside _ _ c.if-b-eq2.true (never_stops _ _ 0 c.requires.1).1

pub returns-then-b-eq2 : goal.returns-then-b-eq2
returns-then-b-eq2 c = strs_equal c.args.stored.now _ _ _ c.if-a-eq2.true c.if-b-eq2.true
    (c.equal_bytes.ensures ∙ rw (add-sub_cancel_left, add-sub_cancel_left))

pub returns-else-b-eq2 : goal.returns-else-b-eq2
returns-else-b-eq2 c = right_no_text _ _ _ (never_stops _ _ 0 c.requires.0).0 (never_stops _ _ 0 c.requires.1).0 c.if-a-b.false c.if-b-eq2.false

pub returns-else-a-eq2 : goal.returns-else-a-eq2
returns-else-a-eq2 c = left_no_text _ _ _ (never_stops _ _ 0 c.requires.0).0 (never_stops _ _ 0 c.requires.1).0 c.if-a-b.false c.if-a-eq2.false
