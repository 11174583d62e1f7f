-- `inserting::insert` meets its contract: what stops it in document 01's order, then all rows in key order. Assumes nothing.
use Rattle.inserting.proofs.Calls.{some_columns, stored_length, rows_sound, insert_short, sort_asks, insert_written}
use Rattle.inserting.proofs.insert.Goals as goal

pub nonzero_div-m : goal.nonzero_div-m
nonzero_div-m c = some_columns _ _ _ _ _ c.in_ok-check_lent.ensures

pub nonzero_div-n : goal.nonzero_div-n
nonzero_div-n c = some_columns _ _ _ _ _ c.in_ok-check_lent.ensures

pub slice_bounds-check_keys-end : goal.slice_bounds-check_keys-end
slice_bounds-check_keys-end c = stored_length _ _ _ _ _ c.in_ok-check_lent.ensures

pub check_keys-requires : goal.check_keys-requires
check_keys-requires c = rows_sound _ _ _ _ _ c.in_ok-check_lent.ensures

pub returns-then-out-needed : goal.returns-then-out-needed
returns-then-out-needed c = insert_short _ _ _ _ _ c.in_ok-check_lent.ensures c.in_ok-check_keys.ensures _ c.if-out-needed.true

pub slice_bounds-write_sorted-end : goal.slice_bounds-write_sorted-end
slice_bounds-write_sorted-end c = stored_length _ _ _ _ _ c.in_ok-check_lent.ensures

pub write_sorted-requires : goal.write_sorted-requires
write_sorted-requires c = sort_asks _ _ _ _ _ c.in_ok-check_lent.ensures c.in_ok-check_keys.ensures _ c.if-out-needed.false

pub returns : goal.returns
returns c = insert_written _ _ _ _ _ c.in_ok-check_lent.ensures c.in_ok-check_keys.ensures _ c.if-out-needed.false _ c.write_sorted.ensures
