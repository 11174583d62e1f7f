-- `display::put_value` meets its contract. Assumes nothing.
use native.Mathlib.Nat.{add-sub_cancel_left}
use Rattle.std.proofs.Common.{rules}
use Rattle.display.proofs.Shown.{shown_int, shown_text, shown_binary, shown_null, text_inside}
use Rattle.display.proofs.put_value.Goals as goal

pub slice_bounds-put_text-end : goal.slice_bounds-put_text-end
slice_bounds-put_text-end c = text_inside c.args.stored.now _ c.in-2.is c.requires.0

pub returns-in-1 : goal.returns-in-1
returns-in-1 c = rw (shown_int _ _ c.in-1.is) c.put_decimal.ensures

pub returns-in-2 : goal.returns-in-2
returns-in-2 c = rw (shown_text _ _ c.in-2.is) (rw add-sub_cancel_left at c.put_text.ensures)

pub returns-in-3 : goal.returns-in-3
returns-in-3 c = rw (shown_binary _ _ c.in-3.is) c.put_bytes.ensures

pub returns-in_default : goal.returns-in_default
returns-in_default c = rw (shown_null c.args.stored.now c.args.word (search rules) (search rules) (search rules)) c.put_bytes-in_default.ensures
