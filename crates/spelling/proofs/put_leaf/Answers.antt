-- `spelling::put_leaf` meets its contract. Assumes nothing.
use native.Mathlib.Nat.{add-sub_cancel_left}
use native.Mathlib.Omega.{arith}
use lib.ListN.{length}
use Rattle.puts.proofs.Putting.{puts_none}
use Rattle.spelling.proofs.Leaves.{atom_name, name_inside, atom_number, atom_literal, literal_well}
use Rattle.spelling.proofs.put_leaf.Goals as goal

pub slice_bounds-put_bytes-end : goal.slice_bounds-put_bytes-end
slice_bounds-put_bytes-end c = name_inside _ c.in-3.is (length c.args.stored.now) c.requires.0

pub put_value-requires : goal.put_value-requires
put_value-requires c = (literal_well _ (omega arith) (omega arith) (length c.args.stored.now) c.requires.0, c.requires.1)

pub returns-in-3 : goal.returns-in-3
returns-in-3 c = rw (atom_name _ c.in-3.is) (rw add-sub_cancel_left at c.put_bytes.ensures)

pub returns-in-4 : goal.returns-in-4
returns-in-4 c = rw (atom_number _ c.in-4.is) (puts_none _ _)

pub returns-in_default : goal.returns-in_default
returns-in_default c = rw (atom_literal c.args.word (omega arith) (omega arith)) c.put_value.ensures
