-- `columns::find_column` meets its contract. The loop's invariant is that of a search partway. Assumes nothing.
use Prim.Native.Nat.{◌*◌}
use Rattle.columns.proofs.Turns.{Searching}
use Rattle.columns.proofs.find_column.Given as goal

abbrev pub invariant-loop-number : goal.invariant-loop-number
invariant-loop-number l = Searching l.stored l.columns l.name (2 * l.number) l.number
