-- `columns::check_columns` meets its contract. The loop's invariant: the columns are refused as those that are left. Assumes nothing.
use mathlib.Core.Path.{◌≡◌}
use Prim.Native.Nat.{◌+◌, ◌*◌}
use lib.ListN.{drop}
use Rattle.columns.specs.Column.{columns_stop}
use Rattle.columns.proofs.check_columns.Given as goal

abbrev pub invariant-loop-i : goal.invariant-loop-i
invariant-loop-i l = columns_stop l.used l.place l.columns ≡ columns_stop l.used (l.place + 2 * l.i) (drop (2 * l.i) l.columns)
