-- `doubles::equal_row` meets its contract. The outer loop's invariant: no row that was passed has the key. The inner one's: what is known of the row
-- is what is left of its columns. Assumes nothing.
use mathlib.Core.Path.{◌≡◌}
use Prim.Native.Nat.{ℕ, ◌<◌}
use Rattle.tables.specs.Table.{column_count}
use Rattle.std.specs.Prelude.{None}
use Rattle.marking.specs.Marks.{part}
use Rattle.keys.specs.Key.{key_order}
use Rattle.doubles.proofs.Searching.{HasKey, from_column}
use Rattle.doubles.proofs.equal_row.Given as goal

abbrev pub invariant-loop-column : goal.invariant-loop-column
invariant-loop-column l = key_order l.columns l.stored (part l.rows (column_count l.columns) l.i) l.row ≡ from_column l.columns l.stored l.rows l.row l.i l.column

abbrev pub invariant-rows : goal.invariant-rows
invariant-rows l = (l.found ≡ None) × ((k : ℕ) → k < l.i → HasKey l.columns l.stored l.rows l.row k → ⊥)
