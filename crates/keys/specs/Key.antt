-- Rows compared by their key columns, and the earlier of two rows (document 01, "Of two rows of one column table, compared by key"; the keys of
-- BTreeMap and HashSet in query.rs). Assumes nothing: these are definitions.
use Rattle.std.specs.Prelude.{ℕ, Bool, cond, List, [], ◌∷◌, length, take, eqb}
use Rattle.refusals.specs.Stop.{Stop, first_of, unless_stopped}
use Rattle.slices.specs.Bytes.{both}
use Rattle.std.specs.declared.cmp.Ordering.{Ordering}
use Rattle.std.specs.declared.cmp.Ordering.TheVariants.{Less, Equal, Greater}
use Rattle.values.specs.Value.{Value}
use Rattle.values.specs.Order.{order}
use Rattle.rules.specs.Rule.{is_key}
use Rattle.checks.specs.Check.{room_stop}
use Rattle.conditions.specs.Table.{row_of}
use Rattle.tables.specs.Table.{column_count, is_table, count_stop, words_stop}

-- which columns are key columns, in column order
unfoldable pub keys_of : List ℕ → List Bool
keys_of [] = []
keys_of (name ∷ []) = []
keys_of (name ∷ rule ∷ columns) = is_key rule ∷ keys_of columns

-- the first order that isn't Equal
abbrev pub then_by : Ordering → Ordering → Ordering
then_by Less later = Less
then_by Equal later = later
then_by Greater later = Greater

-- two rows by their key columns in column order; without key columns all are equal
unfoldable pub by_keys : List Bool → List Value → List Value → Ordering
by_keys [] v w = Equal
by_keys (k ∷ keys) [] w = Equal
by_keys (k ∷ keys) (a ∷ v) [] = Equal
by_keys (k ∷ keys) (a ∷ v) (b ∷ w) = cond k (then_by (order a b) (by_keys keys v w)) (by_keys keys v w)

-- two rows of words, by the keys of their columns
abbrev pub key_order : List ℕ → List ℕ → List ℕ → List ℕ → Ordering
key_order columns stored first second = by_keys (keys_of columns) (row_of stored first) (row_of stored second)

-- the second row only where it comes first by key
abbrev pub pick : Ordering → List ℕ → List ℕ → List ℕ
pick Less first second = first
pick Equal first second = first
pick Greater first second = second

-- what would refuse two rows of a table: 10, 8 for a count, 8 and 3 over the words
abbrev pub rows_stop : List ℕ → ℕ → ℕ → List ℕ → List ℕ → Stop
rows_stop columns size used first second =
    first_of
    (room_stop 0 size used
    ∷ count_stop (both (is_table columns) (both (eqb (length first) (column_count columns)) (eqb (length second) (column_count columns))))
    ∷ words_stop used (columns ∷ [] ∷ []) (first ∷ second ∷ [])
    ∷ [])

-- `earlier`: one of the two rows as lent, the first if equal, the empty part where a refusal would be given
unfoldable pub earlier_of : List ℕ → List ℕ → ℕ → List ℕ → List ℕ → List ℕ
earlier_of columns text used first second =
    unless_stopped (λ number place. []) (rows_stop columns (length text) used first second) (pick (key_order columns (take used text) first second) first second)
