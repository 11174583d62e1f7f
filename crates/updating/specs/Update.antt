-- The call `update` (document 01, "Row calls"; Update::exec of query.rs). Assumes nothing: these are definitions.
use Rattle.std.specs.Prelude.{ℕ, true, cond, List, [], ◌∷◌, length}
use Rattle.refusals.specs.Stop.{Stop, first_of}
use Rattle.writing.specs.Writing.{WrittenIs}
use Rattle.operators.specs.declared.Rules.{Rules}
use Rattle.tables.specs.Table.{column_count}
use Rattle.testing.specs.Test.{condition_stop}
use Rattle.marking.specs.RowList.{Test, is_true, kept_from, refused_from, words_of}
use Rattle.marking.specs.Marks.{part, test_of}
use Rattle.keeping.specs.Table.{row_count, table_stop}
use Rattle.checks.specs.Check.{short_stop}
use Rattle.setting.specs.Sets.{are_sets, sets_stop, applied}
use Rattle.std.specs.Prelude.{Result}
use Rattle.refusals.specs.declared.Refusal.{Refusal}

-- every row in order, the true ones with the sets applied: the row is tested as it was
abbrev pub updated : Test → List ℕ → List ℕ → List ℕ → List ℕ
updated t columns rows sets =
    words_of (λ i. cond (is_true (t i)) (applied sets (part rows (column_count columns) i)) (part rows (column_count columns) i))
    (kept_from (λ i. true) 0 (row_count columns rows))

-- all that stops `update`, in document 01's order
abbrev pub update_stop : Test → List ℕ → List ℕ → List ℕ → List ℕ → List ℕ → ℕ → ℕ → ℕ → Stop
update_stop t b columns rows sets stored size used output =
    first_of
    (table_stop (are_sets sets) b columns rows size used
    ∷ sets_stop used stored columns 0 sets
    ∷ condition_stop used (column_count columns) b
    ∷ refused_from t 0 (row_count columns rows)
    ∷ short_stop output (length (updated t columns rows sets))
    ∷ [])

-- what `update` answers and writes: all rows
abbrev pub UpdateIs : Rules → List ℕ → List ℕ → List ℕ → List ℕ → List ℕ → ℕ → ℕ → List ℕ → List ℕ → Result ℕ Refusal → Type 0
UpdateIs R columns rows sets b stored size used before after answer =
    WrittenIs before after answer (update_stop (test_of R b used stored rows (column_count columns)) b columns rows sets stored size used (length before))
    (row_count columns rows) (updated (test_of R b used stored rows (column_count columns)) columns rows sets)
