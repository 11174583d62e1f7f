-- The calls `select` and `delete` (document 01, "Row calls"; Select::exec and Delete::exec of query.rs). Assumes nothing: these are definitions.
use Rattle.std.specs.Prelude.{ℕ, true, List, [], ◌∷◌, length, leb}
use Rattle.refusals.specs.Stop.{Stop, first_of}
use Rattle.writing.specs.Writing.{WrittenIs}
use Rattle.operators.specs.declared.Rules.{Rules}
use Rattle.tables.specs.Table.{column_count}
use Rattle.testing.specs.Test.{condition_stop}
use Rattle.marking.specs.RowList.{Test, true_rows, other_rows, refused_from, words_of}
use Rattle.marking.specs.Marks.{part, test_of}
use Rattle.projecting.specs.Project.{projected, list_stop}
use Rattle.keeping.specs.Table.{row_count, table_stop}
use Rattle.checks.specs.Check.{short_stop}
use Rattle.std.specs.Prelude.{Result}
use Rattle.refusals.specs.declared.Refusal.{Refusal}

-- the words that select lists: the true rows in order, then projected
abbrev pub selected : Test → List ℕ → List ℕ → List ℕ → List ℕ
selected t columns rows list = words_of (λ i. projected list (part rows (column_count columns) i)) (true_rows t (row_count columns rows))

-- all that stops `select`, in document 01's order
abbrev pub select_stop : Test → List ℕ → List ℕ → List ℕ → List ℕ → ℕ → ℕ → ℕ → Stop
select_stop t b columns rows list size used output =
    first_of
    (table_stop (leb (length list) 32) b columns rows size used
    ∷ list_stop (column_count columns) 0 list
    ∷ condition_stop used (column_count columns) b
    ∷ refused_from t 0 (row_count columns rows)
    ∷ short_stop output (length (selected t columns rows list))
    ∷ [])

-- what `select` answers and writes
abbrev pub SelectIs : Rules → List ℕ → List ℕ → List ℕ → List ℕ → List ℕ → ℕ → ℕ → List ℕ → List ℕ → Result ℕ Refusal → Type 0
SelectIs R columns rows list b stored size used before after answer =
    WrittenIs before after answer (select_stop (test_of R b used stored rows (column_count columns)) b columns rows list size used (length before))
    (length (true_rows (test_of R b used stored rows (column_count columns)) (row_count columns rows)))
    (selected (test_of R b used stored rows (column_count columns)) columns rows list)

-- the words that delete keeps: the other rows in order
abbrev pub remaining : Test → List ℕ → List ℕ → List ℕ
remaining t columns rows = words_of (part rows (column_count columns)) (other_rows t (row_count columns rows))

-- all that stops `delete`, in document 01's order
abbrev pub delete_stop : Test → List ℕ → List ℕ → List ℕ → ℕ → ℕ → ℕ → Stop
delete_stop t b columns rows size used output =
    first_of
    (table_stop true b columns rows size used
    ∷ condition_stop used (column_count columns) b
    ∷ refused_from t 0 (row_count columns rows)
    ∷ short_stop output (length (remaining t columns rows))
    ∷ [])

-- what `delete` answers and writes
abbrev pub DeleteIs : Rules → List ℕ → List ℕ → List ℕ → List ℕ → ℕ → ℕ → List ℕ → List ℕ → Result ℕ Refusal → Type 0
DeleteIs R columns rows b stored size used before after answer =
    WrittenIs before after answer (delete_stop (test_of R b used stored rows (column_count columns)) b columns rows size used (length before))
    (length (other_rows (test_of R b used stored rows (column_count columns)) (row_count columns rows)))
    (remaining (test_of R b used stored rows (column_count columns)) columns rows)
