-- Every example of the table comes out as document 01 says: one test, computed over the whole table, and what it means of an entry. Assumes nothing.
use mathlib.Core.Path.{◌≡◌, refl, sym, ap, ap₂}
use mathlib.Core.Bool.{Bool, true}
use mathlib.Core.List.Memᴰ
use mathlib.Core.List.{List, [], ◌∷◌, flatten, flat_map, Memᴰ}
use mathlib.Core.Logic.{⊎_elim}
use Prim.Native.Nat.{ℕ}
use native.Mathlib.Omega.{arith}
use lib.Dec.{eqb}
use borrow.Author.Tests.{eqb-true}
use Rattle.refusals.proofs.Bools.{true_false}
use Rattle.slices.specs.Bytes.{both, is_equal, by_bytes}
use Rattle.std.specs.declared.cmp.Ordering.{Ordering}
use Rattle.std.specs.declared.cmp.Ordering.TheVariants.{Less, Equal, Greater}
use Rattle.values.specs.Value.{to_bool, from_bool}
use Rattle.values.specs.Order.{order}
use Rattle.values.proofs.Ordered.{order_equal}
use Rattle.slices.specs.Bytes.{same_bytes}
use Rattle.slices.proofs.Bytes.{same_eq}
use Rattle.slices.proofs.Both.{both_true}
use Rattle.integers.specs.Integer.{fitted, on_ints}
use Rattle.operators.specs.Operator.{holds, compared, on_kinds, binary_of, unary_of}
use Rattle.cells.specs.Cell.{bodies_of, is_cell, reaches_beyond, cell_stop, word_of, ref_of}
use Rattle.values.specs.Value.{to_value}
use Rattle.checks.specs.Check.{room_stop, cells_stop}
use Rattle.conditions.specs.Ast.{map_tree, decides, two_sided, eval, height}
use Rattle.conditions.specs.Table.{leaf_of, row_of}
use Rattle.nodes.specs.Kind.{is_kind, known, body_of, leaf_word, text_fits}
use Rattle.forms.specs.Form.{node_at, parse}
use Rattle.forms.specs.Number.{numbers_stop}
use Rattle.evaluation.specs.Evaluation.{is_row_length, evaluation}
use Rattle.postfix.specs.Postfix.{little, body_bytes, bytes_of}
use Rattle.replacing.specs.Fold.{fold}
use Rattle.folding.specs.Call.{folding}
use Rattle.rules.specs.Rule.{is_rule}
use Rattle.columns.specs.Column.{is_text, name_stop, column_stop, columns_stop}
use Rattle.tables.specs.Table.{is_table, are_rows, column_words_stop}
use Rattle.testing.specs.Test.{test}
use Rattle.marking.specs.RowList.{kept_from, refused_from}
use Rattle.entries.specs.Entries.{entries_from, pairs_stop}
use Rattle.joins.specs.Join.{rows_from}
use Rattle.examples.specs.Example.{Expected, gives, stops, refuses, writes, Example, run, same_answer, comes_out}
use Rattle.examples.specs.Table.{table}

-- a test holds of every example in a list
abbrev pub all : (Example → Bool) → List Example → Bool
all p [] = true
all p (e ∷ es) = both (p e) (all p es)

-- the one proof: the checker computes the definitions over the table
pub checked : all comes_out table ≡ true
unfolding comes_out table binary_of unary_of compared holds order by_bytes same_bytes on_kinds on_ints fitted to_bool from_bool bodies_of is_cell reaches_beyond cell_stop word_of ref_of to_value room_stop cells_stop map_tree decides two_sided eval height leaf_of row_of is_kind known body_of leaf_word text_fits node_at parse is_row_length numbers_stop evaluation little body_bytes bytes_of fold folding is_table are_rows rows_from column_words_stop columns_stop column_stop name_stop is_text is_rule flatten flat_map pairs_stop refused_from test entries_from kept_from
checked = refl

each : (p : Example → Bool) (es : List Example) → all p es ≡ true → (e : Example) → Memᴰ e es → p e ≡ true
each p [] h e m = absurd (Memᴰ.not-nil m)
each p (x ∷ es) h e m =
    let q = both_true (p x) (all p es) h in
    ⊎_elim (λ f. rw f q.0) (λ n. each p es q.1 e n) (Memᴰ.cases_cons m)

same : (o p : Expected) → same_answer o p ≡ true → o ≡ p
same (gives v) (gives w) e = ap gives (go (order v w) refl e)
  where
    go : (c : Ordering) → order v w ≡ c → is_equal c ≡ true → v ≡ w
    go Less f e = absurd (let z : ◌≡◌ {A = ℕ} 0 1 = cc in omega arith)
    go Equal f e = order_equal v w f
    go Greater f e = absurd (let z : ◌≡◌ {A = ℕ} 0 1 = cc in omega arith)
same (gives v) (stops n) e = true_false (sym e)
same (gives v) (refuses n p) e = true_false (sym e)
same (gives v) (writes b) e = true_false (sym e)
same (stops m) (gives w) e = true_false (sym e)
same (stops m) (stops n) e = ap stops (eqb-true m n e)
same (stops m) (refuses n p) e = true_false (sym e)
same (stops m) (writes b) e = true_false (sym e)
same (refuses m p) (gives w) e = true_false (sym e)
same (refuses m p) (stops n) e = true_false (sym e)
same (refuses m p) (refuses n q) e = let h = both_true (eqb m n) (eqb p q) e in ap₂ refuses (eqb-true m n h.0) (eqb-true p q h.1)
same (refuses m p) (writes b) e = true_false (sym e)
same (writes a) (gives w) e = true_false (sym e)
same (writes a) (stops n) e = true_false (sym e)
same (writes a) (refuses n q) e = true_false (sym e)
same (writes a) (writes b) e = ap writes (same_eq a b e)

-- what the definitions say of an example's call is the answer that it expects
pub comes_out_lem : (e : Example) → Memᴰ e table → run e.call ≡ e.answer
unfolding comes_out
comes_out_lem e m = same (run e.call) e.answer (each comes_out table checked e m)
