-- What an accepted `insert` writes: the words of the one list that has exactly the old and new rows and is in strict key order. Assumes nothing.
use mathlib.Core.Path.{◌≡◌, sym, ap, ◌∙◌}
use mathlib.Core.List.{List, ◌++◌}
use Prim.Native.Nat.{ℕ, ◌+◌}
use lib.ListN.{length}
use Rattle.refusals.specs.Stop.{never}
use Rattle.refusals.proofs.First.{never_both}
use Rattle.slices.specs.Splice.{splice}
use Rattle.writing.specs.Writing.{output_after}
use Rattle.tables.specs.Table.{column_count}
use Rattle.marking.specs.RowList.{words_of}
use Rattle.marking.specs.Marks.{part}
use Rattle.sorting.specs.Sorted.{Compare, in_key_order, Sorted}
use Rattle.sorting.specs.Rows.{compare_rows}
use Rattle.sorting.proofs.Lawful.{Lawful}
use Rattle.sorting.proofs.Twice.{Distinct, new_never}
use Rattle.sorting.proofs.Ordered.{order_sorted, sorted_unique}
use Rattle.sorting.proofs.Joined.{all_lawful}
use Rattle.inserting.specs.Insert.{rows_in, inserted, lent_stop, keys_stop, insert_stop, InsertIs}
use Rattle.inserting.proofs.Passing.{lent, keys_never}
use Rattle.std.specs.Prelude.{Result}
use Rattle.refusals.specs.declared.Refusal.{Refusal}

module _ (columns stored old new : List ℕ) (size used output : ℕ) (e : insert_stop columns stored old new size used output ≡ never) where
  -- all rows, compared by key
  abbrev all : Compare
  all = compare_rows columns stored (old ++ new)

  abbrev count : ℕ
  count = rows_in columns old + rows_in columns new

  -- nothing stopped it
  looked : lent_stop columns old new size used ≡ never
  looked = (never_both (lent_stop columns old new size used) _ e).0

  keys : keys_stop columns stored old (rows_in columns old) new (rows_in columns new) ≡ never
  keys = (never_both (keys_stop columns stored old (rows_in columns old) new (rows_in columns new)) _ (never_both (lent_stop columns old new size used) _ e).1).0

  lawful : Lawful all count
  lawful =
      let l = lent columns old new size used looked in
      all_lawful columns stored old new (rows_in columns old) (rows_in columns new) l.old_rows.whole l.new_rows.whole

  distinct : Distinct all count
  distinct = let k = keys_never columns stored old (rows_in columns old) new (rows_in columns new) keys in new_never all (rows_in columns old) (rows_in columns new) k.0 k.1

  -- the rows in key order are exactly the old and new rows, in strict key order
  pub accepted_sorted : Sorted (compare_rows columns stored (old ++ new)) (rows_in columns old + rows_in columns new)
      (in_key_order (compare_rows columns stored (old ++ new)) (rows_in columns old + rows_in columns new))
  accepted_sorted = order_sorted lawful distinct

  -- there is only one such list
  pub accepted_unique : (numbers : List ℕ) → Sorted (compare_rows columns stored (old ++ new)) (rows_in columns old + rows_in columns new) numbers
      → numbers ≡ in_key_order (compare_rows columns stored (old ++ new)) (rows_in columns old + rows_in columns new)
  accepted_unique numbers s = sorted_unique lawful numbers _ s accepted_sorted

-- so an accepted call leaves the words of any such list at the start of its output
pub accepted_words : (columns stored old new : List ℕ) (size used : ℕ) (before after : List ℕ) (a : Result ℕ Refusal)
    → InsertIs columns stored old new size used before after a → insert_stop columns stored old new size used (length before) ≡ never
    → (numbers : List ℕ) → Sorted (compare_rows columns stored (old ++ new)) (rows_in columns old + rows_in columns new) numbers
    → after ≡ splice before 0 (words_of (part (old ++ new) (column_count columns)) numbers)
accepted_words columns stored old new size used before after a h e numbers s =
    h.output
    ∙ ap (λ x. output_after x before (inserted columns stored old new)) e
    ∙ ap (λ l. splice before 0 (words_of (part (old ++ new) (column_count columns)) l)) (sym (accepted_unique columns stored old new size used (length before) e numbers s))
