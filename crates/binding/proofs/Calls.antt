-- What the two calls promise together: what `bind` wrote evaluates, on every row of the columns, to what the named condition means by
-- its columns' names. Assumes nothing.
use mathlib.Core.Path.{◌≡◌, refl, ap, subst, ◌∙◌}
use mathlib.Core.List.{List, [], ◌∷◌}
use Prim.Native.Nat.{ℕ, suc, ◌+◌, ◌≤◌, ◌<◌}
use native.Mathlib.Omega.{arith}
use native.Mathlib.Nat.{zero-add}
use lib.ListN.{length, take, get_or}
use Rattle.refusals.specs.Stop.{Stop, never, stop}
use Rattle.slices.proofs.Splice.{front_splice}
use Rattle.writing.specs.Writing.{WrittenIs}
use Rattle.cells.specs.Cell.{WellFormed}
use Rattle.cells.proofs.Stops.{never_stops, stop_never}
use Rattle.checks.specs.Check.{cells_stop}
use Rattle.checks.proofs.Turns.{room_never}
use Rattle.columns.specs.Column.{names}
use Rattle.operators.specs.declared.Rules.{Rules}
use Rattle.conditions.specs.Ast.{Tree, map_tree, size, height, eval}
use Rattle.conditions.specs.Table.{leaf_of, row_of, RowSound}
use Rattle.nodes.specs.declared.Allowed.TheVariants.{Named, Bound}
use Rattle.forms.specs.Form.{tree, parsed}
use Rattle.postfix.specs.Postfix.{bytes_of}
use Rattle.postfix.proofs.Readable.{Readable}
use Rattle.postfix.proofs.Reading.{readable_parsed, parsed_readable}
use Rattle.evaluation.specs.Evaluation.{at_zero, stops, evaluation, Says, EvaluatedIs}
use Rattle.evaluation.proofs.Narrowing.{Narrow}
use Rattle.evaluation.proofs.Stopping.{row_right, at_none}
use Rattle.numbering.specs.Number.{bind_leaf, names_stop}
use Rattle.binding.specs.Bind.{bind_stop, bound_bytes, BindIs, by_name}
use Rattle.binding.proofs.Walking.{size_map}
use Rattle.binding.proofs.Stopping.{room_there, columns_count, accepted_before, accepted_names}
use Rattle.binding.proofs.Meaning.{bind_means}
use Rattle.binding.proofs.Numbered.{numbers_never, height_map, bound_tree}
use Rattle.std.specs.Prelude.{Result, Ok}
use Rattle.refusals.specs.declared.Refusal.{Refusal}

-- well-formed cells are not refused
cells_never : (used p : ℕ) (row : List ℕ) → ((i : ℕ) → i < length row → WellFormed used (get_or row i 0)) → cells_stop used p row ≡ never
unfolding cells_stop
cells_never used p [] h = refl
cells_never used p (w ∷ row) h =
    let q = never_stops used w 0 (h 0 (omega arith)) in
    rw (stop_never used w p q.0 q.1) (cells_never used (suc p) row (λ i l. h (suc i) (omega arith)))

-- a condition that `bind` accepts
module _ (R : Rules) (b columns stored : List ℕ) (used : ℕ) (bytes : (i : ℕ) → get_or b i 0 < 256) (t : Tree ℕ) (f : parsed Named used b ≡ tree t)
    (size₁ output : ℕ) (accepted : bind_stop b columns stored size₁ used output ≡ never) where
  -- 1 to 32 columns
  count : (2 ≤ length columns) × (length columns ≤ 64)
  count = columns_count b columns stored size₁ used output (accepted_before b columns stored size₁ used output accepted)

  -- no name is missing
  none_missing : names_stop stored columns 0 t ≡ never
  none_missing = accepted_names b columns stored size₁ used output accepted t f

  -- the tree bound
  abbrev bound : Tree ℕ
  bound = map_tree (bind_leaf stored columns) t

  -- the tree as it was read
  read : Readable Named used t × (bytes_of t ≡ b) × (size t ≤ 64) × (height t ≤ 16)
  read = parsed_readable Named used b bytes t f

  -- a row of these columns, well formed below the mark, and a text with room above it
  module _ (row : List ℕ) (each : length row + length row ≡ length columns) (sound : RowSound used row) (size₂ : ℕ) (small : size₂ ≤ 65536) (there : used + 32768 ≤ size₂) where
    -- it is read in a bound condition, and its numbers are columns'
    both : Readable Bound used bound × Narrow (length row) bound
    both = bound_tree used (length row) stored columns count.1 each 0 t read.0 none_missing

    -- it has at most 64 nodes
    few : size bound ≤ 64
    few = omega (arith, size_map (bind_leaf stored columns) t, read.2)

    -- its bytes are read again
    read_again : parsed Bound used (bytes_of bound) ≡ tree bound
    read_again = readable_parsed Bound used bound both.0 few (omega (arith, height_map (bind_leaf stored columns) t, read.3))

    -- nothing stops the evaluation
    nothing_stops : stops (bytes_of bound) row size₂ used ≡ never
    nothing_stops =
        at_none (bytes_of bound) row size₂ used (room_never 32768 size₂ used small there) (row_right (length row) (omega (arith, count.0)) (omega (arith, count.1)))
        (cells_never used 0 row sound.cells) bound read_again (numbers_never (length row) used bound both.0 both.1 few)

    -- the bound bytes evaluate to what the named condition means
    pub bound_evaluates : evaluation R (bound_bytes stored columns (parsed Named used b)) row stored size₂ used
        ≡ at_zero (eval R (row_of stored row) (map_tree (by_name (names stored columns) (row_of stored row)) (map_tree (leaf_of stored) t)))
    unfolding evaluation
    bound_evaluates = rw (f, nothing_stops, read_again) (ap at_zero (bind_means R (row_of stored row) stored columns count.1 0 t none_missing))

-- what an accepted call has written
written : (before after result : List ℕ) (n : ℕ) (s : Stop) → WrittenIs before after (Ok n) s (length result) result → (s ≡ never) × (take n after ≡ result)
written before after result n never w =
    let q : n ≡ 0 + length result = (let h = w.says in cc (zero-add (length result))) in
    (refl, ap (λ m. take m after) q ∙ ap (take (0 + length result)) w.output ∙ front_splice before 0 result (omega arith))
written before after result n (stop number place) w = absurd (let h = w.says in let z : ◌≡◌ {A = ℕ} 0 1 = cc in omega arith)

-- `bind` was accepted; the row is one of its columns, well formed below the mark
module _ (R : Rules) (b columns text before after : List ℕ) (used n : ℕ) (bytes : (i : ℕ) → get_or b i 0 < 256) (t : Tree ℕ) (f : parsed Named used b ≡ tree t)
    (binds : BindIs b columns (take used text) (length text) used before after (Ok n))
    (row : List ℕ) (each : length row + length row ≡ length columns) (sound : RowSound used row) where
  -- `evaluate`, called with the same text on the bytes that were written, answers what the named condition means
  pub bind_evaluate : (text' : List ℕ) (r : Result ℕ Refusal) → EvaluatedIs R (take n after) row text text' used r
      → Says (take n after) row text' used r
      (at_zero (eval R (row_of (take used text) row) (map_tree (by_name (names (take used text) columns) (row_of (take used text) row)) (map_tree (leaf_of (take used text)) t))))
  bind_evaluate text' r h =
      let w = written before after (bound_bytes (take used text) columns (parsed Named used b)) n _ binds in
      let m = room_there b columns (take used text) (length text) used (length before) (accepted_before b columns (take used text) (length text) used (length before) w.0) in
      subst (Says (take n after) row text' used r)
      (ap (λ x. evaluation R x row (take used text) (length text) used) w.1
      ∙ bound_evaluates R b columns (take used text) used bytes t f (length text) (length before) w.0 row each sound (length text) m.0 m.1) h.says
