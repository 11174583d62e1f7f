-- An evaluation of a readable tree's bytes, but for a refusal's place: the row's length, the columns and the tree's own outcome tell it, and they are
-- the same after folding. Assumes nothing.
use mathlib.Core.Path.{◌≡◌, refl, sym, ap, ap₂, ◌∙◌}
use mathlib.Core.Bool.{false, not}
use mathlib.Core.List.{List, [], ◌∷◌}
use Prim.Native.Nat.{ℕ, suc, ◌≤◌, ◌<◌}
use native.Mathlib.Omega.{arith}
use lib.ListN.{length, get_or}
use Rattle.refusals.specs.Stop.{Stop, never, stop, stop_if, or_else, first_of, unless_stopped}
use Rattle.refusals.proofs.First.{never_both, not_stopped}
use Rattle.slices.proofs.Extends.{Extends}
use Rattle.cells.specs.Cell.{cell_stop}
use Rattle.cells.proofs.Stops.{stop_never, never_stops, well_formed, inside_more}
use Rattle.checks.specs.Check.{room_stop, cells_stop}
use Rattle.integers.specs.Outcome.{Outcome, value}
use Rattle.operators.specs.declared.Rules.{Rules}
use Rattle.conditions.specs.Ast.{Tree, size, height, map_tree, eval}
use Rattle.conditions.specs.Table.{leaf_of, row_of}
use Rattle.nodes.specs.declared.Allowed.TheVariants.{Bound, Mixed}
use Rattle.forms.specs.Form.{parsed, form_stop, of_tree}
use Rattle.forms.specs.Number.{numbers_stop}
use Rattle.evaluation.specs.Evaluation.{is_row_length, stops, Report, gave, at_zero, evaluation}
use Rattle.postfix.specs.Postfix.{bytes_of}
use Rattle.postfix.proofs.Reading.{Readable}
use Rattle.replacing.specs.Walk.{AllHeld}
use Rattle.shortening.proofs.Growing.{grown}
use Rattle.folding.proofs.Columns.{columns_of, fold_columns}
use Rattle.folding.proofs.Alike.{value_longer, fold_alike}
use Rattle.folding.proofs.ReadBack.{Accepted, was_read, joins_room, now_read}
use Rattle.folding.proofs.Forms.{named, missing, some, placeless, placeless_else, placeless_if, numbers_told, bound_tree, bound_told, readable_held}

-- ---- rows under a longer text

-- cells that are well formed are so under a higher mark
cells_higher : (m n p : ℕ) (row : List ℕ) → m ≤ n → cells_stop m p row ≡ never → cells_stop n p row ≡ never
unfolding cells_stop
cells_higher m n p [] l h = refl
cells_higher m n p (w ∷ row) l h =
    let q = never_both (cell_stop m w p) (cells_stop m (suc p) row) h in
    let k = never_stops n w 0 (inside_more m n w l (well_formed m w p q.0)) in
    rw (stop_never n w p k.0 k.1) (cells_higher m n (suc p) row l q.1)

-- and mean the same
row_longer : {s s' : List ℕ} → Extends s s' → (p : ℕ) (row : List ℕ) → cells_stop (length s) p row ≡ never → row_of s row ≡ row_of s' row
unfolding row_of cells_stop
row_longer m p [] h = refl
row_longer {s} m p (w ∷ row) h =
    let q = never_both (cell_stop (length s) w p) (cells_stop (length s) (suc p) row) h in
    ap₂ ◌∷◌ (value_longer m w (well_formed (length s) w p q.0)) (row_longer m (suc p) row q.1)

-- ---- an evaluation without its place

-- a result without its place
abbrev pub shown : Report → Report
shown (gave v) = gave v
shown (Report.refused number place) = Report.refused number 0

-- what is looked at before it, by number: the row's length, then names and numbers of the columns
abbrev looked : ℕ → List ℕ → Stop
looked n columns = first_of (stop_if (not (is_row_length n)) 8 0 ∷ stop_if (some named columns) 1 0 ∷ stop_if (some (missing n) columns) 4 0 ∷ [])

-- no name among the columns, where nothing stops it
looked_never : (n : ℕ) (columns : List ℕ) → looked n columns ≡ never → some named columns ≡ false
looked_never n columns h =
    let k = (never_both (stop_if (not (is_row_length n)) 8 0) _ h).1 in
    not_stopped (some named columns) 1 0 (never_both (stop_if (some named columns) 1 0) _ k).0

-- an outcome has no place
shown_outcome : (o : Outcome) → shown (at_zero o) ≡ at_zero o
shown_outcome (value v) = refl
shown_outcome (Outcome.refused n) = refl

module _ (R : Rules) (used : ℕ) (t : Tree ℕ) (r : Readable Mixed used t) (few : size t ≤ 64) (low : height t ≤ 16)
    (row stored : List ℕ) (room : ℕ) (there : room_stop 32768 room used ≡ never) (cells : cells_stop used 0 row ≡ never) where
  -- what stops the evaluation of a readable tree's bytes, by number
  stops_told : placeless (stops (bytes_of t) row room used) ≡ looked (length row) (columns_of t)
  stops_told =
      let form = form_stop (parsed Bound used (bytes_of t)) in
      let numbers = numbers_stop (length row) (bytes_of t) 64 0 in
      rw (there, cells) (placeless_if (not (is_row_length (length row))) 8 0 (or_else form (or_else numbers never))
      ∙ ap (or_else (stop_if (not (is_row_length (length row))) 8 0)) (placeless_else form (or_else numbers never)
      ∙ ap₂ or_else (bound_told used t r few low) (placeless_else numbers never ∙ ap (λ s. or_else s never) (numbers_told Mixed used (length row) t r few))))

  -- what it comes to: the row's length, the columns and the tree's own outcome tell it
  evaluation_told : shown (evaluation R (bytes_of t) row stored room used) ≡ unless_stopped Report.refused (looked (length row) (columns_of t)) (at_zero (eval R (row_of stored row) (map_tree (leaf_of stored) t)))
  unfolding evaluation
  evaluation_told = by (stops (bytes_of t) row room used) refl
    where
      outcome : Tree ℕ → Outcome
      outcome x = eval R (row_of stored row) (map_tree (leaf_of stored) x)

      by : (s : Stop) → stops (bytes_of t) row room used ≡ s
          → shown (unless_stopped Report.refused s (of_tree (λ x. at_zero (outcome x)) Report.refused (parsed Bound used (bytes_of t)))) ≡ unless_stopped Report.refused (looked (length row) (columns_of t)) (at_zero (outcome t))
      by never e =
          let l : looked (length row) (columns_of t) ≡ never = sym stops_told ∙ ap placeless e in
          rw (l, bound_tree used t r few low (looked_never (length row) (columns_of t) l)) (shown_outcome (outcome t))
      by (stop n p) e =
          let l : looked (length row) (columns_of t) ≡ stop n 0 = sym stops_told ∙ ap placeless e in
          rw l refl

-- ---- both conditions

module _ {R : Rules} {b stored : List ℕ} {room used output : ℕ} {t' : Tree ℕ} {s' : List ℕ} (short : R.limit ≤ 1024) (bytes : (i : ℕ) → get_or b i 0 < 256)
    (whole : length stored ≡ used) (A : Accepted R b stored room used output t' s') where
  -- the text that was appended
  more : Extends stored s'
  more = (grown R short 0 A.was t' stored s' A.folds).more

  -- a row under the two marks
  module _ (row : List ℕ) (cells : cells_stop used 0 row ≡ never) where
    -- the tree and the folded tree come to the same
    eval_alike : eval R (row_of stored row) (map_tree (leaf_of stored) A.was) ≡ eval R (row_of s' row) (map_tree (leaf_of s') t')
    eval_alike =
        let held : AllHeld (length stored) A.was = rw whole (readable_held Mixed used A.was (was_read short bytes whole A).0) in
        fold_alike R short 0 A.was t' stored s' A.folds held (joins_room short bytes whole A) (row_of stored row)
        ∙ ap (λ v. eval R v (map_tree (leaf_of s') t')) (row_longer more 0 row (rw whole cells))

    -- and so do their bytes, but for a refusal's place
    pub shown_alike : (room₁ room₂ : ℕ) → room_stop 32768 room₁ used ≡ never → room_stop 32768 room₂ (length s') ≡ never
        → shown (evaluation R b row stored room₁ used) ≡ shown (evaluation R (bytes_of t') row s' room₂ (length s'))
    shown_alike room₁ room₂ h k =
        let w = was_read short bytes whole A in
        let n = now_read short bytes whole A in
        let c = cells_higher used (length s') 0 row (omega (arith, whole, more.longer)) cells in
        ap (λ l. shown (evaluation R l row stored room₁ used)) (sym w.1)
        ∙ evaluation_told R used A.was w.0 w.2 w.3 row stored room₁ h cells
        ∙ ap₂ (λ c o. unless_stopped Report.refused (looked (length row) c) (at_zero o)) (sym (fold_columns R short 0 A.was t' stored s' A.folds (joins_room short bytes whole A))) eval_alike
        ∙ sym (evaluation_told R (length s') t' n.0 n.1 n.2 row s' room₂ k c)
