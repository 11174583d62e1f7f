-- Two words that are told of one question are the same. Assumes nothing.
use mathlib.Core.Path.{◌≡◌, sym, ap, ◌∙◌}
use mathlib.Core.List.{List}
use Prim.Native.Nat.{ℕ}
use lib.ListN.{length, take}
use Rattle.cells.proofs.Stops.{never_stops}
use Rattle.values.specs.Value.{value_of}
use Rattle.values.proofs.ByWord.{not_str, one_word as cell-word}
use Rattle.integers.specs.Outcome.{Outcome}
use Rattle.integers.proofs.Unique.{one_value}
use Rattle.conditions.specs.Ast.{Tree, map_tree, eval}
use Rattle.conditions.specs.Table.{leaf_of, row_of}
use Rattle.forms.proofs.Unique.{one_tree}
use Rattle.straight.specs.Straight.{Ran, Straight}

module _ (b row stored : List ℕ) (w w' : ℕ) where
  -- what a tree comes to on the row
  abbrev meaning : Tree ℕ → Outcome
  meaning t = eval (record { limit = 0 }) (row_of stored row) (map_tree (leaf_of stored) t)

  -- both words mean it
  same_value : Ran b row stored w → Ran b row stored w' → value_of stored w ≡ value_of stored w'
  same_value h k =
      let t : h.tree ≡ k.tree = one_tree h.form k.form in
      one_value (sym (h.means (record { limit = 0 })) ∙ ap meaning t ∙ k.means (record { limit = 0 }))

  -- no text is told, and any other value has one word
  one_cell : Ran b row stored w → Ran b row stored w' → w ≡ w'
  one_cell h k =
      cell-word stored stored w w' (never_stops (length stored) w 0 h.fine).0 (never_stops (length stored) w' 0 k.fine).0 (not_str w h.plain) (same_value h k)

-- whether a word is told is left open (docs/EXCEPTIONS.md)
pub one_word : (b row text : List ℕ) (used w w' : ℕ) → Straight b row text used w → Straight b row text used w' → w ≡ w'
one_word b row text used w w' h k = one_cell b row (take used text) w w' h.ran k.ran
