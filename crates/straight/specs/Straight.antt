-- What one pass over the bytes of a bound condition says where it comes to a cell. Assumes nothing: these are definitions.
use Rattle.std.specs.Prelude.{ℕ, ◌+◌, ◌≤◌, ◌<◌, ◌≡◌, true, false, List, length, take}
use Rattle.refusals.specs.Stop.{never}
use Rattle.cells.specs.Cell.{WellFormed, kind_of}
use Rattle.values.specs.Value.{value_of}
use Rattle.checks.specs.Check.{room_stop, cells_stop}
use Rattle.integers.specs.Outcome.{value}
use Rattle.operators.specs.declared.Rules.{Rules}
use Rattle.conditions.specs.Ast.{Tree, map_tree, eval, size}
use Rattle.conditions.specs.Table.{leaf_of, row_of, leaf_cell}
use Rattle.nodes.specs.Kind.{known, body_of, leaf_word, text_fits}
use Rattle.nodes.specs.declared.Allowed.TheVariants.{Bound}
use Rattle.forms.specs.Form.{Parsed, parsed}
use Rattle.forms.specs.Number.{is_missing, numbers_stop}

-- a leaf whose kind, body, text and column are in order, and its cell
pub record LeafRead (used : ℕ) (b row : List ℕ) (at k r : ℕ) : Type 0 where
  pub kind : known Bound k ≡ true
  pub inside : at + 1 + body_of k ≤ length b
  pub fits : text_fits used b at k ≡ true
  pub there : is_missing (length row) b at ≡ false
  pub cell : r ≡ leaf_cell row (leaf_word b at k)

-- the end of a pass: one value is left, of a tree with 1 to 15 operators, and it is no text
pub record IsWhole (n done word r : ℕ) : Type 0 where
  pub one : n ≡ 1
  pub some : 0 < done
  pub few : done ≤ 15
  pub plain : kind_of word ≡ 2 → ⊥
  pub same : r ≡ word

-- a condition of more than one node: its tree, whose columns are all there, comes to this cell, whatever the limit; it is no text
pub record Ran (b row stored : List ℕ) (w : ℕ) : Type 0 where
  pub tree : Tree ℕ
  pub form : parsed Bound (length stored) b ≡ Parsed.tree tree
  pub numbers : numbers_stop (length row) b 64 0 ≡ never
  pub more : 1 < size tree
  pub means : (R : Rules) → eval R (row_of stored row) (map_tree (leaf_of stored) tree) ≡ value (value_of stored w)
  pub fine : WellFormed (length stored) w
  pub plain : kind_of w ≡ 2 → ⊥

-- and all that is looked at before the form is in order
pub record Straight (b row text : List ℕ) (used w : ℕ) : Type 0 where
  pub room : room_stop 32768 (length text) used ≡ never
  pub count : (1 ≤ length row) × (length row ≤ 32)
  pub cells : cells_stop used 0 row ≡ never
  pub ran : Ran b row (take used text) w
