-- Two words that are told of one tree and row are the same. Assumes nothing.
use mathlib.Core.Path.{◌≡◌, sym, ◌∙◌}
use mathlib.Core.List.{List}
use Prim.Native.Nat.{ℕ, suc, ◌≤◌}
use native.Mathlib.Omega.{arith}
use lib.ListN.{length, get_or}
use Rattle.std.specs.Prelude.{Some, IfSome}
use Rattle.cells.specs.Cell.{kind_of, start_of}
use Rattle.cells.proofs.Stops.{never_stops}
use Rattle.values.specs.Value.{value_of}
use Rattle.values.proofs.ByWord.{not_str, one_word as cell-word}
use Rattle.integers.proofs.Unique.{one_value}
use Rattle.conditions.specs.Table.{node_of, LiesAt}
use Rattle.conditions.specs.declared.Node.{Node}
use Rattle.conditions.specs.declared.Node.TheVariants.{Leaf, One, Two}
use Rattle.quick.specs.Quick.{Found}

module _ (depth k : ℕ) (nodes row stored : List ℕ) (r s : ℕ) (f : Found depth k nodes row stored r) (g : Found depth k nodes row stored s) where
  -- both mean what the tree comes to
  same_value : value_of stored r ≡ value_of stored s
  same_value = one_value (sym (f.means (record { limit = 0 })) ∙ g.means (record { limit = 0 }))

  -- a text that would start at or above every mark is none, and any other value has one word
  no_text : ((top : ℕ) → kind_of r ≡ 2 → top ≤ start_of r) → r ≡ s
  no_text above =
      cell-word stored stored r s (never_stops (length stored) r 0 f.within).0 (never_stops (length stored) s 0 g.within).0
      (not_str r (λ e. let z : suc (start_of r) ≤ start_of r = above (suc (start_of r)) e in omega arith)) same_value

  by_node : (node : Node) → ((top : ℕ) → LiesAt top node row r) → ((top : ℕ) → LiesAt top node row s) → r ≡ s
  by_node (Leaf x) h i = h 0 ∙ sym (i 0)
  by_node (One op) h i = no_text h
  by_node (Two op l) h i = no_text h

  -- the two are one word
  one_found : r ≡ s
  one_found = by_node (node_of (get_or nodes k 0)) f.lies g.lies

-- whether a word is told is left open (docs/EXCEPTIONS.md)
pub one_word : (depth k : ℕ) (nodes row stored : List ℕ) (r s : ℕ)
    → IfSome (Some r) (Found depth k nodes row stored) → IfSome (Some s) (Found depth k nodes row stored) → r ≡ s
one_word depth k nodes row stored r s f g = one_found depth k nodes row stored r s f g
