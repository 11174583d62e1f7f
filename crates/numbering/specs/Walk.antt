-- What the walk over the table of nodes asks and gives. Assumes nothing: these are definitions.
use Rattle.std.specs.Prelude.{ℕ, ◌+◌, ◌*◌, ◌≤◌, ◌<◌, ◌≡◌, List, ◌++◌, length, take}
use Rattle.refusals.specs.Stop.{never, stop_of}
use Rattle.columns.specs.Column.{columns_stop}
use Rattle.conditions.specs.Ast.{Tree, map_tree, size, height}
use Rattle.forms.specs.Held.{Denotes}
use Rattle.postfix.specs.Postfix.{bytes_of, width}
use Rattle.numbering.specs.Number.{bind_leaf, names_stop}
use Rattle.std.specs.Prelude.{Result, Ok, Err}
use Rattle.refusals.specs.declared.Refusal.{Refusal}

-- a tree stands at k, at most so deep; its bytes begin at an offset; there is space for the bound ones
pub record BindAsks (stored columns nodes out : List ℕ) (k depth at end : ℕ) (t : Tree ℕ) : Type 0 where
  pub sound : columns_stop (length stored) 0 columns ≡ never
  pub few : length columns ≤ 64
  pub held : Denotes (length stored) nodes k t
  pub deep : height t ≤ depth
  pub inside : k < length nodes
  pub space : end + 7 * size t ≤ length out
  pub early : at + 7 * size t ≤ 448

-- the bound tree's bytes are written, and the offset after the tree is told; or the first name of no column
abbrev pub Binds : (stored columns before after : List ℕ) (at end : ℕ) (t : Tree ℕ) → Result (ℕ × ℕ) Refusal → Type 0
Binds stored columns before after at end t (Ok (e, next)) =
    (names_stop stored columns at t ≡ never) × (e ≡ end + width (map_tree (bind_leaf stored columns) t))
    × (take e after ≡ take end before ++ bytes_of (map_tree (bind_leaf stored columns) t)) × (next ≡ at + width t)
Binds stored columns before after at end t (Err r) = names_stop stored columns at t ≡ stop_of r
