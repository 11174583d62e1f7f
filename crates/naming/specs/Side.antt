-- One side of a join, column by column: what the code asks for and what it leaves. Assumes nothing: these are definitions.
use Rattle.std.specs.Prelude.{ℕ, ◌+◌, ◌*◌, ◌≤◌, ◌≡◌, Bool, List, ◌++◌, length, take}
use Rattle.refusals.specs.Told.{told}
use Rattle.refusals.specs.Stop.{never}
use Rattle.cells.specs.Cell.{start_of, length_of}
use Rattle.columns.specs.Column.{columns_stop}
use Rattle.tables.specs.Table.{column_count}
use Rattle.naming.specs.OneSide.{Head, joined, Named, named, too_long, side_of}
use Rattle.std.specs.Prelude.{Result, Ok, Err, Option, Some, None}
use Rattle.refusals.specs.declared.Refusal.{Refusal}

-- ---- one name

-- the column's name lies below the top, and a name has room above it
pub record NameAsks (word top size : ℕ) : Type 0 where
  pub inside : start_of word + length_of word ≤ top
  pub room : top + 255 ≤ size
  pub small : size ≤ 65536

-- what an answer says of a name, in the text after it
abbrev pub named_by : Option (ℕ × ℕ) → List ℕ → Named
named_by (Some (word, mark)) text = named word (take mark text)
named_by None text = too_long

-- an answer comes to this; the top rises by at most 255, and the text below it is kept
pub record NameIs (text after : List ℕ) (top : ℕ) (answer : Option (ℕ × ℕ)) (n : Named) : Type 0 where
  pub says : n ≡ named_by answer after
  pub kept : take top after ≡ take top text
  pub rises : (word mark : ℕ) → answer ≡ Some (word, mark) → (top ≤ mark) × (mark ≤ top + 255)

-- ---- a side's columns

-- words ahead of those that a head has
abbrev pub ahead : List ℕ → Head → Head
ahead words (joined more stored) = joined (words ++ more) stored
ahead words (Head.refused number place) = Head.refused number place

-- the names lie below the top, and there is room for a name and two words a column
pub record SideAsks (columns text words : List ℕ) (number top : ℕ) : Type 0 where
  pub sound : columns_stop top 0 columns ≡ never
  pub room : top + 255 * column_count columns ≤ length text
  pub small : length text ≤ 65536
  pub space : 2 * (number + column_count columns) ≤ length words

-- what is handed on after a side: the words and the text so far, or a refusal
abbrev pub handed_on : Result (ℕ × ℕ) Refusal → List ℕ → List ℕ → (List ℕ → Head) → Head
handed_on (Ok (count, mark)) words text rest = ahead (take count words) (rest (take mark text))
handed_on (Err r) words text rest = Head.refused (told r).number (told r).place

-- a side's answer, words and text, whatever follows it
pub record SideIs (table columns : List ℕ) (nullable : Bool) (number top : ℕ) (text after words after-words : List ℕ) (answer : Result (ℕ × ℕ) Refusal) : Type 0 where
  pub says : (rest : List ℕ → Head) → ahead (take (2 * number) words) (side_of table nullable number columns rest (take top text)) ≡ handed_on answer after-words after rest
  pub kept : take top after ≡ take top text
  pub ends : (count mark : ℕ) → answer ≡ Ok (count, mark) → (count ≡ 2 * (number + column_count columns)) × (top ≤ mark) × (mark ≤ top + 255 * column_count columns)
