-- The columns of a join, one side of them (document 01, "Joined columns get table name, dot, column name"; Column::with_name_prefix and
-- but_nullable of column.rs). Assumes nothing: these are definitions.
use Rattle.std.specs.Prelude.{ℕ, suc, Bool, true, false, cond, List, [], ◌∷◌, ◌++◌, length, leb}
use Rattle.slices.specs.Splice.{piece}
use Rattle.cells.specs.Cell.{start_of, length_of, word_of}
use Rattle.cells.specs.declared.ValueRef.TheVariants.{Str}
use Rattle.rules.specs.Rule.{but_nullable}

-- the joined columns' words and the stored text after them, or a refusal's number and place
pub data Head : Type 0 where
  joined : List ℕ → List ℕ → Head
  refused : ℕ → ℕ → Head

-- table name, dot (46), column name
abbrev pub prefixed : List ℕ → List ℕ → List ℕ
prefixed table name = table ++ (46 ∷ name)

-- the name word: kept where the table name is empty; else the new name's, appended at the mark, at most 255 bytes long
pub data Named : Type 0 where
  named : ℕ → List ℕ → Named
  too_long : Named

-- a new name at the mark, 7 where it is over 255 bytes
abbrev pub appended : List ℕ → List ℕ → Named
appended name stored = cond (leb (length name) 255) (named (word_of (Str (length stored) (length name))) (stored ++ name)) too_long

-- a column's name in the joined table
abbrev pub name_of : List ℕ → List ℕ → ℕ → Named
name_of [] stored word = named word stored
name_of (b ∷ table) stored word = appended (prefixed (b ∷ table) (piece (start_of word) (length_of word) stored)) stored

-- a left join makes the right columns nullable; rules are kept otherwise
abbrev pub rule_of : Bool → ℕ → ℕ
rule_of true rule = but_nullable rule
rule_of false rule = rule

-- more columns behind one
abbrev pub behind : ℕ → ℕ → Head → Head
behind name rule (joined words stored) = joined (name ∷ rule ∷ words) stored
behind name rule (Head.refused number place) = Head.refused number place

-- a column by its name, then the rest; 7 at the column where the name is too long
abbrev pub of_name : Named → ℕ → ℕ → (List ℕ → Head) → Head
of_name (named word stored) column rule rest = behind word rule (rest stored)
of_name too_long column rule rest = Head.refused 7 column

-- one side's columns, in column order, the first one having this number in the joined table; then what follows them
unfoldable pub side_of : List ℕ → Bool → ℕ → List ℕ → (List ℕ → Head) → List ℕ → Head
side_of table nullable number [] rest stored = rest stored
side_of table nullable number (name ∷ []) rest stored = rest stored
side_of table nullable number (name ∷ rule ∷ columns) rest stored =
    of_name (name_of table stored name) number (rule_of nullable rule) (λ s. side_of table nullable (suc number) columns rest s)
