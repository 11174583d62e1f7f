-- Values: what a cell means in a stored text, and truth (value.rs). Assumes nothing: these are definitions.
use Rattle.std.specs.Prelude.{ℕ, zero, suc, List, [], ◌∷◌, Bool, true, false, ℤ, pos, negsuc}
use Rattle.slices.specs.Splice.{piece}
use Rattle.cells.specs.Cell.{ref_of}
use Rattle.cells.specs.declared.ValueRef.{ValueRef}
use Rattle.cells.specs.declared.ValueRef.TheVariants.{Null, Int, Str, Binary}

-- value.rs's Value: its Str holds the text itself, here its bytes
pub data Value : Type 0 where
  null : Value
  int : ℤ → Value
  str : List ℕ → Value
  binary : Value

-- ValueRef::to_value: what a cell means in a stored text, that is the bytes below the mark
unfoldable pub to_value : List ℕ → ValueRef → Value
to_value stored Null = null
to_value stored (Int number) = int number
to_value stored (Str start length) = str (piece start length stored)
to_value stored Binary = binary

-- what a cell's word means
abbrev pub value_of : List ℕ → ℕ → Value
value_of stored word = to_value stored (ref_of word)

-- an Int that counts as true
abbrev pub nonzero : ℤ → Bool
nonzero (pos zero) = false
nonzero (pos (suc n)) = true
nonzero (negsuc n) = true

-- a text that counts as true
abbrev pub nonempty : List ℕ → Bool
nonempty [] = false
nonempty (b ∷ bytes) = true

-- Value::to_bool: true are a nonzero Int, a nonempty text, Binary
unfoldable pub to_bool : Value → Bool
to_bool null = false
to_bool (int number) = nonzero number
to_bool (str bytes) = nonempty bytes
to_bool binary = true

-- Value::from_bool: Int 1 or 0
unfoldable pub from_bool : Bool → Value
from_bool true = int (pos 1)
from_bool false = int (pos 0)
