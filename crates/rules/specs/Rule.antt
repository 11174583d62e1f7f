-- A column's rule word (document 01, "Words and bytes", Column). Assumes nothing: these are definitions.
use Rattle.std.specs.Prelude.{ℕ, ◌+◌, ◌^◌, ◌/◌, ◌%◌, Bool, true, false, cond, length, ltb, leb, eqb}
use Rattle.values.specs.Value.{Value, null, int, str, binary}

-- bits 0 to 7: 1 Int, 2 text, 3 Binary
abbrev pub kind_of : ℕ → ℕ
kind_of rule = rule % 256

-- bit 8
abbrev pub is_nullable : ℕ → Bool
is_nullable rule = eqb (rule / 256 % 2) 1

-- bit 9
abbrev pub is_key : ℕ → Bool
is_key rule = eqb (rule / 512 % 2) 1

-- bits 16 to 31: the greatest text length, 0 for no bound
abbrev pub bound_of : ℕ → ℕ
bound_of rule = rule / 65536 % 65536

-- the kind is one of the three, and only a text has a bound
abbrev pub kind_fits : ℕ → ℕ → Bool
kind_fits kind bound = cond (eqb kind 2) true (cond (eqb bound 0) (cond (eqb kind 1) true (eqb kind 3)) false)

-- the other bits, 10 to 15 and from 32 on, are 0
unfoldable pub is_rule : ℕ → Bool
is_rule rule = cond (ltb rule (2 ^ 32)) (cond (eqb (rule / 1024 % 64) 0) (kind_fits (kind_of rule) (bound_of rule)) false) false

-- a text no longer than the bound in bytes
abbrev pub within_bound : ℕ → ℕ → Bool
within_bound size bound = cond (eqb bound 0) true (leb size bound)

-- a valid value (added): Null in a nullable column; otherwise a cell of the column's kind, a text within the bound, every Int
unfoldable pub is_valid_value : ℕ → Value → Bool
is_valid_value rule null = is_nullable rule
is_valid_value rule (int number) = eqb (kind_of rule) 1
is_valid_value rule (str bytes) = cond (eqb (kind_of rule) 2) (within_bound (length bytes) (bound_of rule)) false
is_valid_value rule binary = eqb (kind_of rule) 3

-- Column::but_nullable: bit 8 set, all others kept
unfoldable pub but_nullable : ℕ → ℕ
but_nullable rule = cond (is_nullable rule) rule (rule + 256)
