-- A value as it is printed: Display of value.rs (document 01, "Printing"). Assumes nothing: these are definitions.
use Rattle.std.specs.Prelude.{ℕ, zero, suc, ◌+◌, ◌/◌, ◌%◌, cond, List, [], ◌∷◌, ◌++◌, ltb, ℤ, pos, negsuc}
use Rattle.values.specs.Value.{Value, null, int, str, binary}
use Rattle.quoting.specs.Quote.{quoted}

-- the decimal digits of a number, at most so many
unfoldable pub digits : ℕ → ℕ → List ℕ
digits zero n = []
digits (suc f) n = cond (ltb n 10) ((48 + n) ∷ []) (digits f (n / 10) ++ ((48 + n % 10) ∷ []))

-- an Int of 32 bits has at most 10 digits; a minus (45) before a negative one
unfoldable pub decimal : ℤ → List ℕ
decimal (pos n) = digits 10 n
decimal (negsuc n) = 45 ∷ digits 10 (suc n)

-- NULL, a decimal number, a quoted text, BINARY_STREAM
unfoldable pub display : Value → List ℕ
display null = 78 ∷ 85 ∷ 76 ∷ 76 ∷ []
display (int number) = decimal number
display (str bytes) = quoted bytes
display binary = 66 ∷ 73 ∷ 78 ∷ 65 ∷ 82 ∷ 89 ∷ 95 ∷ 83 ∷ 84 ∷ 82 ∷ 69 ∷ 65 ∷ 77 ∷ []
