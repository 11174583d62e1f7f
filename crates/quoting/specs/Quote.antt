-- A text as `{:?}` of Rust quotes it (document 01, "Printing"). Assumes nothing: these are definitions.
use Rattle.std.specs.Prelude.{ℕ, ◌+◌, ◌/◌, ◌%◌, Bool, true, false, cond, List, [], ◌∷◌, ◌++◌, ltb, leb, eqb}

-- a hexadecimal digit in lower case
abbrev pub hex_digit : ℕ → ℕ
hex_digit n = cond (ltb n 10) (48 + n) (87 + n)

-- without leading zeros; of a byte
abbrev pub hex : ℕ → List ℕ
hex b = cond (ltb b 16) (hex_digit b ∷ []) (hex_digit (b / 16) ∷ hex_digit (b % 16) ∷ [])

-- other bytes below 32, and 127, are \u{hex}
abbrev pub is_control : ℕ → Bool
is_control b = cond (ltb b 32) true (eqb b 127)

-- `"` and `\` get a backslash (92), bytes 0, 9, 10, 13 are \0 \t \n \r
unfoldable pub escaped : ℕ → List ℕ
escaped b =
    cond (eqb b 34) (92 ∷ 34 ∷ [])
    (cond (eqb b 92) (92 ∷ 92 ∷ [])
    (cond (eqb b 0) (92 ∷ 48 ∷ [])
    (cond (eqb b 9) (92 ∷ 116 ∷ [])
    (cond (eqb b 10) (92 ∷ 110 ∷ [])
    (cond (eqb b 13) (92 ∷ 114 ∷ [])
    (cond (is_control b) (92 ∷ 117 ∷ 123 ∷ (hex b ++ (125 ∷ []))) (b ∷ [])))))))

-- each byte of a text escaped
unfoldable pub escaped_all : List ℕ → List ℕ
escaped_all [] = []
escaped_all (b ∷ bytes) = escaped b ++ escaped_all bytes

-- a text between quotes (34)
abbrev pub quoted : List ℕ → List ℕ
quoted bytes = 34 ∷ (escaped_all bytes ++ (34 ∷ []))

-- a byte of 128 or more somewhere in a text
unfoldable pub has_high : List ℕ → Bool
has_high [] = false
has_high (b ∷ bytes) = cond (leb 128 b) true (has_high bytes)
