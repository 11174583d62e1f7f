-- Document 01's checked examples. Assumes nothing: this is a table.
use Rattle.std.specs.Prelude.{List, [], ◌∷◌, pos, negsuc, ℕ}
use Rattle.values.specs.Value.{Value, null, int, str}
use Rattle.examples.specs.Example.{Call, unary, evaluates, folds, left_joins, Expected, gives, stops, refuses, writes, Example}

-- −2147483648
abbrev lowest : Value
lowest = int (negsuc 2147483647)

abbrev yes : Expected
yes = gives (int (pos 1))

-- 0 AND (2147483647 + 1): the `+` stands at offset 15
abbrev guarded : List ℕ
guarded = 1 ∷ 0 ∷ 0 ∷ 0 ∷ 0 ∷ 1 ∷ 255 ∷ 255 ∷ 255 ∷ 127 ∷ 1 ∷ 1 ∷ 0 ∷ 0 ∷ 0 ∷ 38 ∷ 48 ∷ []

-- the words of Int 1, 2 and 3
abbrev one : ℕ
one = 72057594037927937

abbrev two : ℕ
two = 72057594037927938

abbrev three : ℕ
three = 72057594037927939

-- the left column = the right column
abbrev equality : List ℕ
equality = 4 ∷ 0 ∷ 4 ∷ 1 ∷ 32 ∷ []

-- document 01's checked examples, by their numbers
unfoldable pub table : List Example
table =
    record { number = 1; call = Call.binary 32 null null; answer = yes }
    ∷ record { number = 2; call = Call.binary 34 null lowest; answer = yes }
    ∷ record { number = 3; call = Call.binary 34 (int (pos 7)) (str []); answer = yes }
    ∷ record { number = 4; call = Call.binary 34 (str (66 ∷ [])) (str (97 ∷ [])); answer = yes }
    ∷ record { number = 5; call = Call.binary 34 (str (122 ∷ [])) Value.binary; answer = yes }
    ∷ record { number = 6; call = Call.binary 41 (int (negsuc 6)) (int (pos 2)); answer = gives (int (negsuc 2)) }
    ∷ record { number = 7; call = Call.binary 41 (str (97 ∷ [])) (int (pos 0)); answer = gives null }
    ∷ record { number = 8; call = Call.binary 41 lowest (int (negsuc 0)); answer = stops 5 }
    ∷ record { number = 9; call = Call.binary 45 (int (pos 1)) (int (pos 31)); answer = gives lowest }
    ∷ record { number = 9; call = Call.binary 45 (int (pos 1)) (int (pos 32)); answer = stops 6 }
    ∷ record { number = 10; call = Call.binary 46 (int (negsuc 7)) (int (pos 1)); answer = gives (int (negsuc 3)) }
    ∷ record { number = 11; call = unary 18 null; answer = yes }
    ∷ record { number = 11; call = unary 17 null; answer = gives null }
    ∷ record { number = 12; call = evaluates guarded (0 ∷ []); answer = gives (int (pos 0)) }
    ∷ record { number = 12; call = folds guarded; answer = refuses 5 15 }
    ∷ record { number = 13; call = folds (0 ∷ 0 ∷ 32 ∷ []); answer = writes (1 ∷ 1 ∷ 0 ∷ 0 ∷ 0 ∷ []) }
    ∷ record {
      number = 14;
      call = left_joins equality (one ∷ two ∷ three ∷ []) (three ∷ one ∷ one ∷ []);
      answer = writes (one ∷ one ∷ one ∷ one ∷ two ∷ 0 ∷ three ∷ three ∷ []);
    }
    ∷ []
