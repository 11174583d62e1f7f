-- A node of a condition, read off the postfix bytes: its kind, its body and its text (document 01, "Condition"). Assumes nothing: these are definitions.
use Rattle.std.specs.Prelude.{ℕ, ◌+◌, ◌*◌, ◌^◌, List, Bool, true, false, not, cond, get_or, ltb, leb, eqb}
use Rattle.slices.specs.Bytes.{both}
use Rattle.columns.specs.Column.{is_name_length}
use Rattle.nodes.specs.declared.Allowed.{Allowed}
use Rattle.nodes.specs.declared.Allowed.TheVariants.{Named, Bound, Mixed}

-- the kinds of node: 0 to 4, 16 to 18, 32 to 46, 48 and 49
unfoldable pub is_kind : ℕ → Bool
is_kind k =
    cond (ltb k 5) true
    (cond (ltb k 16) false (cond (ltb k 19) true (cond (ltb k 32) false (cond (ltb k 47) true (cond (ltb k 48) false (ltb k 50))))))

-- a named condition has no kind 4, a bound one no kind 3
abbrev pub allows : Allowed → ℕ → Bool
allows Named k = not (eqb k 4)
allows Bound k = not (eqb k 3)
allows Mixed k = true

-- a kind that the form allows
unfoldable pub known : Allowed → ℕ → Bool
known form k = both (is_kind k) (allows form k)

-- the length of a body
unfoldable pub body_of : ℕ → ℕ
body_of k = cond (eqb k 1) 4 (cond (eqb k 2) 6 (cond (eqb k 3) 6 (cond (eqb k 4) 1 0)))

-- little-endian numbers
abbrev pub two : List ℕ → ℕ → ℕ
two b i = get_or b i 0 + 256 * get_or b (i + 1) 0

-- a number of four bytes likewise
abbrev pub four : List ℕ → ℕ → ℕ
four b i = two b i + 65536 * two b (i + 2)

-- the word of a leaf, kind × 2^56 + body: an Int's 32 bits, a text's or a name's start × 65,536 + length, a column's number
unfoldable pub leaf_word : List ℕ → ℕ → ℕ → ℕ
leaf_word b at k =
    k * 2 ^ 56
    + cond (eqb k 1) (four b (at + 1))
    (cond (eqb k 2) (four b (at + 1) * 65536 + two b (at + 5))
    (cond (eqb k 3) (four b (at + 1) * 65536 + two b (at + 5)) (cond (eqb k 4) (get_or b (at + 1) 0) 0)))

-- a text ends at or before the mark, a column's name too, and it has 1 to 255 bytes
unfoldable pub text_fits : ℕ → List ℕ → ℕ → ℕ → Bool
text_fits used b at k =
    cond (eqb k 2) (leb (four b (at + 1) + two b (at + 5)) used)
    (cond (eqb k 3) (both (leb (four b (at + 1) + two b (at + 5)) used) (is_name_length (two b (at + 5)))) true)
