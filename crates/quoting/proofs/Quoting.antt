-- Laws of a quoted text: a byte escaped, bytes one after another, and how long they get; bytes of 128 or more. Assumes nothing.
use mathlib.Core.Path.{◌≡◌, refl, ◌∙◌}
use mathlib.Core.Bool.{Bool, true, false, cond, ◌||◌}
use mathlib.Core.List.{List, [], ◌∷◌, ◌++◌}
use Prim.Native.Nat.{ℕ, ◌+◌, ◌*◌, ◌/◌, ◌%◌, ◌≤◌, ◌<◌}
use native.Mathlib.Omega.{arith}
use native.Mathlib.Numerals.{add-one}
use lib.ListN.{length, drop, get_or, length-append, drop_of_length-le}
use lib.Seq.{drop-cons}
use lib.Dec.{ltb, leb, eqb}
use Rattle.std.specs.List.{list_any}
use borrow.Author.Tests.{lt-ltb, le-ltb, ne_eqb}
use Rattle.puts.proofs.Putting.{either}
use Rattle.quoting.specs.Quote.{hex_digit, hex, is_control, escaped, escaped_all, quoted, has_high}

-- ---- one byte

module _ (b : ℕ) where
  -- one digit below 16
  pub hex_one : b < 16 → hex b ≡ hex_digit b ∷ []
  hex_one h = rw (lt-ltb b 16 h)

  -- else two
  pub hex_two : 16 ≤ b → hex b ≡ (hex_digit (b / 16) ∷ []) ++ (hex_digit (b % 16) ∷ [])
  hex_two h = rw (le-ltb b 16 h)

  -- at most two digits
  pub hex_short : length (hex b) ≤ 2
  hex_short = either (ltb b 16) (hex_digit b ∷ []) (hex_digit (b / 16) ∷ hex_digit (b % 16) ∷ []) 2 (omega arith) (omega arith)

  module _ (l : ℕ) (e : escaped b ≡ cond (eqb l 0) (cond (is_control b) (92 ∷ 117 ∷ 123 ∷ (hex b ++ (125 ∷ []))) (b ∷ [])) (92 ∷ l ∷ [])) where
    -- a byte with a letter of its own
    pub by_letter : (l ≡ 0 → ⊥) → escaped b ≡ 92 ∷ l ∷ []
    by_letter n = e ∙ rw (ne_eqb l 0 n)

    -- a byte that is told by its number
    pub by_number : l ≡ 0 → is_control b ≡ true → escaped b ≡ 92 ∷ 117 ∷ 123 ∷ (hex b ++ (125 ∷ []))
    by_number z t = e ∙ rw (z, t)

    -- any other is itself
    pub by_itself : l ≡ 0 → is_control b ≡ false → escaped b ≡ b ∷ []
    by_itself z t = e ∙ rw (z, t)

  -- at most 6 bytes
  pub escaped_short : length (escaped b) ≤ 6
  unfolding escaped
  escaped_short =
      let s : (t : Bool) (a b : List ℕ) → length a ≤ 6 → length b ≤ 6 → length (cond t a b) ≤ 6 = λ t a b. either t a b 6 in
      let c : length (92 ∷ 117 ∷ 123 ∷ (hex b ++ (125 ∷ []))) ≤ 6 = rw length-append (omega (arith, hex_short)) in
      s (eqb b 34) _ _ (omega arith)
      (s (eqb b 92) _ _ (omega arith)
      (s (eqb b 0) _ _ (omega arith) (s (eqb b 9) _ _ (omega arith) (s (eqb b 10) _ _ (omega arith) (s (eqb b 13) _ _ (omega arith) (s (is_control b) _ (b ∷ []) c (omega arith)))))))

-- ---- a text

-- what is left of a text: its byte at an index, and the rest
pub escaped_from : (l : List ℕ) (i : ℕ) → i < length l → escaped_all (drop i l) ≡ escaped (get_or l i 0) ++ escaped_all (drop (i + 1) l)
unfolding escaped_all
escaped_from l i h = rw (add-one, drop-cons l i 0 h)

-- nothing is left
pub escaped_end : (l : List ℕ) (i : ℕ) → length l ≤ i → escaped_all (drop i l) ≡ []
unfolding escaped_all
escaped_end l i h = rw (drop_of_length-le l h)

-- at most 6 bytes for each
pub all_short : (l : List ℕ) → length (escaped_all l) ≤ 6 * length l
unfolding escaped_all
all_short [] = omega arith
all_short (b ∷ l) = rw length-append (omega (arith, escaped_short b, all_short l))

-- and the two quotes
pub quoted_short : (l : List ℕ) → length (quoted l) ≤ 6 * length l + 2
quoted_short l = rw length-append (omega (arith, all_short l))

-- ---- bytes of 128 or more

-- a list has one exactly if one passes the test
pub high_any : (l : List ℕ) → list_any (leb 128) l ≡ has_high l
unfolding has_high
high_any [] = refl
high_any (b ∷ l) = rw (high_any l) (go (leb 128 b))
  where
    go : (t : Bool) → (t || has_high l) ≡ cond t true (has_high l)
    go true = refl
    go false = refl
