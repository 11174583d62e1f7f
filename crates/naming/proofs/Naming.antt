-- One column's name in the joined table. Assumes nothing.
use mathlib.Core.Path.{◌≡◌, refl, sym, ap, ap₂, subst, ◌∙◌}
use mathlib.Core.List.{List, [], ◌∷◌, ◌++◌, append_assoc}
use Prim.Native.Nat.{ℕ, ◌+◌, ◌*◌, ◌^◌, ◌≤◌, ◌<◌}
use native.Mathlib.Omega.{arith}
use lib.ListN.{length, take, set, length-append}
use lib.Seq.{length-take-le}
use borrow.Author.Tests.{le-leb, lt-leb}
use Rattle.slices.specs.Splice.{piece, Wrote}
use Rattle.slices.proofs.Pieces.{piece_take, piece_length, piece_front}
use Rattle.slices.proofs.Splice.{wrote_length, wrote_then, wrote_kept, wrote_front, wrote_one}
use Rattle.cells.specs.Cell.{start_of, length_of, word_of}
use Rattle.cells.specs.declared.ValueRef.TheVariants.{Str}
use Rattle.naming.specs.OneSide.{named, prefixed, appended, name_of}
use Rattle.naming.specs.Side.{NameAsks, NameIs}
use Rattle.std.specs.Prelude.{Option, Some, None}

-- the second part of a pair that is told
second_is : {w m w' m' : ℕ} → ◌≡◌ {A = Option (ℕ × ℕ)} (Some (w, m)) (Some (w', m')) → m ≡ m'
second_is {w} {m} {w'} {m'} q = let z : ◌≡◌ {A = ℕ × ℕ} (w, m) (w', m') = cc in ap (λ p. p.1) z

-- where the table name is empty the word is kept
kept_word : (table stored : List ℕ) (word : ℕ) → length table ≡ 0 → name_of table stored word ≡ named word stored
kept_word [] stored word e = refl
kept_word (b ∷ table) stored word e = absurd (let z : ⊥ = omega arith in z)

-- else a new name is appended
new_word : (table stored : List ℕ) (word : ℕ) → (length table ≡ 0 → ⊥)
    → name_of table stored word ≡ appended (prefixed table (piece (start_of word) (length_of word) stored)) stored
new_word [] stored word n = absurd (n refl)
new_word (b ∷ table) stored word n = refl

module _ (table x : List ℕ) (word top : ℕ) (asks : NameAsks word top (length x)) where
  -- the column's own name
  abbrev pub column : List ℕ
  column = piece (start_of word) (length_of word) (take top x)

  -- the text up to the top is that long
  front_long : length (take top x) ≡ top
  front_long = length-take-le top x (omega (arith, asks.room))

  -- no table name
  pub name_kept : length table ≡ 0 → NameIs x x top (Some (word, top)) (name_of table (take top x) word)
  name_kept e = record { says = kept_word table (take top x) word e; kept = refl; rises = λ w m q. let z : top ≡ m = second_is q in (omega arith, omega arith) }

  module _ (some : length table ≡ 0 → ⊥) where
    -- the lengths of both names
    column_long : length column ≡ length_of word
    column_long = piece_length (start_of word) (length_of word) (take top x) (rw front_long asks.inside)

    long : length (prefixed table column) ≡ length table + 1 + length_of word
    long = omega (arith, length-append table (46 ∷ column), column_long)

    -- a name over 255 bytes
    pub name_refused : 255 < length table + 1 + length_of word → NameIs x x top None (name_of table (take top x) word)
    name_refused h = record {
      says = new_word table (take top x) word some ∙ (rw (long, lt-leb (length table + 1 + length_of word) 255 h));
      kept = refl;
      rises = λ w m q. absurd (let z : ◌≡◌ {A = ℕ} 0 1 = cc in omega arith);
    }

    module _ (short : length table + 1 + length_of word ≤ 255) (x₁ : List ℕ) (dot : ℕ) (first : Wrote x top table dot x₁) where
      -- there is room for the dot, then for the column's name
      dot_inside : dot < length x₁
      dot_inside = omega (arith, first.place, wrote_length first, asks.room)

      pub column_room : (start_of word + length_of word ≤ dot + 1) × (dot + 1 + length_of word ≤ length x₁)
      column_room = (omega (arith, first.place, asks.inside), omega (arith, first.place, wrote_length first, asks.room))

      -- table name and dot stand there
      dotted : Wrote x top (table ++ (46 ∷ [])) (dot + 1) (set x₁ dot 46)
      dotted = wrote_then first (wrote_one x₁ dot 46 dot_inside)

      module _ (x₂ : List ℕ) (end : ℕ) (second : Wrote (set x₁ dot 46) (dot + 1) (piece (start_of word) (length_of word) (set x₁ dot 46)) end x₂) where
        -- what is copied up is the column's own name
        column_is : piece (start_of word) (length_of word) (set x₁ dot 46) ≡ column
        column_is = piece_front top (start_of word) (length_of word) (set x₁ dot 46) x asks.inside (wrote_kept dotted) ∙ sym (piece_take top (start_of word) (length_of word) x asks.inside)

        -- the new name stands there
        whole : Wrote x top (prefixed table column) end x₂
        whole = let w = wrote_then dotted (subst (λ y. Wrote (set x₁ dot 46) (dot + 1) y end x₂) column_is second) in
            subst (λ y. Wrote x top y end x₂) (append_assoc table (46 ∷ []) column) w

        -- its word and the new top
        pub name_appended : NameIs x x₂ top (Some (2 ^ 57 + top * 65536 + (length table + 1 + length_of word), end)) (name_of table (take top x) word)
        unfolding word_of
        name_appended =
            let w : 2 ^ 57 + (length (take top x) * 65536 + length (prefixed table column)) ≡ 2 ^ 57 + top * 65536 + (length table + 1 + length_of word) = omega (arith, front_long, long) in
            let fits : appended (prefixed table column) (take top x) ≡ named (word_of (Str (length (take top x)) (length (prefixed table column)))) (take top x ++ prefixed table column) = rw (le-leb (length (prefixed table column)) 255 (omega (arith, long))) in
            record {
              says = new_word table (take top x) word some ∙ fits ∙ ap₂ named w (sym (wrote_front whole));
              kept = wrote_kept whole;
              rises = λ v m q. let z : end ≡ m = second_is q in (omega (arith, whole.place), omega (arith, whole.place, long));
            }
