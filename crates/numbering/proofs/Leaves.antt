-- A leaf bound: the column that a name means, and what is written for it. Assumes nothing.
use mathlib.Core.Path.{◌≡◌, sym, ap, ◌∙◌}
use mathlib.Core.Bool.{Bool, true, false, cond}
use mathlib.Core.List.{List, [], ◌∷◌}
use Prim.Native.Nat.{ℕ, suc, ◌+◌, ◌*◌, ◌^◌, ◌≤◌, ◌<◌}
use native.Mathlib.Omega.{arith}
use lib.ListN.{length}
use borrow.Author.Tests.{eq-eqb, ne_eqb}
use Rattle.refusals.specs.Stop.{never, stop}
use Rattle.slices.specs.Splice.{Wrote}
use Rattle.slices.proofs.Splice.{wrote_front}
use Rattle.cells.specs.Cell.{kind_of, start_of, length_of}
use Rattle.columns.specs.Column.{found, names, first_from, column_named, found_of, or_next, nowhere}
use Rattle.columns.specs.declared.ColumnNumber.{ColumnNumber}
use Rattle.conditions.specs.Ast.{leaf, map_tree}
use Rattle.nodes.specs.Kind.{body_of}
use Rattle.nodes.proofs.Bodies.{body_name}
use Rattle.forms.specs.Held.{LeafHeld}
use Rattle.postfix.specs.Postfix.{leaf_bytes, bytes_of}
use Rattle.postfix.proofs.Leaves.{length_body}
use Rattle.postfix.proofs.Reading.{leaf_width}
use Rattle.numbering.specs.Number.{column_of, bind_leaf, names_stop}
use Rattle.numbering.specs.Asked.{LeafAsks}
use Rattle.numbering.specs.Walk.{Binds}
use Rattle.std.specs.Prelude.{Ok, Option, Some, None}

-- what is found is one of the elements
pub first_below : {A : Type 0} (p : A → Bool) (n : ℕ) (l : List A) (m : ℕ) → first_from p n l ≡ found m → m < n + length l
unfolding first_from
first_below p n [] m e = absurd (let z : ◌≡◌ {A = ℕ} 0 1 = cc in omega arith)
first_below p n (x ∷ l) m e = by (p x) (first_below p (suc n) l m) e
  where
    by : (b : Bool) → (first_from p (suc n) l ≡ found m → m < suc n + length l) → or_next (cond b (found n) nowhere) (first_from p (suc n) l) ≡ found m → m < n + suc (length l)
    by true rest e = let q : n ≡ m = cc in omega arith
    by false rest e = omega (arith, rest e)

-- two words a name
pub names_length : (stored columns : List ℕ) → length (names stored columns) + length (names stored columns) ≤ length columns
unfolding names
names_length stored [] = omega arith
names_length stored (name ∷ []) = omega arith
names_length stored (name ∷ rule ∷ rest) = omega (arith, names_length stored rest)

-- of at most 32 columns each number is below 32
pub number_below : (stored columns name : List ℕ) (m : ℕ) → length columns ≤ 64 → column_named stored columns name ≡ found m → m < 32
number_below stored columns name m h e = omega (arith, first_below _ 0 (names stored columns) m e, names_length stored columns)

module _ {stored columns out : List ℕ} {w at end : ℕ} (A : LeafAsks stored columns out w at end) where
  -- a leaf written
  binds : (after : List ℕ) (p next x : ℕ) → names_stop stored columns at (leaf w) ≡ never → bind_leaf stored columns w ≡ x → Wrote out end (leaf_bytes x) p after
      → next ≡ at + 1 + body_of (kind_of w) → Binds stored columns out after at end (leaf w) (Ok (p, next))
  unfolding map_tree bytes_of
  binds after p next x n e v f = (n, v.place ∙ rw e, wrote_front v ∙ rw e, omega (arith, length_body w))

  -- there is space for any leaf
  pub leaf_space : (x : ℕ) → end + length (leaf_bytes x) ≤ length out
  leaf_space x = omega (arith, leaf_width x, A.space)

  -- a leaf that is no name stays
  module _ (other : kind_of w ≡ 3 → ⊥) where
    -- its name is not missing, for it has none
    other_never : names_stop stored columns at (leaf w) ≡ never
    unfolding names_stop
    other_never = rw (ne_eqb (kind_of w) 3 other)

    -- it is its own binding
    other_stays : bind_leaf stored columns w ≡ w
    unfolding bind_leaf
    other_stays = rw (ne_eqb (kind_of w) 3 other)

    -- it is written as it is
    pub other_binds : (after : List ℕ) (p b : ℕ) → b ≡ body_of (kind_of w) → Wrote out end (leaf_bytes w) p after → Binds stored columns out after at end (leaf w) (Ok (p, at + 1 + b))
    other_binds after p b e v = binds after p (at + 1 + b) w other_never other_stays v (ap (λ n. at + 1 + n) e)

  module _ (name : kind_of w ≡ 3) where
    -- a name ends within the stored text
    pub name_inside : start_of w + length_of w ≤ length stored
    unfolding LeafHeld
    name_inside = rw (eq-eqb (kind_of w) 3 name, ne_eqb (kind_of w) 4 (λ f. omega (arith, name, f))) at A.held

    -- the name was looked for
    module _ (r : Option ColumnNumber) (q : found_of r ≡ column_of stored columns w) where
      -- it is no column's: 4, at the leaf's offset
      pub name_missing : r ≡ None → names_stop stored columns at (leaf w) ≡ stop 4 at
      unfolding names_stop
      name_missing e = rw (eq-eqb (kind_of w) 3 name, ← q, e)

      module _ (m : ColumnNumber) (e : r ≡ Some m) where
        -- it is a column's, so it is not missing
        name_never : names_stop stored columns at (leaf w) ≡ never
        unfolding names_stop
        name_never = rw (eq-eqb (kind_of w) 3 name, ← q, e)

        -- the leaf bound is that column's number
        name_numbered : bind_leaf stored columns w ≡ 4 * 2 ^ 56 + m.0
        unfolding bind_leaf
        name_numbered = rw (eq-eqb (kind_of w) 3 name, ← q, e)

        -- the number is below 32
        pub number_small : m.0 < 32
        number_small = number_below stored columns _ m.0 A.few (sym q ∙ ap found_of e)

        -- it gives way to its number, and the offset after it is 7 bytes on
        pub name_binds : (after : List ℕ) (p : ℕ) → Wrote out end (leaf_bytes (4 * 2 ^ 56 + m.0)) p after → Binds stored columns out after at end (leaf w) (Ok (p, at + 7))
        name_binds after p v = binds after p (at + 7) _ name_never name_numbered v (omega (arith, body_name (kind_of w) name))
