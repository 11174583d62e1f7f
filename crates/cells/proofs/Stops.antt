-- What the check of a word says. Assumes nothing.
use mathlib.Core.Path.{◌≡◌, refl, sym, ◌∙◌}
use mathlib.Core.Bool.{Bool, true, false, not}
use Prim.Native.Nat.{ℕ, ◌+◌, ◌*◌, ◌^◌, ◌/◌, ◌%◌, ◌≤◌, ◌<◌}
use native.Mathlib.Omega.{arith}
use mathlib.Core.List.{List, []}
use lib.ListN.{length, replicate, length-replicate}
use lib.Dec.{eqb, ltb}
use borrow.Author.Tests.{eq-eqb, ne_eqb, eqb-true, eqb-false, lt-ltb, le-ltb, ltb-false}
use Rattle.refusals.specs.Stop.{never, stop, stop_if, or_else}
use Rattle.cells.specs.Cell.{kind_of, body_of, bodies_of, is_cell, start_of, length_of, reaches_beyond, cell_stop, WellFormed, Inside, ref_of, word_of}
use mir.Syntax.{w32}
use mir.Val.{of_z}
use mir.Facts.{Fits-of_z}
use Rattle.cells.specs.declared.ValueRef.{ValueRef}
use Rattle.cells.specs.declared.ValueRef.TheVariants.{Null, Int, Str, Binary}
use Rattle.cells.proofs.Words.{ref_int, ref_str, ref_binary, ref_null, Sized}

module _ (used w p : ℕ) where
  pub stop_malformed : is_cell w ≡ false → cell_stop used w p ≡ stop 8 p
  unfolding cell_stop
  stop_malformed e = rw e

  pub stop_beyond : is_cell w ≡ true → reaches_beyond used w ≡ true → cell_stop used w p ≡ stop 3 p
  unfolding cell_stop
  stop_beyond e f = rw (e, f)

  pub stop_never : is_cell w ≡ true → reaches_beyond used w ≡ false → cell_stop used w p ≡ never
  unfolding cell_stop
  stop_never e f = rw (e, f)

  -- a word that is not refused
  pub never_stops : cell_stop used w p ≡ never → (is_cell w ≡ true) × (reaches_beyond used w ≡ false)
  unfolding cell_stop
  never_stops h = go (is_cell w) (reaches_beyond used w) h
    where
      go : (c b : Bool) → or_else (stop_if (not c) 8 p) (or_else (stop_if b 3 p) never) ≡ never → (c ≡ true) × (b ≡ false)
      go true true h = absurd (let z : ◌≡◌ {A = ℕ} 0 1 = cc in omega arith)
      go true false h = (refl, refl)
      go false b h = absurd (let z : ◌≡◌ {A = ℕ} 0 1 = cc in omega arith)

-- a text that does not reach beyond the mark ends at or before it
pub ends_inside : (used w : ℕ) → kind_of w ≡ 2 → reaches_beyond used w ≡ false → start_of w + length_of w ≤ used
unfolding reaches_beyond
ends_inside used w e h = let q : ltb used (start_of w + length_of w) ≡ false = rw (eq-eqb (kind_of w) 2 e) at h in ltb-false _ _ q

-- the cell of a well-formed word is inside
pub well_inside : (used w : ℕ) → WellFormed used w → Inside used (ref_of w)
unfolding Inside
well_inside used w h = go (eqb (kind_of w) 1) (eqb (kind_of w) 2) (eqb (kind_of w) 3) refl refl refl
  where
    go : (i s b : Bool) → eqb (kind_of w) 1 ≡ i → eqb (kind_of w) 2 ≡ s → eqb (kind_of w) 3 ≡ b → Inside used (ref_of w)
    go true s b e f g = rw (ref_int w (eqb-true (kind_of w) 1 e)) tt
    go false true b e f g =
        let k : kind_of w ≡ 2 = eqb-true (kind_of w) 2 f in
        rw (ref_str w k) (ends_inside used w k (never_stops used w 0 h).1)
    go false false true e f g = rw (ref_binary w (eqb-true (kind_of w) 3 g)) tt
    go false false false e f g = rw (ref_null w (eqb-false (kind_of w) 1 e) (eqb-false (kind_of w) 2 f) (eqb-false (kind_of w) 3 g)) tt

-- a word of a kind that has enough bodies
pub cell_by : (w k m : ℕ) → kind_of w ≡ k → bodies_of k ≡ m → body_of w < m → is_cell w ≡ true
unfolding is_cell
cell_by w k m e f h = lt-ltb (body_of w) (bodies_of (kind_of w)) (rw (e, f) h)

-- a word of another kind than text reaches nowhere
pub text_by : (used w k : ℕ) → kind_of w ≡ k → (k ≡ 2 → ⊥) → reaches_beyond used w ≡ false
unfolding reaches_beyond
text_by used w k e n = rw (e, ne_eqb k 2 n)

-- a text that ends at the mark or before does not reach beyond it
pub inside_by : (used w : ℕ) → kind_of w ≡ 2 → start_of w + length_of w ≤ used → reaches_beyond used w ≡ false
unfolding reaches_beyond
inside_by used w e h = rw (eq-eqb (kind_of w) 2 e) (le-ltb used (start_of w + length_of w) h)

-- an Int by its high half
pub int_never : (used w p : ℕ) → w / 2 ^ 32 ≡ 16777216 → cell_stop used w p ≡ never
unfolding bodies_of
int_never used w p e =
    let k : w / 2 ^ 56 ≡ 1 = omega arith in
    stop_never used w p (cell_by w 1 (2 ^ 32) k refl (omega arith)) (text_by used w 1 k (λ q. omega arith))

-- a place tells nothing of a word's form
pub well_formed : (used w p : ℕ) → cell_stop used w p ≡ never → WellFormed used w
well_formed used w p h = let q = never_stops used w p h in stop_never used w 0 q.0 q.1

-- there is a text that a cell lies inside of
some_text : (v : ValueRef) → (t : List ℕ) × Inside (length t) v
unfolding Inside
some_text Null = ([], tt)
some_text (Int number) = ([], tt)
some_text (Str start size) = (replicate (start + size) 0, rw length-replicate (omega arith))
some_text Binary = ([], tt)

-- so an answer that is told for every such text is told once
pub told_once : {A : Type 0} (v : ValueRef) (f : List ℕ → A) (r s : A)
    → ((t : List ℕ) → Inside (length t) v → r ≡ f t) → ((t : List ℕ) → Inside (length t) v → s ≡ f t) → r ≡ s
told_once v f r s g h = let t = some_text v in g t.0 t.1 ∙ sym (h t.0 t.1)

-- the word of a cell whose parts have the code's sizes and whose text lies inside is well formed
pub well_word : (used : ℕ) (r : ValueRef) → Sized r → Inside used r → WellFormed used (word_of r)
unfolding Inside Sized word_of bodies_of
well_word used Null s h = stop_never used 0 0 (cell_by 0 0 1 refl refl (omega arith)) (text_by used 0 0 refl (λ e. omega arith))
well_word used (Int z) s h =
    let b : of_z w32 z < 2 ^ 32 = (Fits-of_z s).fits in
    let k : (1 * 2 ^ 56 + of_z w32 z) / 2 ^ 56 ≡ 1 = omega arith in
    stop_never used _ 0 (cell_by (1 * 2 ^ 56 + of_z w32 z) 1 (2 ^ 32) k refl (omega arith)) (text_by used (1 * 2 ^ 56 + of_z w32 z) 1 k (λ e. omega arith))
well_word used (Str start size) s h =
    let k : (2 * 2 ^ 56 + (start * 65536 + size)) / 2 ^ 56 ≡ 2 = omega (arith, s.0, s.1) in
    let a : (2 * 2 ^ 56 + (start * 65536 + size)) / 65536 % 2 ^ 32 ≡ start = omega (arith, s.0, s.1) in
    let l : (2 * 2 ^ 56 + (start * 65536 + size)) % 65536 ≡ size = omega (arith, s.0, s.1) in
    stop_never used _ 0 (cell_by (2 * 2 ^ 56 + (start * 65536 + size)) 2 (2 ^ 48) k refl (omega (arith, s.0, s.1)))
    (inside_by used (2 * 2 ^ 56 + (start * 65536 + size)) k (rw (a, l) h))
well_word used Binary s h = stop_never used (3 * 2 ^ 56) 0 (cell_by (3 * 2 ^ 56) 3 1 refl refl (omega arith)) (text_by used (3 * 2 ^ 56) 3 refl (λ e. omega arith))

-- a word that is well formed below a mark is so below a higher one
pub inside_more : (m n w : ℕ) → m ≤ n → WellFormed m w → WellFormed n w
inside_more m n w l h = let q = never_stops m w 0 h in stop_never n w 0 q.0 (go (eqb (kind_of w) 2) refl q.1)
  where
    go : (t : Bool) → eqb (kind_of w) 2 ≡ t → reaches_beyond m w ≡ false → reaches_beyond n w ≡ false
    go true e f = let k = eqb-true (kind_of w) 2 e in inside_by n w k (omega (arith, ends_inside m w k f))
    go false e f = text_by n w (kind_of w) refl (eqb-false (kind_of w) 2 e)
