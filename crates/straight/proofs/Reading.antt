-- Leaves that were read off the bytes, and what their cells mean. Assumes nothing.
use mathlib.Core.Path.{◌≡◌, refl, sym, ap, ◌∙◌}
use mathlib.Core.Bool.{true, false}
use mathlib.Core.List.{List, [], ◌∷◌}
use Prim.Native.Nat.{ℕ, zero, suc, ◌+◌, ◌-◌, ◌*◌, ◌^◌, ◌/◌, ◌%◌, ◌≤◌, ◌<◌}
use native.Mathlib.Omega.{arith}
use lib.ListN.{length, get_or, take}
use lib.Seq.{length-take-le}
use lib.Dec.{leb}
use borrow.Author.Tests.{eq-eqb, ne_eqb, lt-leb, leb-false}
use Rattle.std.specs.List.{All}
use Rattle.std.proofs.lemmas.List.Elements.{All-head, All-tail}
use Rattle.refusals.specs.Stop.{never}
use Rattle.refusals.proofs.Bools.{true_false}
use Rattle.slices.specs.Bytes.{both}
use Rattle.cells.specs.Cell.{WellFormed, bodies_of}
use Rattle.cells.proofs.Stops.{stop_never, never_stops, cell_by, text_by}
use Rattle.checks.specs.Check.{room_stop, cells_stop}
use Rattle.checks.proofs.Turns.{cells_sound, room_never}
use Rattle.conditions.specs.Table.{LeafSound, RowSound, LeafIs}
use Rattle.conditions.proofs.Leaves.{leaf_column, leaf_literal}
use Rattle.nodes.specs.Kind.{is_kind, known, body_of, leaf_word, text_fits, two, four}
use Rattle.nodes.specs.declared.Allowed.TheVariants.{Bound}
use Rattle.nodes.proofs.Bodies.{known_leaf}
use Rattle.nodes.proofs.Numbers.{two_small, four_small}
use Rattle.forms.specs.Held.{LeafHeld}
use Rattle.forms.specs.Number.{is_missing}
use Rattle.forms.proofs.Words.{fine}
use Rattle.straight.specs.Straight.{LeafRead}

-- an Int by its upper half
pub int_fine : (used w : ℕ) → w / 4294967296 ≡ 16777216 → WellFormed used w
unfolding bodies_of
int_fine used w e =
    let k : w / 2 ^ 56 ≡ 1 = omega arith in
    stop_never used w 0 (cell_by w 1 (2 ^ 32) k refl (omega arith)) (text_by used w 1 k (λ x. omega arith))

-- a row whose cells are all well formed is not refused
pub cells_passed : (used p : ℕ) (ws : List ℕ) → All (WellFormed used) ws → cells_stop used p ws ≡ never
unfolding cells_stop
cells_passed used p [] h = refl
cells_passed used p (w ∷ ws) h =
    let q = never_stops used w 0 (All-head (WellFormed used) w ws h) in
    rw (stop_never used w p q.0 q.1) (cells_passed used (suc p) ws (All-tail (WellFormed used) w ws h))

-- a row none of whose cells is refused is sound below the mark
pub row_sound : (row text : List ℕ) (used : ℕ) → used ≤ length text → cells_stop used 0 row ≡ never → RowSound (length (take used text)) row
row_sound row text used h c = record { cells = rw (length-take-le used text h) (cells_sound used 0 row c) }

-- the text, its mark and the room above it
pub room_passed : (size used : ℕ) → size ≤ 65536 → used ≤ size → 32768 ≤ size - used → room_stop 32768 size used ≡ never
room_passed size used h k l = room_never 32768 size used h (omega arith)

-- a word that is no column's and no name's
literal_sound : (used width w : ℕ) → (w / 2 ^ 56 ≡ 4 → ⊥) → (w / 2 ^ 56 ≡ 3 → ⊥) → LeafHeld used w → LeafSound used width w
unfolding LeafHeld LeafSound
literal_sound used width w n m h = rw (ne_eqb (w / 2 ^ 56) 4 n, ne_eqb (w / 2 ^ 56) 3 m) (rw (ne_eqb (w / 2 ^ 56) 4 n, ne_eqb (w / 2 ^ 56) 3 m) at h)

module _ (used at : ℕ) (b row : List ℕ) (B : (i : ℕ) → get_or b i 0 < 256) where
  -- the kind of a leaf's word is the node's
  word_kind : (k : ℕ) → k < 3 → leaf_word b at k / 2 ^ 56 ≡ k
  unfolding leaf_word
  word_kind zero l = omega arith
  word_kind (suc zero) l = let q : (1 * 2 ^ 56 + four b (at + 1)) / 2 ^ 56 ≡ 1 = omega (arith, four_small b B (at + 1)) in q
  word_kind (suc (suc zero)) l =
      let q : (2 * 2 ^ 56 + (four b (at + 1) * 65536 + two b (at + 5))) / 2 ^ 56 ≡ 2 = omega (arith, four_small b B (at + 1), two_small b B (at + 5)) in q
  word_kind (suc (suc (suc k))) l = absurd (let z : ⊥ = omega arith in z)

  column_kind : leaf_word b at 4 / 2 ^ 56 ≡ 4
  unfolding leaf_word
  column_kind = let q : (4 * 2 ^ 56 + get_or b (at + 1) 0) / 2 ^ 56 ≡ 4 = omega (arith, B (at + 1)) in q

  column_number : leaf_word b at 4 % 2 ^ 56 ≡ get_or b (at + 1) 0
  unfolding leaf_word
  column_number = let q : (4 * 2 ^ 56 + get_or b (at + 1) 0) % 2 ^ 56 ≡ get_or b (at + 1) 0 = omega (arith, B (at + 1)) in q

  known_literal : (k : ℕ) → k < 3 → known Bound k ≡ true
  unfolding known is_kind
  known_literal zero l = refl
  known_literal (suc zero) l = refl
  known_literal (suc (suc zero)) l = refl
  known_literal (suc (suc (suc k))) l = absurd (let z : ⊥ = omega arith in z)

  pub read_literal : (k r : ℕ) → get_or b at 0 ≡ k → k < 3 → at + 1 + body_of k ≤ length b → text_fits used b at k ≡ true → r ≡ leaf_word b at k → LeafRead used b row at k r
  read_literal k r e l i f q =
      let w : leaf_word b at k / 2 ^ 56 ≡ k = word_kind k l in
      record {
        kind = known_literal k l;
        inside = i;
        fits = f;
        there = rw (ne_eqb (get_or b at 0) 4 (λ x. omega arith));
        cell = rw (ne_eqb (leaf_word b at k / 2 ^ 56) 4 (λ x. omega arith)) q;
      }

  pub read_column : (c r : ℕ) → get_or b at 0 ≡ 4 → at + 1 < length b → c ≡ get_or b (at + 1) 0 → c < length row → r ≡ get_or row c 0 → LeafRead used b row at 4 r
  unfolding known is_kind body_of text_fits
  read_column c r e i q l f =
      record {
        kind = refl;
        inside = omega arith;
        fits = refl;
        there = rw (eq-eqb (get_or b at 0) 4 e, lt-leb (length row) (get_or b (at + 1) 0) (omega arith));
        cell = rw (eq-eqb (leaf_word b at 4 / 2 ^ 56) 4 column_kind) (f ∙ ap (λ i. get_or row i 0) (q ∙ sym column_number));
      }

  -- ---- what a leaf that was read means

  module _ (rows : RowSound used row) where
    literal_is : (k r : ℕ) → k < 3 → LeafRead used b row at k r → LeafIs used (leaf_word b at k) row r
    literal_is k r l R =
        let w : leaf_word b at k / 2 ^ 56 ≡ k = word_kind k l in
        let n : leaf_word b at k / 2 ^ 56 ≡ 4 → ⊥ = λ x. omega arith in
        let held : LeafHeld used (leaf_word b at k) = (fine Bound used at b B k (omega arith) R.kind R.fits).1 in
        leaf_literal used (leaf_word b at k) row r n (literal_sound used (length row) (leaf_word b at k) n (λ x. omega arith) held) (rw (ne_eqb (leaf_word b at k / 2 ^ 56) 4 n) at R.cell)

    column_below : get_or b at 0 ≡ 4 → is_missing (length row) b at ≡ false → leaf_word b at 4 % 2 ^ 56 < length row
    column_below e m =
        let q : both true (leb (length row) (get_or b (at + 1) 0)) ≡ false = rw (eq-eqb (get_or b at 0) 4 e) at m in
        let h = leb-false (length row) (get_or b (at + 1) 0) q in
        rw column_number h

    column_sound : leaf_word b at 4 % 2 ^ 56 < length row → LeafSound used (length row) (leaf_word b at 4)
    unfolding LeafSound
    column_sound h = rw (eq-eqb (leaf_word b at 4 / 2 ^ 56) 4 column_kind) h

    column_is : (r : ℕ) → get_or b at 0 ≡ 4 → LeafRead used b row at 4 r → LeafIs used (leaf_word b at 4) row r
    column_is r e R =
        leaf_column used (leaf_word b at 4) row r column_kind (column_sound (column_below e R.there)) rows (rw (eq-eqb (leaf_word b at 4 / 2 ^ 56) 4 column_kind) at R.cell)

    by_kind : (k r : ℕ) → k < 5 → get_or b at 0 ≡ k → LeafRead used b row at k r → LeafIs used (leaf_word b at k) row r
    by_kind zero r l e R = literal_is 0 r (omega arith) R
    by_kind (suc zero) r l e R = literal_is 1 r (omega arith) R
    by_kind (suc (suc zero)) r l e R = literal_is 2 r (omega arith) R
    by_kind (suc (suc (suc zero))) r l e R = true_false (sym (unfold known is_kind in R.kind))
    by_kind (suc (suc (suc (suc zero)))) r l e R = column_is r e R
    by_kind (suc (suc (suc (suc (suc k))))) r l e R = absurd (let z : ⊥ = omega arith in z)

    pub leaf_is : (k r : ℕ) → k < 16 → get_or b at 0 ≡ k → LeafRead used b row at k r → LeafIs used (leaf_word b at k) row r
    leaf_is k r l e R = by_kind k r (known_leaf Bound k R.kind l) e R
