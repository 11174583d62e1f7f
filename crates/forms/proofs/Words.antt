-- The words of leaves: each is a leaf of the table that is held. Assumes nothing.
use mathlib.Core.Path.{◌≡◌, refl}
use mathlib.Core.List.{List}
use mathlib.Core.Bool.{true}
use Prim.Native.Nat.{ℕ, zero, suc, ◌+◌, ◌*◌, ◌^◌, ◌/◌, ◌%◌, ◌≤◌, ◌<◌}
use native.Mathlib.Omega.{arith}
use lib.ListN.{get_or}
use lib.Dec.{leb, lit<}
use borrow.Author.Tests.{leb-true}
use Rattle.slices.proofs.Both.{both_true}
use Rattle.columns.specs.Column.{is_name_length}
use Rattle.cells.specs.Cell.{bodies_of}
use Rattle.cells.proofs.Stops.{stop_never, cell_by, text_by, inside_by}
use Rattle.conditions.specs.Table.{node_of}
use Rattle.conditions.specs.declared.Node.TheVariants.{Leaf}
use Rattle.nodes.specs.Kind.{known, leaf_word, text_fits, two, four}
use Rattle.nodes.specs.declared.Allowed.{Allowed}
use Rattle.nodes.proofs.Bodies.{known_leaf}
use Rattle.nodes.proofs.Numbers.{two_small, four_small}
use Rattle.forms.specs.Held.{LeafHeld}
use Rattle.forms.proofs.Stack.{leaf_node}

module _ (used at : ℕ) (b : List ℕ) (B : (i : ℕ) → get_or b i 0 < 256) where
  -- a word is a leaf that is held
  abbrev Fine : ℕ → Type 0
  Fine w = (node_of w ≡ Leaf w) × LeafHeld used w

  fine_null : Fine (leaf_word b at 0)
  unfolding leaf_word LeafHeld bodies_of
  fine_null = (leaf_node 0 0 (lit< tt) (lit< tt), stop_never used 0 0 (cell_by 0 0 1 refl refl (omega arith)) (text_by used 0 0 refl (λ e. omega arith)))

  fine_int : Fine (leaf_word b at 1)
  unfolding leaf_word LeafHeld bodies_of
  fine_int =
      let x : ℕ = four b (at + 1) in
      let e : (1 * 2 ^ 56 + x) / 2 ^ 56 ≡ 1 = omega (arith, four_small b B (at + 1)) in (
        leaf_node 1 x (lit< tt) (omega (arith, four_small b B (at + 1))),
        rw e (stop_never used (1 * 2 ^ 56 + x) 0 (cell_by (1 * 2 ^ 56 + x) 1 (2 ^ 32) e refl (omega (arith, four_small b B (at + 1)))) (text_by used (1 * 2 ^ 56 + x) 1 e (λ q. omega arith))),
      )

  fine_text : text_fits used b at 2 ≡ true → Fine (leaf_word b at 2)
  unfolding leaf_word LeafHeld text_fits bodies_of
  fine_text h =
      let s : ℕ = four b (at + 1) in
      let n : ℕ = two b (at + 5) in
      let x : ℕ = s * 65536 + n in
      let e : (2 * 2 ^ 56 + x) / 2 ^ 56 ≡ 2 = omega (arith, four_small b B (at + 1), two_small b B (at + 5)) in
      let l : s + n ≤ used = leb-true (s + n) used h in
      let p : (2 * 2 ^ 56 + x) / 65536 % 2 ^ 32 ≡ s = omega (arith, four_small b B (at + 1), two_small b B (at + 5)) in
      let q : (2 * 2 ^ 56 + x) % 65536 ≡ n = omega (arith, two_small b B (at + 5)) in (
        leaf_node 2 x (lit< tt) (omega (arith, four_small b B (at + 1), two_small b B (at + 5))),
        rw e (stop_never used (2 * 2 ^ 56 + x) 0 (cell_by (2 * 2 ^ 56 + x) 2 (2 ^ 48) e refl (omega (arith, four_small b B (at + 1), two_small b B (at + 5)))) (inside_by used (2 * 2 ^ 56 + x) e (omega arith))),
      )

  fine_name : text_fits used b at 3 ≡ true → Fine (leaf_word b at 3)
  unfolding leaf_word LeafHeld text_fits
  fine_name h =
      let s : ℕ = four b (at + 1) in
      let n : ℕ = two b (at + 5) in
      let x : ℕ = s * 65536 + n in
      let e : (3 * 2 ^ 56 + x) / 2 ^ 56 ≡ 3 = omega (arith, four_small b B (at + 1), two_small b B (at + 5)) in
      let l : s + n ≤ used = leb-true (s + n) used (both_true (leb (s + n) used) (is_name_length n) h).0 in
      let p : (3 * 2 ^ 56 + x) / 65536 % 2 ^ 32 ≡ s = omega (arith, four_small b B (at + 1), two_small b B (at + 5)) in
      let q : (3 * 2 ^ 56 + x) % 65536 ≡ n = omega (arith, two_small b B (at + 5)) in
      (leaf_node 3 x (lit< tt) (omega (arith, four_small b B (at + 1), two_small b B (at + 5))), rw e (omega arith))

  fine_column : Fine (leaf_word b at 4)
  unfolding leaf_word LeafHeld
  fine_column =
      let x : ℕ = get_or b (at + 1) 0 in
      let e : (4 * 2 ^ 56 + x) / 2 ^ 56 ≡ 4 = omega (arith, B (at + 1)) in
      (leaf_node 4 x (lit< tt) (omega (arith, B (at + 1))), rw e tt)

  by_kind : (k : ℕ) → k < 5 → text_fits used b at k ≡ true → Fine (leaf_word b at k)
  by_kind zero l f = fine_null
  by_kind (suc zero) l f = fine_int
  by_kind (suc (suc zero)) l f = fine_text f
  by_kind (suc (suc (suc zero))) l f = fine_name f
  by_kind (suc (suc (suc (suc zero)))) l f = fine_column
  by_kind (suc (suc (suc (suc (suc m))))) l f = absurd (let z : ⊥ = omega arith in z)

-- the word of a leaf of an allowed kind whose text fits is that of a leaf, and it is held
pub fine : (form : Allowed) (used at : ℕ) (b : List ℕ) → ((i : ℕ) → get_or b i 0 < 256) → (k : ℕ) → k < 16 → known form k ≡ true → text_fits used b at k ≡ true
    → (node_of (leaf_word b at k) ≡ Leaf (leaf_word b at k)) × LeafHeld used (leaf_word b at k)
fine form used at b B k l h f = by_kind used at b B k (known_leaf form k h l) f
