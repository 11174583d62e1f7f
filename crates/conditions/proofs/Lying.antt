-- Where the cell of an answer lies. Assumes nothing.
use mathlib.Core.Path.{◌≡◌}
use mathlib.Core.List.{List}
use Prim.Native.Nat.{ℕ, ◌+◌, ◌*◌, ◌^◌, ◌/◌, ◌%◌, ◌≤◌, ◌<◌}
use native.Mathlib.Omega.{arith}
use lib.ListN.{length}
use mir.Syntax.{w32}
use mir.Val.{of_z}
use mir.Facts.{Fits-of_z}
use Rattle.cells.specs.Cell.{kind_of, start_of, word_of}
use Rattle.values.specs.Value.{Value, null, int, str, binary}
use Rattle.integers.specs.Outcome.{Outcome, value, gave, reply_of, cell_at, placed}
use Rattle.operators.proofs.Holding.{Fitting, Holds}
use Rattle.conditions.specs.Table.{Lies, LeafIs}
use Rattle.conditions.specs.declared.Node.{Node}
use Rattle.conditions.specs.declared.Node.TheVariants.{Leaf, One, Two}
use Rattle.std.specs.Prelude.{Result, Ok, Err}
use Rattle.integers.specs.declared.Fault.{Fault}

-- a leaf's cell is its own
pub lies_leaf : (top used x : ℕ) (node : Node) (row : List ℕ) (w u : ℕ) → node ≡ Leaf x → LeafIs used x row w → Lies top node row (Ok (w, u))
lies_leaf top used x node row w u e l = rw e l.exact

-- the word of a value whose text stands at t is no text, or one that starts there
word_above : (t : ℕ) (v : Value) (most : ℕ) → most ≤ 1024 → t ≤ 65536 → Fitting most v → kind_of (word_of (cell_at t v)) ≡ 2 → t ≤ start_of (word_of (cell_at t v))
unfolding word_of
word_above t null most m s h k = absurd (let z : ⊥ = omega arith in z)
word_above t (int z) most m s h k = let b : of_z w32 z < 2 ^ 32 = (Fits-of_z h).fits in absurd (let z : ⊥ = omega arith in z)
word_above t (str b) most m s h k = let q : (2 * 2 ^ 56 + (t * 65536 + length b)) / 65536 % 2 ^ 32 ≡ t = omega arith in omega arith
word_above t binary most m s h k = absurd (let z : ⊥ = omega arith in z)

-- so does the cell of an operator's answer
module _ (t most : ℕ) (m : most ≤ 1024) (s : t ≤ 65536) where
  placed_above : (o : Outcome) → Holds most o → (w u : ℕ) → gave w u ≡ placed t o → kind_of w ≡ 2 → t ≤ start_of w
  unfolding placed
  placed_above (value v) h w u e k =
      let q : w ≡ word_of (cell_at t v) = cc in
      rw q (word_above t v most m s h.held (rw q at k))
  placed_above (Outcome.refused n) h w u e k = absurd (let z : ◌≡◌ {A = ℕ} 0 1 = cc in omega arith)

  -- an answer by its reply, where no leaf is asked for
  lies_placed : (top : ℕ) → top ≤ t → (o : Outcome) → Holds most o → (r : Result (ℕ × ℕ) Fault) → reply_of r ≡ placed t o → (op : ℕ) (row : List ℕ) → Lies top (One op) row r
  lies_placed top l o h (Ok (w, u)) e op row = λ k. omega (arith, placed_above o h w u e k)
  lies_placed top l o h (Err fault) e op row = tt

  pub lies_one : (top op : ℕ) (node : Node) (row : List ℕ) (o : Outcome) (r : Result (ℕ × ℕ) Fault) → top ≤ t → node ≡ One op → Holds most o → reply_of r ≡ placed t o → Lies top node row r
  lies_one top op node row o r l e h f = rw e (lies_placed top l o h r f op row)

  pub lies_two : (top op x : ℕ) (node : Node) (row : List ℕ) (o : Outcome) (r : Result (ℕ × ℕ) Fault) → top ≤ t → node ≡ Two op x → Holds most o → reply_of r ≡ placed t o → Lies top node row r
  lies_two top op x node row o r l e h f = rw e (same r (lies_placed top l o h r f op row))
    where
      same : (r : Result (ℕ × ℕ) Fault) → Lies top (One op) row r → Lies top (Two op x) row r
      same (Ok (w, u)) q = q
      same (Err fault) q = tt
