-- What the check of a name word says. Assumes nothing.
use mathlib.Core.Path.{◌≡◌, refl}
use mathlib.Core.Bool.{Bool, true, false, not, cond}
use Prim.Native.Nat.{ℕ, ◌+◌, ◌≤◌, ◌<◌}
use native.Mathlib.Omega.{arith}
use lib.Dec.{eqb}
use borrow.Author.Tests.{eq-eqb, ne_eqb, le-leb, lt-leb, eqb-true}
use Rattle.refusals.specs.Stop.{never, stop, stop_if, or_else}
use Rattle.cells.specs.Cell.{kind_of, start_of, length_of, is_cell, reaches_beyond}
use Rattle.cells.proofs.Stops.{ends_inside}
use Rattle.columns.specs.Column.{is_text, is_name_length, name_stop}

module _ (used w p : ℕ) where
  pub name_no_cell : is_cell w ≡ false → name_stop used w p ≡ stop 8 p
  unfolding name_stop is_text
  name_no_cell e = rw e

  module _ (cell : is_cell w ≡ true) where
    pub name_no_text : (kind_of w ≡ 2 → ⊥) → name_stop used w p ≡ stop 8 p
    unfolding name_stop is_text
    name_no_text n = rw (cell, ne_eqb (kind_of w) 2 n)

    module _ (kind : kind_of w ≡ 2) where
      text : is_text w ≡ true
      unfolding is_text
      text = rw (cell, eq-eqb (kind_of w) 2 kind)

      pub name_beyond : reaches_beyond used w ≡ true → name_stop used w p ≡ stop 3 p
      unfolding name_stop
      name_beyond b = rw (text, b)

      module _ (b : reaches_beyond used w ≡ false) where
        pub name_empty : length_of w < 1 → name_stop used w p ≡ stop 3 p
        unfolding name_stop
        name_empty h = rw (text, b, lt-leb 1 (length_of w) h)

        pub name_long : 1 ≤ length_of w → 255 < length_of w → name_stop used w p ≡ stop 3 p
        unfolding name_stop
        name_long h k = rw (text, b, le-leb 1 (length_of w) h, lt-leb (length_of w) 255 k)

        pub name_never : 1 ≤ length_of w → length_of w ≤ 255 → name_stop used w p ≡ never
        unfolding name_stop
        name_never h k = rw (text, b, le-leb 1 (length_of w) h, le-leb (length_of w) 255 k)

  -- a name word that is not refused lies inside
  pub name_inside : name_stop used w p ≡ never → start_of w + length_of w ≤ used
  unfolding name_stop is_text
  name_inside h = go (is_cell w) (eqb (kind_of w) 2) (reaches_beyond used w) refl refl h
    where
      go : (c k b : Bool) → eqb (kind_of w) 2 ≡ k → reaches_beyond used w ≡ b
          → or_else (stop_if (not (cond c k false)) 8 p) (or_else (stop_if b 3 p) (or_else (stop_if (not (is_name_length (length_of w))) 3 p) never)) ≡ never
          → start_of w + length_of w ≤ used
      go true true true e f h = absurd (let z : ◌≡◌ {A = ℕ} 0 1 = cc in omega arith)
      go true true false e f h = ends_inside used w (eqb-true (kind_of w) 2 e) f
      go true false b e f h = absurd (let z : ◌≡◌ {A = ℕ} 0 1 = cc in omega arith)
      go false k b e f h = absurd (let z : ◌≡◌ {A = ℕ} 0 1 = cc in omega arith)
