-- Cells from a place on: a turn of a loop over them and its end; what cells, a room and an output that are not refused are. Assumes nothing.
use mathlib.Core.Path.{◌≡◌}
use mathlib.Core.List.{List, [], ◌∷◌}
use Prim.Native.Nat.{ℕ, zero, suc, ◌+◌, ◌≤◌, ◌<◌}
use native.Mathlib.Omega.{arith}
use native.Mathlib.Numerals.{add-one}
use lib.ListN.{length, drop, get_or, drop_of_length-le}
use lib.Seq.{drop-cons}
use lib.Dec.{ltb}
use borrow.Author.Tests.{ltb-false, le-ltb}
use Rattle.refusals.specs.Stop.{never, stop_if, or_else}
use Rattle.refusals.proofs.First.{never_both, not_stopped}
use Rattle.cells.specs.Cell.{cell_stop, WellFormed}
use Rattle.cells.proofs.Stops.{well_formed}
use Rattle.checks.specs.Check.{room_stop, output_stop, cells_stop}

module _ (used p : ℕ) where
  pub cells_turn : (ws : List ℕ) (i : ℕ) → i < length ws
      → cells_stop used p (drop i ws) ≡ or_else (cell_stop used (get_or ws i 0) p) (cells_stop used (suc p) (drop (i + 1) ws))
  unfolding cells_stop
  cells_turn ws i h = rw (drop-cons ws i 0 h, add-one i)

  pub cells_end : (ws : List ℕ) (i : ℕ) → length ws ≤ i → cells_stop used p (drop i ws) ≡ never
  unfolding cells_stop
  cells_end ws i h = rw (drop_of_length-le ws h)

-- cells that are not refused are well formed
pub cells_sound : (used p : ℕ) (ws : List ℕ) → cells_stop used p ws ≡ never → (i : ℕ) → i < length ws → WellFormed used (get_or ws i 0)
unfolding cells_stop
cells_sound used p [] h i l = absurd (let z : ⊥ = omega arith in z)
cells_sound used p (w ∷ ws) h zero l = well_formed used w p (never_both (cell_stop used w p) (cells_stop used (suc p) ws) h).0
cells_sound used p (w ∷ ws) h (suc i) l = cells_sound used (suc p) ws (never_both (cell_stop used w p) (cells_stop used (suc p) ws) h).1 i (omega arith)

-- room that is not refused is there
pub room_there : (needed size used : ℕ) → room_stop needed size used ≡ never → (size ≤ 65536) × (used + needed ≤ size)
unfolding room_stop
room_there needed size used h =
    let a = never_both (stop_if (ltb 65536 size) 10 0) _ h in
    let b = never_both (stop_if (ltb size used) 10 0) _ a.1 in
    let c = never_both (stop_if (ltb size (used + needed)) 10 0) never b.1 in
    (ltb-false 65536 size (not_stopped _ 10 0 a.0), ltb-false size (used + needed) (not_stopped _ 10 0 c.0))

-- room that is there is not refused
pub room_never : (needed size used : ℕ) → size ≤ 65536 → used + needed ≤ size → room_stop needed size used ≡ never
unfolding room_stop
room_never needed size used h k = rw (le-ltb 65536 size h, le-ltb size used (omega arith), le-ltb size (used + needed) k)

-- an output that is not refused has 448 bytes
pub output_there : (output : ℕ) → output_stop output ≡ never → 448 ≤ output
output_there output h = ltb-false output 448 (not_stopped _ 10 0 h)
