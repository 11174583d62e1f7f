-- Which check stops an evaluation. Assumes nothing.
use mathlib.Core.Path.{◌≡◌}
use mathlib.Core.Bool.{true, false, not}
use mathlib.Core.List.{List}
use Prim.Native.Nat.{ℕ, ◌≤◌, ◌<◌}
use lib.ListN.{length}
use borrow.Author.Tests.{le-leb, lt-leb}
use Rattle.refusals.specs.Stop.{never, stop, stop_if, or_else, stop_of}
use Rattle.refusals.specs.declared.Refusal.{Refusal}
use Rattle.refusals.proofs.First.{never_both}
use Rattle.checks.specs.Check.{room_stop, cells_stop}
use Rattle.conditions.specs.Ast.{Tree}
use Rattle.nodes.specs.declared.Allowed.TheVariants.{Bound}
use Rattle.forms.specs.Form.{tree, refusal, parsed, form_stop}
use Rattle.forms.specs.Number.{numbers_stop}
use Rattle.evaluation.specs.Evaluation.{is_row_length, stops}

-- no cells are no row
pub row_short : (n : ℕ) → n < 1 → is_row_length n ≡ false
unfolding is_row_length
row_short n h = rw (lt-leb 1 n h)

-- more than 32 cells are no row
pub row_long : (n : ℕ) → 1 ≤ n → 32 < n → is_row_length n ≡ false
unfolding is_row_length
row_long n h k = rw (le-leb 1 n h, lt-leb n 32 k)

-- 1 to 32 cells are a row
pub row_right : (n : ℕ) → 1 ≤ n → n ≤ 32 → is_row_length n ≡ true
unfolding is_row_length
row_right n h k = rw (le-leb 1 n h, le-leb n 32 k)

module _ (b row : List ℕ) (size used : ℕ) where
  pub at_room : (r : Refusal) → room_stop 32768 size used ≡ stop_of r → stops b row size used ≡ stop_of r
  at_room r h = rw h

  module _ (h : room_stop 32768 size used ≡ never) where
    pub at_count : is_row_length (length row) ≡ false → stops b row size used ≡ stop 8 0
    at_count c = rw (h, c)

    module _ (c : is_row_length (length row) ≡ true) where
      pub at_cells : (r : Refusal) → cells_stop used 0 row ≡ stop_of r → stops b row size used ≡ stop_of r
      at_cells r w = rw (h, c, w)

      module _ (w : cells_stop used 0 row ≡ never) where
        pub at_form : (n p : ℕ) → parsed Bound used b ≡ refusal n p → stops b row size used ≡ stop n p
        at_form n p f = rw (h, c, w, f)

        module _ (t : Tree ℕ) (f : parsed Bound used b ≡ tree t) where
          pub at_numbers : (r : Refusal) → numbers_stop (length row) b 64 0 ≡ stop_of r → stops b row size used ≡ stop_of r
          at_numbers r m = rw (h, c, w, f, m)

          pub at_none : numbers_stop (length row) b 64 0 ≡ never → stops b row size used ≡ never
          at_none m = rw (h, c, w, f, m)

  -- where nothing stops, each check passed
  module _ (h : stops b row size used ≡ never) where
    pub room_passed : room_stop 32768 size used ≡ never
    room_passed = (never_both _ _ h).0

    after_room : or_else (stop_if (not (is_row_length (length row))) 8 0) (or_else (cells_stop used 0 row) (or_else (form_stop (parsed Bound used b)) (or_else (numbers_stop (length row) b 64 0) never))) ≡ never
    after_room = (never_both (room_stop 32768 size used) _ h).1

    after_count : or_else (cells_stop used 0 row) (or_else (form_stop (parsed Bound used b)) (or_else (numbers_stop (length row) b 64 0) never)) ≡ never
    after_count = (never_both (stop_if (not (is_row_length (length row))) 8 0) _ after_room).1

    pub cells_passed : cells_stop used 0 row ≡ never
    cells_passed = (never_both (cells_stop used 0 row) _ after_count).0

    after_cells : or_else (form_stop (parsed Bound used b)) (or_else (numbers_stop (length row) b 64 0) never) ≡ never
    after_cells = (never_both (cells_stop used 0 row) _ after_count).1

    pub numbers_passed : numbers_stop (length row) b 64 0 ≡ never
    numbers_passed = (never_both (numbers_stop (length row) b 64 0) never (never_both (form_stop (parsed Bound used b)) _ after_cells).1).0
