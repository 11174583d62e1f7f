-- Two texts joined at the top. Assumes nothing.
use mathlib.Core.Path.{◌≡◌, sym, ap, ap₂, subst, ◌∙◌}
use mathlib.Core.List.{List, ◌++◌}
use Prim.Native.Nat.{ℕ, ◌+◌, ◌*◌, ◌^◌, ◌≤◌, ◌<◌}
use native.Mathlib.Omega.{arith}
use lib.ListN.{length, take, length-append}
use lib.Seq.{length-take-le}
use borrow.Author.Tests.{le-leb, lt-leb}
use Rattle.slices.specs.Splice.{piece, Wrote}
use Rattle.slices.proofs.Pieces.{piece_take, piece_length, piece_front}
use Rattle.slices.proofs.Splice.{wrote_length, wrote_then, wrote_kept}
use Rattle.cells.specs.Cell.{WellFormed, kind_of, start_of, length_of, word_of}
use Rattle.cells.proofs.Stops.{never_stops, ends_inside}
use Rattle.values.specs.Value.{str}
use Rattle.integers.specs.Outcome.{Outcome, value, placed, gave}
use Rattle.operators.specs.Operator.{joined, Applied, Room}
use Rattle.operators.specs.declared.Rules.{Rules}
use Rattle.std.specs.Prelude.{Ok}

-- a text cell ends at or before the mark
pub inside : (top a : ℕ) → kind_of a ≡ 2 → WellFormed top a → start_of a + length_of a ≤ top
inside top a k f = ends_inside top a k (never_stops top a 0 f).1

module _ (R : Rules) (x : List ℕ) (top : ℕ) (room : Room R top (length x)) (s n p m : ℕ) (h : s + n ≤ top) (k : p + m ≤ top) where
  abbrev left : List ℕ
  left = piece s n (take top x)

  abbrev right : List ℕ
  right = piece p m (take top x)

  front_long : length (take top x) ≡ top
  front_long = length-take-le top x (omega (arith, room.above))

  left_long : length left ≡ n
  left_long = piece_length s n (take top x) (rw front_long h)

  right_long : length right ≡ m
  right_long = piece_length p m (take top x) (rw front_long k)

  pub join_refused : R.limit < n + m → joined R.limit left right ≡ Outcome.refused 7
  unfolding joined
  join_refused l = rw (left_long, right_long, lt-leb (n + m) R.limit l)

  module _ (l : n + m ≤ R.limit) where
    pub first_room : (s + n ≤ top) × (top + n ≤ length x)
    first_room = (h, omega (arith, room.above))

    module _ (x₁ : List ℕ) (middle : ℕ) (first : Wrote x top (piece s n x) middle x₁) where
      middle_is : middle ≡ top + n
      middle_is = first.place ∙ ap (λ i. top + i) (piece_length s n x (omega (arith, room.above)))

      pub second_room : (p + m ≤ middle) × (middle + m ≤ length x₁)
      second_room = (omega (arith, middle_is), omega (arith, middle_is, wrote_length first, room.above))

      module _ (x₂ : List ℕ) (end : ℕ) (second : Wrote x₁ middle (piece p m x₁) end x₂) where
        first_is : piece s n x ≡ left
        first_is = sym (piece_take top s n x h)

        second_is : piece p m x₁ ≡ right
        second_is = piece_front top p m x₁ x k (wrote_kept first) ∙ sym (piece_take top p m x k)

        whole : Wrote x top (left ++ right) end x₂
        whole = wrote_then (subst (λ y. Wrote x top y middle x₁) first_is first) (subst (λ y. Wrote x₁ middle y end x₂) second_is second)

        long : length (left ++ right) ≡ n + m
        long = length-append left right ∙ ap₂ ◌+◌ left_long right_long

        fits : joined R.limit left right ≡ value (str (left ++ right))
        unfolding joined
        fits = rw (left_long, right_long, le-leb (n + m) R.limit l)

        pub join_applied : Applied x x₂ top (Ok (2 ^ 57 + top * 65536 + (n + m), end)) (joined R.limit left right)
        unfolding placed word_of
        join_applied =
            let w : 2 ^ 57 + top * 65536 + (n + m) ≡ 2 ^ 57 + (top * 65536 + length (left ++ right)) = omega (arith, long) in
            record { reply = rw fits (ap₂ gave w whole.place); text = rw fits whole.list }
