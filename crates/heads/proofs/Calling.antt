-- Both calls: that 32,768 bytes above the mark and 64 words always suffice, and what the answer says. Assumes nothing.
use mathlib.Core.Path.{◌≡◌, refl, sym, ap, ap₂, subst, ◌∙◌}
use mathlib.Core.Bool.{Bool, false}
use mathlib.Core.List.{List, [], append-nil}
use Prim.Native.Nat.{ℕ, ◌+◌, ◌*◌, ◌≤◌, ◌<◌}
use native.Mathlib.Omega.{arith}
use lib.ListN.{length, take}
use lib.Seq.{length-take-le, take-take}
use borrow.Author.Tests.{lt-ltb, le-ltb}
use Rattle.refusals.specs.Told.{told}
use Rattle.refusals.specs.Stop.{never, stop_of}
use Rattle.refusals.specs.declared.Refusal.{Refusal}
use Rattle.refusals.specs.declared.Refusal.TheVariants.{OutputShort}
use Rattle.slices.specs.Splice.{Wrote}
use Rattle.slices.proofs.Pieces.{take_own}
use Rattle.writing.specs.Marked.{wrote}
use Rattle.tables.specs.Table.{column_count}
use Rattle.naming.specs.OneSide.{Head, joined, side_of}
use Rattle.heads.specs.Heads.{head_of, head_stop, head, if_room, HeadIs}
use Rattle.naming.specs.Side.{ahead, handed_on, SideAsks, SideIs}
use Rattle.naming.proofs.Joining.{ahead_none}
use Rattle.heads.proofs.Rising.{columns_rise}
use Rattle.heads.proofs.Stopping.{Passed, passed}
use Rattle.std.specs.Prelude.{Result, Ok, Err}

-- both sides are joined: the words in the table of their own, and the text up to the new mark
pub record Done (whole : Head) (stored out after words : List ℕ) (count top : ℕ) : Type 0 where
  pub comes : whole ≡ if_room (length out) (joined (take count words) (take top after))
  pub kept : take (length stored) after ≡ stored
  pub small : count ≤ length words
  pub counted : length (take count words) ≡ count
  pub marked : length (take top after) ≡ top

module _ (nullable : Bool) (left_name left right_name right text out : List ℕ) (used : ℕ) where
  -- the text below the mark
  abbrev pub stored : List ℕ
  stored = take used text

  -- what the call comes to
  abbrev pub whole : Head
  whole = head nullable left_name left right_name right stored (length text) used (length out)

  -- refused before a name is joined
  pub denied : (r : Refusal) → head_stop left_name left right_name right (length text) used ≡ stop_of r → HeadIs whole stored text out out (Err r)
  unfolding head
  denied r e = rw e (record { says = refl; text = take_own used text; output = refl })

  module _ (ok : head_stop left_name left right_name right (length text) used ≡ never) where
    -- what the checks found
    known : Passed left right (length text) used
    known = passed left_name left right_name right (length text) used ok

    -- the joining decides, and then the output's room
    goes_on : (h : Head) → head_of nullable left_name left right_name right stored ≡ h → whole ≡ if_room (length out) h
    unfolding head
    goes_on h e = rw (ok, e)

    -- a refusal leaves what lies below the mark
    refused_later : (after : List ℕ) → take used after ≡ stored → (r : Refusal) → whole ≡ Head.refused (told r).number (told r).place → HeadIs whole stored after out out (Err r)
    refused_later after k r e = rw e (record { says = refl; text = ap (λ m. take m after) (length-take-le used text (omega (arith, known.room))) ∙ k; output = refl })

    -- at most 32 columns of at most 255 bytes have room, on the left
    pub left_asks : (space : List ℕ) → length space ≡ 64 → SideAsks left text space 0 used
    left_asks space s = record {
      sound = known.left_sound;
      room = omega (arith, known.room, known.few);
      small = known.small;
      space = omega (arith, known.few);
    }

    -- what the right side leads to
    abbrev then : List ℕ → Head
    then s = side_of right_name nullable (column_count left) right (λ s'. joined [] s') s

    module _ (space text₁ words₁ : List ℕ) (first : Result (ℕ × ℕ) Refusal) (l : SideIs left_name left false 0 used text text₁ space words₁ first) where
      -- both sides, the left one joined
      after_left : (a : Result (ℕ × ℕ) Refusal) → first ≡ a → head_of nullable left_name left right_name right stored ≡ handed_on a words₁ text₁ then
      after_left a e = sym (ahead_none (head_of nullable left_name left right_name right stored)) ∙ l.says then ∙ ap (λ x. handed_on x words₁ text₁ then) e

      -- a left name is too long
      pub left_refused : (r : Refusal) → first ≡ Err r → HeadIs whole stored text₁ out out first
      left_refused r e = subst (HeadIs whole stored text₁ out out) (sym e) (refused_later text₁ l.kept r (goes_on _ (after_left (Err r) e)))

      module _ (n middle : ℕ) (e : first ≡ Ok (n, middle)) (long : length text₁ ≡ length text) (wide : length words₁ ≡ 64) where
        -- there is room on the right too
        pub right_asks : SideAsks right text₁ words₁ (column_count left) middle
        right_asks = let m = l.ends n middle e in
            record {
              sound = columns_rise used middle m.1 right (length left) 0 known.right_sound;
              room = omega (arith, m.2, long, known.room, known.few);
              small = omega (arith, long, known.small);
              space = omega (arith, wide, known.few);
            }

        module _ (text₂ words₂ : List ℕ) (second : Result (ℕ × ℕ) Refusal) (r : SideIs right_name right nullable (column_count left) middle text₁ text₂ words₁ words₂ second) where
          -- both sides, the right one joined too
          after_right : (a : Result (ℕ × ℕ) Refusal) → second ≡ a → head_of nullable left_name left right_name right stored ≡ handed_on a words₂ text₂ (λ s. joined [] s)
          after_right a f =
              let c : n ≡ 2 * column_count left = omega (arith, (l.ends n middle e).0) in
              after_left (Ok (n, middle)) e ∙ ap (λ k. ahead (take k words₁) (then (take middle text₁))) c
              ∙ r.says (λ s. joined [] s) ∙ ap (λ x. handed_on x words₂ text₂ (λ s. joined [] s)) f

          -- what lies below the mark is kept through both
          still : take used text₂ ≡ stored
          still = let m = l.ends n middle e in
              sym (take-take used middle text₂ m.1) ∙ ap (take used) r.kept ∙ take-take used middle text₁ m.1 ∙ l.kept

          -- a right name is too long
          pub right_refused : (x : Refusal) → second ≡ Err x → HeadIs whole stored text₂ out out second
          right_refused x f = subst (HeadIs whole stored text₂ out out) (sym f) (refused_later text₂ still x (goes_on _ (after_right (Err x) f)))

          -- both are joined
          pub both_joined : (count top : ℕ) → second ≡ Ok (count, top) → length text₂ ≡ length text₁ → length words₂ ≡ length words₁ → Done whole stored out text₂ words₂ count top
          both_joined count top f long₂ wide₂ =
              let m = l.ends n middle e in
              let k = r.ends count top f in
              let small : count ≤ length words₂ = omega (arith, k.0, known.few, wide, wide₂) in
              record {
                comes = goes_on _ (after_right (Ok (count, top)) f ∙ ap (λ w. joined w (take top text₂)) (append-nil (take count words₂)));
                kept = ap (λ x. take x text₂) (length-take-le used text (omega (arith, known.room))) ∙ still;
                small = small;
                counted = length-take-le count words₂ small;
                marked = length-take-le top text₂ (omega (arith, k.2, m.2, long, long₂, known.room, known.few));
              }

-- ---- at the end

module _ {whole : Head} {stored out after words : List ℕ} {count top : ℕ} (d : Done whole stored out after words count top) where
  -- 9, the mark unmoved
  pub output_short : length out < count → HeadIs whole stored after out out (Err (OutputShort count))
  output_short h =
      let e : whole ≡ Head.refused 9 count = d.comes ∙ (rw (d.counted, lt-ltb (length out) count h)) in
      rw e (record { says = refl; text = d.kept; output = refl })

  -- the words have room in the output
  pub copy_room : count ≤ length out → 0 + length (take count words) ≤ length out
  copy_room h = omega (arith, d.counted)

  -- and stand there
  pub written : count ≤ length out → (q : ℕ) (out' : List ℕ) → Wrote out 0 (take count words) q out' → HeadIs whole stored after out out' (Ok (count, top))
  written h q out' w =
      let e : whole ≡ joined (take count words) (take top after) = d.comes ∙ (rw (d.counted, le-ltb (length out) count h)) in
      rw e (record { says = ap₂ wrote (sym d.counted) (sym d.marked); text = ap (λ m. take m after) d.marked; output = w.list })
