-- From an operator's exact result to what an evaluation's answer says. Assumes nothing.
use mathlib.Core.Path.{◌≡◌, refl, sym, ap, ◌∙◌}
use mathlib.Core.List.{List}
use Prim.Native.Nat.{ℕ, ◌+◌, ◌≤◌}
use native.Mathlib.Omega.{arith}
use lib.ListN.{length, take}
use lib.Seq.{take-take, length-take-le, drop_at, take_all}
use Rattle.slices.specs.Splice.{piece}
use Rattle.slices.proofs.Splice.{take_splice, front_splice}
use Rattle.slices.proofs.Pieces.{piece_take}
use Rattle.cells.specs.Cell.{WellFormed, Inside, ref_of, word_of}
use Rattle.cells.proofs.Words.{Sized, ref_back}
use Rattle.cells.proofs.Stops.{well_word, well_inside, inside_more}
use Rattle.cells.specs.declared.ValueRef.{ValueRef}
use Rattle.cells.specs.declared.ValueRef.TheVariants.{Null, Int, Str, Binary}
use Rattle.values.specs.Value.{Value, null, int, str, binary, to_value, value_of}
use Rattle.integers.specs.Outcome.{Outcome, value, Reply, number_of, reply_of, cell_at, rise, placed}
use Rattle.integers.proofs.Unique.{one_answer}
use Rattle.operators.specs.Operator.{text_after, Applied}
use Rattle.operators.proofs.Holding.{Fitting, Holds}
use Rattle.conditions.specs.Ast.{and_then}
use Rattle.conditions.specs.Table.{Says, Gives}
use Rattle.std.specs.Prelude.{Result, Ok, Err}
use Rattle.integers.specs.declared.Fault.{Fault}

-- ---- refusals

-- an answer that tells a refusal says it
refused_says : (t : List ℕ) (top room : ℕ) (r : Result (ℕ × ℕ) Fault) (n : ℕ) → reply_of r ≡ Reply.refused n → Says t top room r (Outcome.refused n)
refused_says t top room (Ok (w, u)) n e = absurd (let z : ◌≡◌ {A = ℕ} 0 1 = cc in omega arith)
refused_says t top room (Err fault) n e = let q : n ≡ number_of fault = cc in ap Outcome.refused q

-- a refusal is handed on, whatever would have followed
pub handed_on_lem : (t : List ℕ) (top room top' room' : ℕ) (r : Result (ℕ × ℕ) Fault) (o : Outcome) (f : Value → Outcome) → (fault : Fault) × (r ≡ Err fault)
    → Says t top room r o → Says t top' room' r (and_then o f)
handed_on_lem t top room top' room' (Ok (w, u)) o f h s = absurd (let q = h.1 in let z : ◌≡◌ {A = ℕ} 0 1 = cc in omega arith)
handed_on_lem t top room top' room' (Err fault) o f h s = rw s

-- ---- more room

-- what an answer says of a higher top, it says of a lower one whose room reaches as far
pub says_more : (t : List ℕ) (top u room more : ℕ) (r : Result (ℕ × ℕ) Fault) (o : Outcome) → top ≤ u → u + room ≤ top + more → Says t u room r o → Says t top more r o
says_more t top u room more (Ok (w, v)) o l h s = (s.0, s.1, omega (arith, s.2), omega (arith, s.3))
says_more t top u room more (Err fault) o l h s = s

-- what two steps keep
pub kept_trans : (a b c : List ℕ) (top t : ℕ) → top ≤ t → take top b ≡ take top a → take t c ≡ take t b → take top c ≡ take top a
kept_trans a b c top t h p q = sym (take-take top t c h) ∙ ap (take top) q ∙ take-take top t b h ∙ p

-- ---- a value as its cell, a new text standing at the top

module _ (before after : List ℕ) (top room most : ℕ) (i : top ≤ length before) (m : length before ≤ 65536) (n : most ≤ 1024) (l : most ≤ room) where
  sized : (v : Value) → Fitting most v → Sized (cell_at top v)
  unfolding Sized
  sized null h = tt
  sized (int z) h = h
  sized (str b) h = (omega arith, omega arith)
  sized binary h = tt

  inside : (v : Value) → Inside (top + rise v) (cell_at top v)
  unfolding Inside
  inside null = tt
  inside (int z) = tt
  inside (str b) = omega arith
  inside binary = tt

  rises : (v : Value) → Fitting most v → top + rise v ≤ top + room
  rises null h = omega arith
  rises (int z) h = omega arith
  rises (str b) h = omega arith
  rises binary h = omega arith

  kept : (v : Value) → after ≡ text_after before top (value v) → take top after ≡ take top before
  kept null e = ap (take top) e
  kept (int z) e = ap (take top) e
  kept (str b) e = ap (take top) e ∙ take_splice before top b i
  kept binary e = ap (take top) e

  means : (v : Value) → after ≡ text_after before top (value v) → to_value (take (top + rise v) after) (cell_at top v) ≡ v
  unfolding to_value
  means null e = refl
  means (int z) e = refl
  means (str b) e =
      ap str (ap (λ t. piece top (length b) (take (top + length b) t)) e ∙ ap (piece top (length b)) (front_splice before top b i)
      ∙ ap (take (length b)) (drop_at (take top before) b top (length-take-le top before i)) ∙ take_all (length b) b (omega arith))
  means binary e = refl

  gives_value : (v : Value) (r : Result (ℕ × ℕ) Fault) → Fitting most v → reply_of r ≡ placed top (value v) → after ≡ text_after before top (value v) → Gives before after top room r (value v)
  unfolding placed
  gives_value v r h e t =
      let q : r ≡ Ok (word_of (cell_at top v), top + rise v) = one_answer r (Ok (word_of (cell_at top v), top + rise v)) e in
      let s = sized v h in
      record {
        kept = kept v t;
        says = rw q (
          ap value (sym (ap (to_value (take (top + rise v) after)) (ref_back (cell_at top v) s) ∙ means v t)),
          well_word (top + rise v) (cell_at top v) s (inside v),
          omega arith,
          rises v h,
        );
      }

  go : (o : Outcome) (r : Result (ℕ × ℕ) Fault) → Holds most o → reply_of r ≡ placed top o → after ≡ text_after before top o → Gives before after top room r o
  unfolding placed
  go (value v) r h e t = gives_value v r h.held e t
  go (Outcome.refused n) r h e t = record { kept = ap (take top) t; says = refused_says after top room r n e }

  pub applied_gives : (r : Result (ℕ × ℕ) Fault) (o : Outcome) → Holds most o → Applied before after top r o → Gives before after top room r o
  applied_gives r o h a = go o r h a.reply a.text

-- ---- a cell in a text that has grown above it

value_take : (m : ℕ) (t : List ℕ) (r : ValueRef) → Inside m r → to_value (take m t) r ≡ to_value t r
unfolding to_value Inside
value_take m t Null h = refl
value_take m t (Int z) h = refl
value_take m t (Str s n) h = ap str (piece_take m s n t h)
value_take m t Binary h = refl

-- a well-formed cell means what it meant before the text grew above it
pub value_more : (t u : ℕ) (x y : List ℕ) (w : ℕ) → t ≤ u → WellFormed t w → take t y ≡ take t x → value_of (take u y) w ≡ value_of (take t x) w
value_more t u x y w l h e =
    value_take u y (ref_of w) (well_inside u w (inside_more t u w l h)) ∙ sym (value_take t y (ref_of w) (well_inside t w h)) ∙ ap (λ z. value_of z w) e
