-- Refusal 15 from an offset on: a node of an accepted condition, a turn of the loop over them, and its end. Assumes nothing.
use mathlib.Core.Path.{◌≡◌, refl, sym, ap, ◌∙◌}
use mathlib.Core.Bool.{Bool, true, false}
use mathlib.Core.List.{List}
use Prim.Native.Nat.{ℕ, zero, suc, ◌+◌, ◌≤◌, ◌<◌}
use native.Mathlib.Omega.{arith}
use lib.ListN.{length, get_or}
use borrow.Author.Tests.{lt-ltb, le-ltb, eq-eqb, leb-true}
use Rattle.refusals.specs.Stop.{never, stop}
use Rattle.slices.specs.Splice.{piece}
use Rattle.cells.specs.Cell.{start_of, length_of}
use Rattle.conditions.specs.Ast.{Tree}
use Rattle.nodes.specs.Kind.{body_of, leaf_word, text_fits, two, four}
use Rattle.nodes.specs.declared.Allowed.TheVariants.{Named}
use Rattle.nodes.proofs.Bodies.{body_text}
use Rattle.forms.specs.Form.{tree, refusal, Move, go, follow, parse}
use Rattle.forms.proofs.Scanning.{parse_more, parse_full}
use Rattle.nodes.proofs.Numbers.{Small, two_small, four_small}
use Rattle.postfix.proofs.Parsing.{node, Went, Became, put, node_went}
use Rattle.quoting.specs.Quote.{has_high}
use Rattle.printing.specs.Print.{is_unprintable, texts_stop}
use Rattle.printing.specs.Prepare.{TextInside}

-- ---- one node

module _ (stored b : List ℕ) (at : ℕ) (e : get_or b at 0 ≡ 2) where
  -- its bytes decide
  text_kind : is_unprintable stored b at ≡ has_high (piece (four b (at + 1)) (two b (at + 5)) stored)
  text_kind = rw (eq-eqb (get_or b at 0) 2 e)

  -- its body is six bytes
  pub body_inside : TextInside stored b at → at + 1 + body_of 2 ≤ length b
  unfolding body_of
  body_inside h = omega (arith, (h e).0)

module _ (b : List ℕ) (B : Small b) (at : ℕ) where
  -- the word of a text literal has its start
  pub word_start : start_of (leaf_word b at 2) ≡ four b (at + 1)
  unfolding leaf_word
  word_start = omega (arith, four_small b B (at + 1), two_small b B (at + 5))

  -- and its length
  pub word_length : length_of (leaf_word b at 2) ≡ two b (at + 5)
  unfolding leaf_word
  word_length = omega (arith, two_small b B (at + 5))

  module _ (stored : List ℕ) (word : ℕ) (q : word ≡ leaf_word b at 2) (e : get_or b at 0 ≡ 2) where
    -- the text of the word ends inside the stored one
    pub word_ends : TextInside stored b at → start_of word + length_of word ≤ length stored
    word_ends h = rw (q, word_start, word_length) (h e).1

    -- its bytes decide
    pub word_high : (r : Bool) → r ≡ has_high (piece (start_of word) (length_of word) stored) → r ≡ is_unprintable stored b at
    word_high r h = rw (text_kind stored b at e, ← word_start, ← word_length, ← q) h

-- ---- the loop

-- what is left to look at decides, and reads as the same tree
pub record Left (stored b : List ℕ) (at : ℕ) : Type 0 where
  pub fuel : ℕ
  pub stack : List (Tree ℕ)
  pub whole : Tree ℕ
  pub reads : parse Named (length stored) b fuel at stack ≡ tree whole
  pub stops : texts_stop stored b 64 0 ≡ texts_stop stored b fuel at

-- a tree is no refusal
no_tree : {X : Type 0} (n p : ℕ) (t : Tree ℕ) → refusal n p ≡ tree t → X
no_tree n p t e = absurd (let z : ◌≡◌ {A = ℕ} 0 1 = cc in omega arith)

-- a node that goes on, and what is left after it
record Next (stored b : List ℕ) (at : ℕ) (s : List (Tree ℕ)) (f : ℕ) (t : Tree ℕ) : Type 0 where
  pub fewer : ℕ
  pub one : f ≡ suc fewer
  pub after : List (Tree ℕ)
  pub went : Went Named (length stored) b at (get_or b at 0) s after (at + 1 + body_of (get_or b at 0))
  pub later : parse Named (length stored) b fewer (at + 1 + body_of (get_or b at 0)) after ≡ tree t

-- a node of what reads as a tree goes on
next : (stored b : List ℕ) (at : ℕ) (s : List (Tree ℕ)) (f : ℕ) (t : Tree ℕ) → at < length b → parse Named (length stored) b f at s ≡ tree t → Next stored b at s f t
next stored b at s zero t h e = no_tree 2 at t (sym (parse_full Named (length stored) b at s h) ∙ e)
next stored b at s (suc f) t h e = through (node Named (length stored) b at s) refl (sym (parse_more Named (length stored) b f at s h) ∙ e)
  where
    through : (m : Move) → node Named (length stored) b at s ≡ m → follow m at (λ s' n. parse Named (length stored) b f n s') ≡ tree t → Next stored b at s (suc f) t
    through (go s' n) q e =
        let w = node_went Named (length stored) b at (get_or b at 0) s s' n q in
        record { fewer = f; one = refl; after = s'; went = rw w.after at w; later = rw w.after at e }
    through (Move.stop n) q e = no_tree n at t e

-- a text literal that went on lies inside the stored text
literal_inside : (used : ℕ) (b : List ℕ) (at k : ℕ) (s s' : List (Tree ℕ)) → k ≡ 2 → Became used b at k s s' → four b (at + 1) + two b (at + 5) ≤ used
unfolding text_fits
literal_inside used b at k s s' e (put l q g) = leb-true _ _ (rw e at q)
literal_inside used b at k s s' e (Became.one a r l u f g d) = absurd (let z : ⊥ = omega arith in z)
literal_inside used b at k s s' e (Became.two a c r l f g d) = absurd (let z : ⊥ = omega arith in z)

module _ {stored b : List ℕ} {at : ℕ} (L : Left stored b at) where
  -- all was looked at
  pub left_end : length b ≤ at → texts_stop stored b 64 0 ≡ never
  unfolding texts_stop
  left_end h = L.stops ∙ ended L.fuel
    where
      ended : (f : ℕ) → texts_stop stored b f at ≡ never
      ended zero = refl
      ended (suc f) = rw (le-ltb at (length b) h)

  module _ (h : at < length b) where
    -- the node at the offset
    here : Next stored b at L.stack L.fuel L.whole
    here = next stored b at L.stack L.fuel L.whole h L.reads

    -- the node lies inside the bytes
    pub left_inside : at + 1 + body_of (get_or b at 0) ≤ length b
    left_inside = here.went.inside

    -- where it is a text literal, its text lies inside the stored one
    pub left_text : TextInside stored b at
    left_text e = (
      (let i : at + 1 + body_of (get_or b at 0) ≤ length b = left_inside in let q : body_of (get_or b at 0) ≡ 6 = body_text (get_or b at 0) e in omega arith),
      literal_inside (length stored) b at (get_or b at 0) L.stack here.after e here.went.became,
    )

    -- this literal is refused
    pub left_found : is_unprintable stored b at ≡ true → texts_stop stored b 64 0 ≡ stop 15 at
    unfolding texts_stop
    left_found m = L.stops ∙ ap (λ f. texts_stop stored b f at) here.one ∙ rw (lt-ltb at (length b) h, m)

    -- or the next node is looked at
    pub left_turn : is_unprintable stored b at ≡ false → Left stored b (at + 1 + body_of (get_or b at 0))
    unfolding texts_stop
    left_turn m = record {
      fuel = here.fewer;
      stack = here.after;
      whole = L.whole;
      reads = here.later;
      stops = L.stops ∙ ap (λ f. texts_stop stored b f at) here.one ∙ rw (lt-ltb at (length b) h, m);
    }
