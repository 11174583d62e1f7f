-- The laws of the walk: what a sound tree asks of its operands, and how their words make its word. Assumes nothing.
use mathlib.Core.Path.{◌≡◌, refl, sym, ap, subst, ◌∙◌}
use mathlib.Core.Bool.{Bool, true}
use mathlib.Core.List.{List}
use Prim.Native.Nat.{ℕ, ◌-◌, ◌≤◌}
use native.Mathlib.Omega.{arith}
use lib.ListN.{length, take, get_or}
use lib.Seq.{length-take-le}
use Rattle.std.specs.Prelude.{Option, Some, None, IfSome, Ok}
use Rattle.cells.specs.Cell.{WellFormed}
use Rattle.cells.proofs.Stops.{inside_more}
use Rattle.values.specs.Value.{value_of, to_bool, from_bool}
use Rattle.integers.specs.Outcome.{value, gave, placed}
use Rattle.operators.specs.Operator.{unary_of}
use Rattle.operators.specs.declared.Rules.{Rules}
use Rattle.operators.proofs.Holding.{holds_unary, holds_truth}
use Rattle.conditions.specs.Ast.{eval, decides}
use Rattle.conditions.specs.Table.{node_of, LeafSound, Sound, row_of, RowSound, LeafIs, Asks, Answers, Lies}
use Rattle.conditions.specs.declared.Node.TheVariants.{Leaf, One, Two}
use Rattle.conditions.proofs.Giving.{value_more}
use Rattle.conditions.proofs.Descent.{OneSound, TwoSound, sound_leaf, sound_one, sound_two}
use Rattle.wordwise.specs.Settled.{Settled, on_both}
use Rattle.wordwise.proofs.Settling.{settled}
use Rattle.wordwise.proofs.Worth.{Worth, worth, holds_both}
use Rattle.quick.specs.Quick.{Stands, Found}

-- ---- the tree at k

module _ (d k : ℕ) (nodes row stored : List ℕ) (S : Stands d k nodes row stored) where
  -- what a leaf asks
  pub leaf_sound : (w : ℕ) → node_of (get_or nodes k 0) ≡ Leaf w → LeafSound (length stored) (length row) w × RowSound (length stored) row
  leaf_sound w e = ((sound_leaf (length stored) (length row) d k nodes S.sound e).0, S.rows)

  -- the leaf's word is the tree's
  pub leaf_found : (w c : ℕ) → node_of (get_or nodes k 0) ≡ Leaf w → LeafIs (length stored) w row c → Found d k nodes row stored c
  leaf_found w c e l = record {
    means = λ R. ap (eval R (row_of stored row)) ((sound_leaf (length stored) (length row) d k nodes S.sound e).1 stored) ∙ l.means R stored;
    within = l.within;
    lies = λ top. rw e l.exact;
  }

  module _ (op : ℕ) (e : node_of (get_or nodes k 0) ≡ One op) where
    -- the operator over its operand
    abbrev one : OneSound (length stored) (length row) d k nodes op
    one = sound_one (length stored) (length row) d k nodes S.sound e

    -- the operand stands as the tree does
    pub one_stands : Stands (d - 1) (k - 1) nodes row stored
    one_stands = record { sound = one.only; rows = S.rows }

    -- the operator's word from the operand's
    pub one_found : (v : ℕ) (r : Option ℕ) → Found (d - 1) (k - 1) nodes row stored v
        → ((R : Rules) (x : List ℕ) → WellFormed (length x) v → Settled r (unary_of R op (value_of x v))) → IfSome r (Found d k nodes row stored)
    unfolding eval
    one_found v None g f = tt
    one_found v (Some r) g f =
        let z : (R : Rules) → Worth stored r (unary_of R op (value_of stored v)) = λ R. worth stored 0 r _ (holds_unary 0 R op _) (f R stored g.within) in
        let y = z (record { limit = 0 }) in
        record {
          means = λ R. rw (one.tree stored, g.means R) (z R).means;
          within = y.within;
          lies = λ top. rw e (λ i. absurd (y.plain i));
        }

  module _ (op l : ℕ) (e : node_of (get_or nodes k 0) ≡ Two op l) where
    -- the operator over its operands
    abbrev two : TwoSound (length stored) (length row) d k nodes op l
    two = sound_two (length stored) (length row) d k nodes S.sound e

    -- the left operand stands as the tree does
    pub left_stands : Stands (d - 1) l nodes row stored
    left_stands = record { sound = two.left; rows = S.rows }

    -- so does the right one
    pub right_stands : Stands (d - 1) (k - 1) nodes row stored
    right_stands = record { sound = two.right; rows = S.rows }

    module _ (v : ℕ) (g : Found (d - 1) l nodes row stored v) where
      -- the left operand decides
      pub left_found : (r : ℕ) (y : Bool) → decides op (value_of stored v) ≡ true → y ≡ to_bool (value_of stored v)
          → ((top : ℕ) → gave r top ≡ placed top (value (from_bool y))) → Found d k nodes row stored r
      unfolding eval
      left_found r y t j f =
          let z = worth stored 0 r (value (from_bool y)) (holds_truth 0 y) (settled r _ f) in
          record {
            means = λ R. rw (two.tree stored, g.means R, t, ← j) z.means;
            within = z.within;
            lies = λ top. rw e (λ i. absurd (z.plain i));
          }

      -- the right one has a word too
      pub two_found : (w : ℕ) (r : Option ℕ) → Found (d - 1) (k - 1) nodes row stored w
          → ((R : Rules) → Settled r (on_both R op (value_of stored v) (value_of stored w))) → IfSome r (Found d k nodes row stored)
      unfolding eval on_both
      two_found w None i f = tt
      two_found w (Some r) i f =
          let z : (R : Rules) → Worth stored r (on_both R op (value_of stored v) (value_of stored w)) = λ R. worth stored R.limit r _ (holds_both R op stored v w) (f R) in
          let y = z (record { limit = 0 }) in
          record {
            means = λ R. rw (two.tree stored, g.means R, i.means R) (z R).means;
            within = y.within;
            lies = λ top. rw e (λ j. absurd (y.plain j));
          }

-- ---- as evaluation answers

module _ (R : Rules) (used top d k : ℕ) (nodes row text : List ℕ) (A : Asks R used top d k nodes row text) where
  text_room : used ≤ length text
  text_room = omega (arith, A.marks, A.room)

  pub stored_long : length (take used text) ≡ used
  stored_long = length-take-le used text text_room

  pub stands : Stands d k nodes row (take used text)
  stands =
      record {
        sound = subst (λ n. Sound n (length row) d nodes k) (sym stored_long) A.sound;
        rows = subst (λ n. RowSound n row) (sym stored_long) A.rows;
      }

  pub found_answers : (r : ℕ) → Found d k nodes row (take used text) r → Answers R used top d k nodes row text text (Ok (r, top)) × Lies top (node_of (get_or nodes k 0)) row (Ok (r, top))
  found_answers r f =
      let h : WellFormed used r = subst (λ n. WellFormed n r) stored_long f.within in (
        record {
          kept = refl;
          says = (
            f.means R ∙ ap value (sym (value_more used top text text r A.marks h refl)),
            inside_more used top r A.marks h,
            omega arith,
            omega arith,
          );
        },
        f.lies top,
      )
