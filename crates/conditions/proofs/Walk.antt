-- The laws of a walk down the table of nodes: what a sound tree asks of its operands, and how the operands' answers make the answer.
-- None of them looks into `unary_of` or `binary_of`. Assumes nothing.
use mathlib.Core.Path.{◌≡◌, refl, sym, ap, subst, ◌∙◌}
use mathlib.Core.List.{List}
use mathlib.Core.Bool.{Bool, true, false}
use Prim.Native.Nat.{ℕ, ◌+◌, ◌-◌, ◌*◌, ◌≤◌, ◌<◌}
use native.Mathlib.Omega.{arith}
use lib.ListN.{length, take, get_or}
use lib.Seq.{length-take-le}
use Rattle.cells.specs.Cell.{WellFormed}
use Rattle.cells.proofs.Stops.{inside_more}
use Rattle.values.specs.Value.{value_of, to_bool, from_bool}
use Rattle.integers.specs.Outcome.{value, gave, reply_of, placed}
use Rattle.operators.specs.Operator.{unary_of, Applied, Room}
use Rattle.operators.specs.declared.Rules.{Rules}
use Rattle.operators.proofs.ByKind.{plain_unary, plain_flag}
use Rattle.operators.proofs.Holding.{holds_unary, holds_truth, value_int32}
use Rattle.conditions.specs.Ast.{Tree, leaf, unary, binary, size, height, joins, eval, decides, two_sided}
use Rattle.conditions.specs.Table.{node_of, tree_of, LeafSound, row_of, RowSound, Asks, Says, Gives, Answers, LeafIs, Lies}
use Rattle.conditions.specs.declared.Node.TheVariants.{Leaf, One, Two}
use Rattle.conditions.proofs.Descent.{OneSound, TwoSound, sound_leaf, sound_one, sound_two}
use Rattle.conditions.proofs.Giving.{handed_on_lem, says_more, kept_trans, applied_gives, value_more}
use Rattle.conditions.proofs.Lying.{lies_one, lies_two}
use Rattle.conditions.proofs.Deciding.{holds_two_sided}
use Rattle.std.specs.Prelude.{Result, Ok, Err}
use Rattle.integers.specs.declared.Fault.{Fault}

-- the answer of a tree read in `base`
abbrev AnswersIn : (R : Rules) (base : List ℕ) (top d k : ℕ) (nodes row before after : List ℕ) → Result (ℕ × ℕ) Fault → Type 0
AnswersIn R base top d k nodes row before after r =
    Gives before after top (1024 * joins (tree_of base d nodes k)) r (eval R (row_of base row) (tree_of base d nodes k))

-- an answer that is no value
abbrev Refusing : Result (ℕ × ℕ) Fault → Type 0
Refusing r = (fault : Fault) × (r ≡ Err fault)

module _ (R : Rules) (used top d k : ℕ) (nodes row text : List ℕ) (A : Asks R used top d k nodes row text) where
  abbrev base : List ℕ
  base = take used text

  -- the text at the mark, after a call that kept what lay below the top
  base_kept : (after : List ℕ) → take top after ≡ take top text → take used after ≡ base
  base_kept after e = kept_trans text text after used top A.marks refl e

  pub leaf_sound : (w : ℕ) → node_of (get_or nodes k 0) ≡ Leaf w → LeafSound used (length row) w × RowSound used row
  leaf_sound w e = ((sound_leaf used (length row) d k nodes A.sound e).0, A.rows)

  pub leaf_answers : (w : ℕ) (c : ℕ) → node_of (get_or nodes k 0) ≡ Leaf w → LeafIs used w row c → Answers R used top d k nodes row text text (Ok (c, top))
  leaf_answers w c e l =
      record {
        kept = refl;
        says = (
          ap (eval R (row_of base row)) ((sound_leaf used (length row) d k nodes A.sound e).1 base) ∙ l.means R base ∙ ap value (sym (value_more used top text text c A.marks l.within refl)),
          inside_more used top c A.marks l.within,
          omega arith,
          omega arith,
        );
      }

  module _ (op : ℕ) (e : node_of (get_or nodes k 0) ≡ One op) where
    -- the operator over its operand
    abbrev one : OneSound used (length row) d k nodes op
    one = sound_one used (length row) d k nodes A.sound e

    pub one_asks : Asks R used top (d - 1) (k - 1) nodes row text
    unfolding joins
    one_asks = record { marks = A.marks; short = A.short; small = A.small; sound = one.only; rows = A.rows; room = rw (one.tree base) at A.room }

    pub one_refused : (after : List ℕ) (r : Result (ℕ × ℕ) Fault) → Refusing r → Answers R used top (d - 1) (k - 1) nodes row text after r → Answers R used top d k nodes row text after r
    unfolding eval
    one_refused after r q g = record { kept = g.kept; says = rw (one.tree base) (handed_on_lem after top _ top _ r _ _ q g.says) }

    pub one_answers : (after : List ℕ) (v t : ℕ) (r : Result (ℕ × ℕ) Fault) → Answers R used top (d - 1) (k - 1) nodes row text after (Ok (v, t))
        → ((x : List ℕ) → WellFormed (length x) v → reply_of r ≡ placed t (unary_of R op (value_of x v))) → length after ≡ length text
        → Answers R used top d k nodes row text after r
    unfolding eval joins
    one_answers after v t r g f h =
        let m : top + 1024 * joins (tree_of base (d - 1) nodes (k - 1)) ≤ length text = rw (one.tree base) at A.room in
        let i : t ≤ length after = omega (arith, g.says.3) in
        let x : WellFormed (length (take t after)) v = subst (λ n. WellFormed n v) (sym (length-take-le t after i)) g.says.1 in
        let y : Applied after after t r (unary_of R op (value_of (take t after) v)) =
        record { reply = f (take t after) x; text = sym (plain_unary after t R op (value_of (take t after) v)).same } in
        let z = applied_gives after after t 0 0 i (rw h A.small) (omega arith) (omega arith) r _ (holds_unary 0 R op _) y in
        record { kept = g.kept; says = rw (one.tree base, g.says.0) (says_more after top t 0 _ r _ g.says.2 (omega (arith, g.says.3)) z.says) }

    pub one_lies : (after : List ℕ) (v t : ℕ) (r : Result (ℕ × ℕ) Fault) → Answers R used top (d - 1) (k - 1) nodes row text after (Ok (v, t))
        → ((x : List ℕ) → WellFormed (length x) v → reply_of r ≡ placed t (unary_of R op (value_of x v))) → length after ≡ length text
        → Lies top (node_of (get_or nodes k 0)) row r
    unfolding joins
    one_lies after v t r g f h =
        let m : top + 1024 * joins (tree_of base (d - 1) nodes (k - 1)) ≤ length text = rw (one.tree base) at A.room in
        let i : t ≤ length after = omega (arith, g.says.3) in
        let x : WellFormed (length (take t after)) v = subst (λ n. WellFormed n v) (sym (length-take-le t after i)) g.says.1 in
        lies_one t 0 (omega arith) (omega (arith, A.small)) top op _ row _ r g.says.2 e (holds_unary 0 R op (value_of (take t after) v)) (f (take t after) x)

  module _ (op l : ℕ) (e : node_of (get_or nodes k 0) ≡ Two op l) where
    -- the operator over its operands
    abbrev two : TwoSound used (length row) d k nodes op l
    two = sound_two used (length row) d k nodes A.sound e

    two_room : top + 1024 * (joins (tree_of base (d - 1) nodes l) + joins (tree_of base (d - 1) nodes (k - 1)) + 1) ≤ length text
    unfolding joins
    two_room = rw (two.tree base) at A.room

    pub left_asks : Asks R used top (d - 1) l nodes row text
    left_asks = record { marks = A.marks; short = A.short; small = A.small; sound = two.left; rows = A.rows; room = omega (arith, two_room) }

    pub left_refused : (after : List ℕ) (r : Result (ℕ × ℕ) Fault) → Refusing r → Answers R used top (d - 1) l nodes row text after r → Answers R used top d k nodes row text after r
    unfolding eval
    left_refused after r q g = record { kept = g.kept; says = rw (two.tree base) (handed_on_lem after top _ top _ r _ _ q g.says) }

    -- the left operand has a value
    module _ (after : List ℕ) (v t : ℕ) (g : Answers R used top (d - 1) l nodes row text after (Ok (v, t))) (h : length after ≡ length text) where
      left_long : t ≤ length after
      left_long = omega (arith, two_room, g.says.3)

      -- v in the text up to t, whose length is t
      left_within : WellFormed (length (take t after)) v
      left_within = subst (λ n. WellFormed n v) (sym (length-take-le t after left_long)) g.says.1

      module _ (b : Bool) (dec : (x : List ℕ) → WellFormed (length x) v → b ≡ decides op (value_of x v)) where
        pub left_decided : (c : ℕ) (y : Bool) → b ≡ true → ((x : List ℕ) → WellFormed (length x) v → y ≡ to_bool (value_of x v))
            → ((s : ℕ) → gave c s ≡ placed s (value (from_bool y))) → Answers R used top d k nodes row text after (Ok (c, t))
        unfolding eval joins
        left_decided c y q j f =
            let z : decides op (value_of (take t after) v) ≡ true = sym (dec (take t after) left_within) ∙ q in
            let b : Applied after after t (Ok (c, t)) (value (from_bool y)) = record { reply = f t; text = sym (plain_flag after t y).same } in
            let a = applied_gives after after t 0 0 left_long (rw h A.small) (omega arith) (omega arith) (Ok (c, t)) _ (holds_truth 0 y) b in
            record {
              kept = g.kept;
              says =
                  rw (two.tree base, g.says.0, z, ← j (take t after) left_within)
                  (says_more after top t 0 _ (Ok (c, t)) _ g.says.2 (omega (arith, g.says.3)) a.says);
            }

        pub left_lies : (c : ℕ) (y : Bool) → ((s : ℕ) → gave c s ≡ placed s (value (from_bool y))) → Lies top (node_of (get_or nodes k 0)) row (Ok (c, t))
        left_lies c y f = lies_two t 0 (omega arith) (omega (arith, A.small, left_long, h)) top op l _ row _ (Ok (c, t)) g.says.2 e (holds_truth 0 y) (f t)

        module _ (q : b ≡ false) where
          same_base : take used after ≡ base
          same_base = base_kept after g.kept

          pub right_asks : Asks R used t (d - 1) (k - 1) nodes row after
          right_asks =
              record {
                marks = omega (arith, A.marks, g.says.2);
                short = A.short;
                small = rw h A.small;
                sound = two.right;
                rows = A.rows;
                room = rw same_base (omega (arith, two_room, g.says.3));
              }

          undecided : decides op (value_of (take t after) v) ≡ false
          undecided = sym (dec (take t after) left_within) ∙ q

          module _ (last : List ℕ) (s : Result (ℕ × ℕ) Fault) (g₂ : Answers R used t (d - 1) (k - 1) nodes row after last s) where
            -- the right operand's answer, read in the text as it was at first
            right_in : AnswersIn R base t (d - 1) (k - 1) nodes row after last s
            right_in = subst (λ b. AnswersIn R b t (d - 1) (k - 1) nodes row after last s) same_base g₂

            kept_both : take top last ≡ take top text
            kept_both = kept_trans text after last top t g.says.2 g.kept right_in.kept

            pub right_refused : Refusing s → Answers R used top d k nodes row text last s
            unfolding eval
            right_refused p = record { kept = kept_both; says = rw (two.tree base, g.says.0, undecided) (handed_on_lem last t _ top _ s _ _ p right_in.says) }

            -- the right operand has a value too
            module _ (w u : ℕ) (p : s ≡ Ok (w, u)) (h₂ : length last ≡ length after) where
              right_says : Says last t (1024 * joins (tree_of base (d - 1) nodes (k - 1))) (Ok (w, u)) (eval R (row_of base row) (tree_of base (d - 1) nodes (k - 1)))
              right_says = rw p at right_in.says

              room_now : Room R u (length last)
              room_now =
                  record {
                    above = omega (arith, two_room, g.says.3, right_says.3, A.short);
                    short = A.short;
                    small = rw (h₂, h) A.small;
                  }

              pub join_asks : (32 ≤ op) × (op < 50) × Room R u (length last) × WellFormed u v × WellFormed u w
              join_asks = (two.known.0, two.known.1, room_now, inside_more t u v right_says.2 g.says.1, right_says.1)

              pub two_answers : (end : List ℕ) (r : Result (ℕ × ℕ) Fault) → Applied last end u r (two_sided R op (value_of (take u last) v) (value_of (take u last) w))
                  → Answers R used top d k nodes row text end r
              unfolding eval joins
              two_answers end r j =
                  let x : value_of (take u last) v ≡ value_of (take t after) v = value_more t u after last v right_says.2 g.says.1 right_in.kept in
                  let y = applied_gives last end u 1024 R.limit (omega (arith, room_now.above)) room_now.small A.short A.short r _ (holds_two_sided R op _ _ (value_int32 (take u last) v) (value_int32 (take u last) w)) j in
                  record {
                    kept = kept_trans text last end top u (omega (arith, g.says.2, right_says.2)) kept_both y.kept;
                    says =
                        rw (two.tree base, g.says.0, undecided, right_says.0)
                        (says_more end top u 1024 _ r _ (omega (arith, g.says.2, right_says.2)) (omega (arith, g.says.3, right_says.3)) (rw x at y.says));
                  }

              pub two_lies : (end : List ℕ) (r : Result (ℕ × ℕ) Fault) → Applied last end u r (two_sided R op (value_of (take u last) v) (value_of (take u last) w))
                  → Lies top (node_of (get_or nodes k 0)) row r
              two_lies end r j =
                  lies_two u R.limit A.short (omega (arith, room_now.above, room_now.small)) top op l _ row _ r (omega (arith, g.says.2, right_says.2)) e
                  (holds_two_sided R op _ _ (value_int32 (take u last) v) (value_int32 (take u last) w)) j.reply

-- every tree has a height
pub height_pos : (t : Tree ℕ) → 0 < height t
unfolding height
height_pos (leaf w) = omega arith
height_pos (unary op a) = omega arith
height_pos (binary op a b) = omega arith

-- a walk with the tree's height left may go one deeper
pub depth_left : {depth : ℕ} (t : Tree ℕ) → height t ≤ depth → 0 < depth
depth_left t h = omega (arith, height_pos t, h)

-- every tree has a node
pub size_pos : (t : Tree ℕ) → 1 ≤ size t
unfolding size
size_pos (leaf w) = omega arith
size_pos (unary op a) = omega arith
size_pos (binary op a b) = omega arith
