-- From the scan to the evaluation: the tree that evaluation walks is the condition's, it is sound, there is room for all its joins,
-- and what the answer says. Assumes nothing.
use mathlib.Core.Path.{◌≡◌, refl, sym, ap, ap₂, subst, ◌∙◌}
use mathlib.Core.List.{List, []}
use mathlib.Core.Bool.{Bool, true, false, cond}
use Prim.Native.Nat.{ℕ, zero, suc, ◌+◌, ◌-◌, ◌*◌, ◌^◌, ◌/◌, ◌%◌, ◌≤◌, ◌<◌}
use native.Mathlib.Omega.{arith}
use lib.ListN.{length, take, get_or}
use lib.Seq.{take-length}
use lib.Dec.{eqb}
use Rattle.refusals.specs.Stop.{stop, stop_of}
use Rattle.refusals.specs.Told.{told}
use Rattle.refusals.specs.declared.Refusal.{Refusal}
use Rattle.cells.specs.Cell.{WellFormed, start_of, length_of}
use Rattle.cells.proofs.Stops.{inside_more}
use Rattle.values.specs.Value.{value_of}
use Rattle.checks.proofs.Turns.{cells_sound, room_there}
use Rattle.operators.specs.declared.Rules.{Rules}
use Rattle.conditions.specs.Ast.{Tree, Atom, leaf, unary, binary, map_tree, eval, height, size, joins}
use Rattle.conditions.specs.Table.{node_of, leaf_of, tree_of, row_of, leaf_cell, LeafSound, Sound, Asks, Answers, LiesAt}
use Rattle.conditions.specs.declared.Node.TheVariants.{Leaf}
use Rattle.conditions.proofs.NodeKind.{leaf_self}
use Rattle.conditions.proofs.Giving.{value_more}
use Rattle.conditions.proofs.Walk.{height_pos}
use Rattle.nodes.specs.Kind.{leaf_word}
use Rattle.forms.specs.Held.{LeafHeld, Denotes}
use Rattle.forms.proofs.Unique.{one_tree}
use Rattle.evaluation.specs.Evaluation.{evaluation, stops, at_zero, gave, LiesIn, EvaluatedIs, PreparedIs}
use Rattle.evaluation.proofs.Stopping.{room_passed, cells_passed, numbers_passed}
use Rattle.evaluation.proofs.Narrowing.{Narrow, AllNarrow, parse_narrow}
use Rattle.std.specs.Prelude.{Result, Ok, Err}
use Rattle.integers.specs.declared.Fault.{Fault}
use Rattle.integers.specs.Outcome.{number_of}

-- the tree that evaluation walks
pub denotes_tree : (used : ℕ) (base nodes : List ℕ) (d k : ℕ) (t : Tree ℕ) → height t ≤ d → Denotes used nodes k t → tree_of base d nodes k ≡ map_tree (leaf_of base) t
unfolding Denotes tree_of height map_tree
denotes_tree used base nodes zero k t h q = absurd (omega (arith, height_pos t))
denotes_tree used base nodes (suc d) k (leaf w) h q = rw q.0
denotes_tree used base nodes (suc d) k (unary op a) h q = rw q.0 (ap (unary op) (denotes_tree used base nodes d (k - 1) a (omega arith) q.3))
denotes_tree used base nodes (suc d) k (binary op a b) h q =
    rw q.1 (ap₂ (binary op) (denotes_tree used base nodes d q.0 a (omega arith) q.4) (denotes_tree used base nodes d (k - 1) b (omega arith) q.5))

leaf_sound : (used width w : ℕ) → LeafHeld used w → Narrow width (leaf w) → LeafSound used width w
unfolding LeafHeld LeafSound Narrow
leaf_sound used width w = by (eqb (w / 2 ^ 56) 4) (eqb (w / 2 ^ 56) 3)
  where
    by : (x y : Bool) → cond x (Unit {0}) (cond y (start_of w + length_of w ≤ used) (WellFormed used w))
        → cond x (w % 2 ^ 56 < width) (cond y ⊥ (Unit {0}))
        → cond x (w % 2 ^ 56 < width) (cond y ⊥ (WellFormed used w))
    by true y h n = n
    by false true h n = n
    by false false h n = h

-- and it is sound
pub denotes_sound : (used width : ℕ) (nodes : List ℕ) (d k : ℕ) (t : Tree ℕ) → height t ≤ d → k < length nodes → Narrow width t → Denotes used nodes k t → Sound used width d nodes k
unfolding Denotes Sound height
denotes_sound used width nodes zero k t h l n q = absurd (omega (arith, height_pos t))
denotes_sound used width nodes (suc d) k (leaf w) h l n q = (l, rw q.0 (leaf_sound used width w q.1 n))
denotes_sound used width nodes (suc d) k (unary op a) h l n q =
    (l, rw q.0 (q.1, q.2, denotes_sound used width nodes d (k - 1) a (omega arith) (omega arith) (unfold Narrow in n) q.3))
denotes_sound used width nodes (suc d) k (binary op a b) h l n q = (
  l,
  rw q.1 (
    q.2,
    q.3,
    denotes_sound used width nodes d q.0 a (omega arith) (omega (arith, q.3)) (unfold Narrow in n.0) q.4,
    denotes_sound used width nodes d (k - 1) b (omega arith) (omega arith) (unfold Narrow in n.1) q.5,
  ),
)

-- 64 nodes have at most 31 two-sided operators, so 32,768 bytes always suffice for the texts that one evaluation joins
pub joins_size : (t : Tree ℕ) → joins t + joins t + 1 ≤ size t
unfolding joins size
joins_size (leaf w) = omega arith
joins_size (unary op a) = omega (arith, joins_size a)
joins_size (binary op a b) = omega (arith, joins_size a, joins_size b)

-- what a leaf means changes no count
joins_map : (f : ℕ → Atom) (t : Tree ℕ) → joins (map_tree f t) ≡ joins t
unfolding joins map_tree
joins_map f (leaf w) = refl
joins_map f (unary op a) = joins_map f a
joins_map f (binary op a b) = ap₂ (λ x y. x + y + 1) (joins_map f a) (joins_map f b)

-- where the cell lies, told of the tree
module _ (used : ℕ) (nodes b row : List ℕ) (first : get_or nodes 0 0 ≡ leaf_word b 0 (get_or b 0 0)) (w : ℕ) where
  own_leaf : (k x : ℕ) → k + 1 ≡ 1 → node_of (get_or nodes k 0) ≡ Leaf x → LiesAt used (node_of (get_or nodes k 0)) row w → LiesIn b row used 1 w
  own_leaf k x one e h = record {
    own = λ o. subst (λ n. LiesAt used n row w) e h ∙ ap (leaf_cell row) (leaf_self _ x e ∙ ap (λ i. get_or nodes i 0) (let z : k ≡ 0 = omega arith in z) ∙ first);
    above = λ l. absurd (omega arith);
  }

  pub lies_in : (k : ℕ) (t : Tree ℕ) → k + 1 ≡ size t → Denotes used nodes k t → LiesAt used (node_of (get_or nodes k 0)) row w → LiesIn b row used (size t) w
  unfolding Denotes size
  lies_in k (leaf x) s q h = own_leaf k x s q.0 h
  lies_in k (unary op a) s q h = record {
    own = λ o. absurd (omega (arith, joins_size a));
    above = λ l. subst (λ n. LiesAt used n row w) q.0 h;
  }
  lies_in k (binary op a c) s q h = record {
    own = λ o. absurd (omega (arith, joins_size a, joins_size c));
    above = λ l. subst (λ n. LiesAt used n row w) q.1 h;
  }

-- a call that is stopped before evaluation is refused so, and its text stays
pub denied : (R : Rules) (b row text : List ℕ) (used : ℕ) (r : Refusal) → stops b row (length text) used ≡ stop_of r → EvaluatedIs R b row text text used (Err r)
unfolding evaluation
denied R b row text used r p = record { kept = refl; says = rw p }

module _ (R : Rules) (limit : R.limit ≤ 1024) (b row text : List ℕ) (bytes : (i : ℕ) → get_or b i 0 < 256) (used n : ℕ) (nodes : List ℕ) (long : length nodes ≡ 64) (p : PreparedIs b row (length text) used nodes (Ok n)) where
  abbrev t : Tree ℕ
  t = p.1.0

  pub some : 1 ≤ n
  some = p.1.2

  k+1 : n - 1 + 1 ≡ size t
  k+1 = omega (arith, some, p.1.3)

  held : Denotes used nodes (n - 1) t
  held = p.1.6

  same : tree_of (take used text) 16 nodes (n - 1) ≡ map_tree (leaf_of (take used text)) t
  same = denotes_tree used (take used text) nodes 16 (n - 1) t p.1.5 held

  there : (length text ≤ 65536) × (used + 32768 ≤ length text)
  there = room_there 32768 (length text) used (room_passed b row (length text) used p.0)

  room : used + 1024 * joins (tree_of (take used text) 16 nodes (n - 1)) ≤ length text
  room = rw (same, joins_map (leaf_of (take used text)) t) (omega (arith, joins_size t, p.1.3, p.1.4, there.1))

  narrow : Narrow (length row) t
  unfolding AllNarrow
  narrow = parse_narrow (length row) used b bytes 64 0 [] t tt (numbers_passed b row (length text) used p.0) p.1.1

  pub asks : Asks R used used 16 (n - 1) nodes row text
  asks = record {
    marks = omega arith;
    short = limit;
    small = there.0;
    sound = denotes_sound used (length row) nodes 16 (n - 1) t p.1.5 (omega (arith, long, some, p.1.4)) narrow held;
    rows = record { cells = cells_sound used 0 row (cells_passed b row (length text) used p.0) };
    room = room;
  }

  whole : evaluation R b row (take used text) (length text) used ≡ at_zero (eval R (row_of (take used text) row) (tree_of (take used text) 16 nodes (n - 1)))
  unfolding evaluation
  whole = rw (p.0, p.1.1, same)

  module _ (after : List ℕ) (size-kept : length after ≡ length text) where
    pub evaluated : (w u : ℕ) → Answers R used used 16 (n - 1) nodes row text after (Ok (w, u)) → LiesAt used (node_of (get_or nodes (n - 1) 0)) row w → EvaluatedIs R b row text after used (Ok w)
    unfolding size
    evaluated w u a l =
        let below : u ≤ length after = omega (arith, room, a.says.3, size-kept) in
        record {
          kept = a.kept;
          says = (
            whole ∙ ap at_zero a.says.0 ∙ ap (λ v. gave v) (sym (value_more u (length after) after after w below a.says.1 refl) ∙ ap (λ z. value_of z w) (take-length after)),
            inside_more u (length after) w below a.says.1,
            λ s e. subst (λ m. LiesIn b row used m w) (ap size (one_tree p.1.1 e)) (lies_in used nodes b row p.1.7 w (n - 1) t k+1 held l),
          );
        }

    -- a fault has the place 0
    pub faulted : (f : Fault) (r : Refusal) → stop_of r ≡ stop (number_of f) 0 → Answers R used used 16 (n - 1) nodes row text after (Err f) → EvaluatedIs R b row text after used (Err r)
    faulted f r e a =
        let number : (told r).number ≡ number_of f = cc in
        let place : (told r).place ≡ 0 = cc in
        record { kept = a.kept; says = rw (number, place) (whole ∙ ap at_zero a.says) }

-- an answer that is no value is a fault
pub among_refusals : (r : Result (ℕ × ℕ) Fault) → ((w u : ℕ) → r ≡ Ok (w, u) → ⊥) → (fault : Fault) × (r ≡ Err fault)
among_refusals (Ok (w, u)) h = absurd (h w u refl)
among_refusals (Err fault) h = (fault, refl)
