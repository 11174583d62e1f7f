-- The pass over the bytes: its invariant, its two turns and its end. Assumes nothing.
use mathlib.Core.Path.{◌≡◌, refl, sym, ap, subst, ◌∙◌}
use mathlib.Core.Bool.{Bool, true, false}
use mathlib.Core.List.{List, [], ◌∷◌}
use Prim.Native.Nat.{ℕ, suc, ◌+◌, ◌-◌, ◌≤◌, ◌<◌, max}
use native.Mathlib.Omega.{arith}
use lib.ListN.{length, get_or, set, length-set}
use lib.Dec.{ltb, leb}
use borrow.Author.Tests.{lt-ltb, le-ltb, le-leb, ltb-false, ne_eqb}
use Rattle.std.specs.Prelude.{Some}
use Rattle.cells.specs.Cell.{WellFormed, kind_of}
use Rattle.values.specs.Value.{value_of}
use Rattle.operators.specs.declared.Rules.{Rules}
use Rattle.conditions.specs.Ast.{Tree, leaf, binary, height, size}
use Rattle.conditions.specs.Table.{RowSound}
use Rattle.nodes.specs.Kind.{is_kind, known, body_of, leaf_word}
use Rattle.nodes.specs.declared.Allowed.TheVariants.{Bound}
use Rattle.forms.specs.Form.{go, on_two, node_at, finish, follow, parse, parsed}
use Rattle.forms.specs.Number.{is_missing, numbers_stop}
use Rattle.forms.proofs.Steps.{to_leaf, to_two}
use Rattle.forms.proofs.Scanning.{parse_more, parse_end}
use Rattle.forms.proofs.Numbers.{numbers_turn, numbers_end}
use Rattle.wordwise.specs.Settled.{Settled, on_both, IsTwoSided}
use Rattle.straight.specs.Straight.{LeafRead, IsWhole, Ran}
use Rattle.straight.proofs.Reading.{leaf_is}
use Rattle.straight.proofs.Stacking.{Valued, Stacked, Topped, valued_leaf, valued_two, stacked_more, push}

-- how many nodes a stack's trees have
unfoldable pub total : List (Tree ℕ) → ℕ
total [] = 0
total (t ∷ s) = size t + total s

-- m nodes were read, which are a stack's; `done` of them were operators, and with at most 15 none is refused
pub record Reached (b row stored : List ℕ) (n done at m : ℕ) (s : List (Tree ℕ)) : Type 0 where
  pub form : done ≤ 15 → parsed Bound (length stored) b ≡ parse Bound (length stored) b (64 - m) at s
  pub numbers : done ≤ 15 → numbers_stop (length row) b 64 0 ≡ numbers_stop (length row) b (64 - m) at
  pub least : n + done ≤ m
  pub most : m ≤ n + (done + done)
  pub nodes : total s ≡ m

-- the stack holds the cells of the trees that were read so far. The invariant of the loop over the nodes
pub record Running (b row stored stack : List ℕ) (top n done at : ℕ) : Type 0 where
  pub long : length stack ≡ 16
  pub few : n ≤ 16
  pub worked : done ≤ at
  pub inside : at ≤ length b
  pub same : (m : ℕ) × (s : List (Tree ℕ)) × Topped stored row stack top (done + 1) n s × Reached b row stored n done at m s

-- before the first node it holds none
pub run_start : (b row stored stack : List ℕ) (top : ℕ) → length stack ≡ 16 → Running b row stored stack top 0 0 0
unfolding Topped total
run_start b row stored stack top h = record {
  long = h;
  few = omega arith;
  worked = omega arith;
  inside = omega arith;
  same = (0, [], refl, record { form = λ d. refl; numbers = λ d. refl; least = omega arith; most = omega arith; nodes = refl });
}

known_two : (k : ℕ) → 32 ≤ k → k < 50 → (k ≡ 47 → ⊥) → known Bound k ≡ true
unfolding known is_kind
known_two k l u n = by (ltb k 47) refl
  where
    by : (x : Bool) → ltb k 47 ≡ x → known Bound k ≡ true
    by true e = rw (le-ltb k 5 (omega arith), le-ltb k 16 (omega arith), le-ltb k 19 (omega arith), le-ltb k 32 l, e, ne_eqb k 3 (λ x. omega arith))
    by false e =
        let h : 48 ≤ k = omega (arith, ltb-false k 47 e) in
        rw (le-ltb k 5 (omega arith), le-ltb k 16 (omega arith), le-ltb k 19 (omega arith), le-ltb k 32 l, e, le-ltb k 48 h, lt-ltb k 50 u, ne_eqb k 3 (λ x. omega arith))

no_body : (k : ℕ) → 5 ≤ k → body_of k ≡ 0
unfolding body_of
no_body k h = rw (ne_eqb k 1 (λ x. omega arith), ne_eqb k 2 (λ x. omega arith), ne_eqb k 3 (λ x. omega arith), ne_eqb k 4 (λ x. omega arith))

module _ (b row stored stack : List ℕ) (top n done at : ℕ) (S : Running b row stored stack top n done at) where
  abbrev used : ℕ
  used = length stored

  abbrev m : ℕ
  m = S.same.0

  abbrev s : List (Tree ℕ)
  s = S.same.1

  held : Topped stored row stack top (done + 1) n s
  held = S.same.2

  so_far : Reached b row stored n done at m s
  so_far = S.same.3

  count : done ≤ 15 → m < 64
  count d = omega (arith, so_far.most, S.few)

  module _ (h : at < length b) (k : ℕ) (e : k ≡ get_or b at 0) where
    -- one node on, whatever it is
    next_form : done ≤ 15 → (s' : List (Tree ℕ)) (next : ℕ) → node_at Bound used b at (get_or b at 0) s ≡ go s' next → parsed Bound used b ≡ parse Bound used b (64 - (m + 1)) next s'
    next_form d s' next q =
        let f : 64 - m ≡ suc (64 - (m + 1)) = omega (arith, count d) in
        so_far.form d ∙ ap (λ f. parse Bound used b f at s) f ∙ parse_more Bound used b (64 - (m + 1)) at s h
        ∙ ap (λ y. follow y at (λ s' next. parse Bound used b (64 - (m + 1)) next s')) q

    next_numbers : done ≤ 15 → is_missing (length row) b at ≡ false → numbers_stop (length row) b 64 0 ≡ numbers_stop (length row) b (64 - (m + 1)) (at + 1 + body_of k)
    next_numbers d q =
        let c = count d in
        so_far.numbers d ∙ numbers_turn (length row) b m at (omega arith) (λ x. omega arith) h q ∙ ap (λ x. numbers_stop (length row) b (64 - (m + 1)) (at + 1 + body_of x)) (sym e)

    -- ---- a leaf
    module _ (B : (i : ℕ) → get_or b i 0 < 256) (rows : RowSound used row) (l : k < 16) (room : n ≡ 16 → ⊥) (r : ℕ) (R : LeafRead used b row at k r) where
      pub leaf_room : n < 16
      leaf_room = let f = S.few in omega arith

      pub run_leaf : Running b row stored (set stack n top) r (n + 1) done (at + 1 + body_of k)
      unfolding total size
      run_leaf = record {
        long = simp length-set S.long;
        few = omega (arith, leaf_room);
        worked = omega (arith, S.worked);
        inside = R.inside;
        same = (
          m + 1,
          leaf (leaf_word b at k) ∷ s,
          push stored row (done + 1) stack top n r (leaf (leaf_word b at k)) s (omega (arith, leaf_room, S.long)) (valued_leaf stored row (done + 1) (leaf_word b at k) r (omega arith) (leaf_is used at b row B rows k r l (sym e) R)) held,
          record {
            form = λ d. next_form d (leaf (leaf_word b at k) ∷ s) (at + 1 + body_of k) (to_leaf Bound used at b k e s R.kind R.inside l R.fits);
            numbers = λ d. next_numbers d R.there;
            least = omega (arith, so_far.least);
            most = omega (arith, so_far.most);
            nodes = omega (arith, so_far.nodes);
          },
        );
      }

    -- ---- an operator
    module _ (operands : 2 ≤ n) where
      -- the two operands
      record Pair : Type 0 where
        left : Tree ℕ
        right : Tree ℕ
        rest : List (Tree ℕ)
        is : s ≡ right ∷ (left ∷ rest)
        left_value : Valued stored row (done + 1) left (get_or stack (n - 1) 0)
        right_value : Valued stored row (done + 1) right top
        below : Stacked stored row stack (done + 1) (n - 1 - 1) rest

      pair : Pair
      unfolding Stacked Topped
      pair = by s refl held
        where
          by : (u : List (Tree ℕ)) → s ≡ u → Topped stored row stack top (done + 1) n u → Pair
          by [] q d = absurd (let z : ⊥ = omega arith in z)
          by (t ∷ []) q d = absurd (let e = d.2 in let z : ⊥ = omega arith in z)
          by (t ∷ (u ∷ s)) q d = record { left = u; right = t; rest = s; is = q; left_value = d.2.1; right_value = d.1; below = d.2.2 }

      pub left_fine : WellFormed used (get_or stack (n - 1) 0)
      left_fine = pair.left_value.fine

      pub right_fine : WellFormed used top
      right_fine = pair.right_value.fine

      abbrev joint : Tree ℕ
      joint = binary k pair.left pair.right

      module _ (K : IsTwoSided k) where
        body : body_of k ≡ 0
        body = no_body k (omega (arith, K.above))

        there : is_missing (length row) b at ≡ false
        there = rw (ne_eqb (get_or b at 0) 4 (λ x. omega (arith, K.above)))

        goes : done + 1 ≤ 15 → node_at Bound used b at (get_or b at 0) s ≡ go (joint ∷ pair.rest) (at + 1)
        unfolding height
        goes few =
            let f : at + 1 + body_of k ≡ at + 1 = omega (arith, body) in
            let d : leb (max (height pair.left) (height pair.right) + 1) 16 ≡ true = le-leb (max (height pair.left) (height pair.right) + 1) 16 (omega (arith, pair.left_value.low, pair.right_value.low)) in
            to_two Bound used at b k e s (known_two k K.above K.below K.known) (omega (arith, body)) K.above ∙ ap (λ x. on_two k s x) f ∙ ap (λ x. on_two k x (at + 1)) pair.is ∙ rw d

        module _ (r : ℕ) (settled : (R : Rules) → Settled (Some r) (on_both R k (value_of stored (get_or stack (n - 1) 0)) (value_of stored top))) where
          pub run_two : Running b row stored stack r (n - 1) (done + 1) (at + 1)
          unfolding total size Topped
          run_two =
              let p = pair in
              let whole : total s ≡ size p.right + (size p.left + total p.rest) = ap total p.is in
              record {
                long = S.long;
                few = omega (arith, S.few);
                worked = omega (arith, S.worked);
                inside = omega arith;
                same = (
                  m + 1,
                  joint ∷ p.rest,
                  (omega arith, valued_two stored row (done + 1) k p.left p.right _ _ r p.left_value p.right_value settled, stacked_more stored row (done + 1) stack (n - 1 - 1) p.rest p.below),
                  record {
                    form = λ d. next_form (omega arith) (joint ∷ p.rest) (at + 1) (goes d);
                    numbers = λ d. next_numbers (omega arith) there ∙ ap (λ x. numbers_stop (length row) b (64 - (m + 1)) x) (let g : at + 1 + body_of k ≡ at + 1 = omega (arith, body) in g);
                    least = omega (arith, so_far.least);
                    most = omega (arith, so_far.most);
                    nodes = omega (arith, so_far.nodes);
                  },
                );
              }

  -- ---- the end of the bytes
  pub run_end : length b ≤ at → (r : ℕ) → IsWhole n done top r → Ran b row stored r
  unfolding Stacked Topped total
  run_end h r W = by s held so_far.nodes (so_far.form W.few ∙ parse_end Bound used b (64 - m) at s h)
    where
      by : (u : List (Tree ℕ)) → Topped stored row stack top (done + 1) n u → total u ≡ m → parsed Bound used b ≡ finish u at → Ran b row stored r
      by [] d c p = absurd (let o = W.one in let z : ⊥ = omega arith in z)
      by (t ∷ []) d c p =
          let o = W.one in
          let v : Valued stored row (done + 1) t r = subst (Valued stored row (done + 1) t) (sym W.same) d.1 in
          record {
            tree = t;
            form = p;
            numbers = so_far.numbers W.few ∙ numbers_end (length row) b (64 - m) at h;
            more = omega (arith, so_far.least, W.some);
            means = v.means;
            fine = v.fine;
            plain = λ x. W.plain (ap kind_of (sym W.same) ∙ x);
          }
      by (t ∷ (u ∷ s)) d c p = absurd (let o = W.one in let z : ⊥ = omega (arith, d.2.0) in z)
