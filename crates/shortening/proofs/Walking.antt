-- The laws of the walk over the table of nodes: what a tree asks of its operands, and how folded operands make the folded tree. Assumes nothing.
use mathlib.Core.Path.{◌≡◌, refl, sym, ap, ap₂, subst, ◌∙◌}
use mathlib.Core.List.{List, [], ◌∷◌, ◌++◌, append_assoc}
use Prim.Native.Nat.{ℕ, ◌+◌, ◌-◌, ◌≤◌, ◌<◌}
use native.Mathlib.Omega.{arith}
use lib.ListN.{length, take, get_or, length-append}
use lib.Seq.{length-take-le}
use Rattle.refusals.specs.declared.Refusal.{Refusal}
use Rattle.slices.specs.Splice.{Wrote}
use Rattle.slices.proofs.Splice.{wrote_front}
use Rattle.cells.specs.Cell.{WellFormed, kind_of}
use Rattle.operators.specs.declared.Rules.{Rules}
use Rattle.conditions.specs.Ast.{Tree, leaf}
use Rattle.conditions.specs.Table.{node_of}
use Rattle.conditions.specs.declared.Node.TheVariants.{Leaf, One, Two}
use Rattle.conditions.proofs.Giving.{kept_trans}
use Rattle.forms.specs.Held.{LeafHeld}
use Rattle.forms.proofs.Denoting.{
  OneAt,
  TwoAt,
  leaf_at,
  one_at,
  two_at,
  leaf_size,
  one_size,
  one_height,
  one_joins,
  two_size,
  two_height,
  two_joins,
  right_below,
}
use Rattle.postfix.specs.Postfix.{leaf_bytes, bytes_of, width}
use Rattle.postfix.proofs.Reading.{width_size, leaf_width}
use Rattle.replacing.specs.Fold.{Folding, and_fold, fold, fold_one, fold_two}
use Rattle.replacing.specs.Walk.{AllHeld, root, Rooted, Stored, Stands, StandTwo, Says, TwoAsks, FoldAsks, Gives}
use Rattle.shortening.proofs.Growing.{Grown, grown, held_higher}
use Rattle.replacing.proofs.Standing.{root_well}
use Rattle.std.specs.Prelude.{Result, Ok, Err}
use Rattle.replacing.specs.declared.Folded.{Folded}

-- ---- the walk

-- a refusal is handed on
handed_on_lem : (front : List ℕ) (n m top : ℕ) (before after out : List ℕ) (r : Result Folded Refusal) (x : Refusal) (f : Folding) (g : Tree ℕ → List ℕ → Folding) → r ≡ Err x
    → Gives front n top before after out r f → Gives front m top before after out r (and_fold f g)
handed_on_lem front n m top before after out r x f g e h =
    let s : Says front n after out (Err x) f = subst (λ y. Says front n after out y f) e h.says in
    record { kept = h.kept; says = subst (λ y. Says front m after out y (and_fold f g)) (sym e) (ap (λ y. and_fold y g) s) }

module _ {R : Rules} {used top depth k at end : ℕ} {nodes text out : List ℕ} {t : Tree ℕ} (A : FoldAsks R used top depth k at end nodes text out t) where
  abbrev pub s₀ : List ℕ
  s₀ = take top text

  abbrev pub front : List ℕ
  front = take end out

  long : top ≡ length s₀
  long = sym (length-take-le top text (omega (arith, A.room)))

  pub ahead : end ≡ length front
  ahead = sym (length-take-le end out (omega (arith, A.space)))

  -- a leaf
  module _ {w : ℕ} (e : node_of (get_or nodes k 0) ≡ Leaf w) where
    -- the tree is the leaf
    is_leaf : (t ≡ leaf w) × LeafHeld used w
    is_leaf = leaf_at used k nodes t w A.denotes e

    -- there is space for its bytes
    pub leaf_space : end + length (leaf_bytes w) ≤ length out
    leaf_space = omega (arith, leaf_size is_leaf.0, A.space, leaf_width w)

    -- a leaf is folded already
    pub leaf_gives : (after : ℕ) (out' : List ℕ) → Wrote out end (leaf_bytes w) after out' → Gives front (at + width t) top text text out' (Ok (record { word = w; end = after; top = top; next = at + (after - end) })) (fold R at t s₀)
    unfolding fold bytes_of AllHeld
    leaf_gives after out' wr = record {
      kept = refl;
      says = rw is_leaf.0 (
        leaf w,
        s₀,
        refl,
        record {
          last = refl;
          rooted = tt;
          held = held_higher used (length s₀) (leaf w) (omega (arith, A.marks, long)) is_leaf.1;
          place = wr.place ∙ ap (λ n. n + length (leaf_bytes w)) ahead;
          bytes = wrote_front wr;
        },
        record { long = long; below = refl },
        (let z : after ≡ end + length (leaf_bytes w) = wr.place in omega arith),
      );
    }

  -- a unary operator
  module _ {op : ℕ} (e : node_of (get_or nodes k 0) ≡ One op) where
    abbrev pub one : OneAt used k nodes op t
    one = one_at used k nodes t op A.denotes e

    abbrev pub a : Tree ℕ
    a = one.only

    pub one_below : 0 < k
    one_below = one.below

    pub one_asks : FoldAsks R used top (depth - 1) (k - 1) at end nodes text out a
    one_asks = record {
      marks = A.marks;
      short = A.short;
      small = A.small;
      denotes = one.denotes;
      deep = omega (arith, one_height one, A.deep);
      inside = omega (arith, A.inside);
      room = omega (arith, A.room, one_joins one);
      space = omega (arith, A.space, one_size one);
      early = omega (arith, A.early, one_size one);
    }

    one_fold : fold R at t s₀ ≡ and_fold (fold R at a s₀) (λ x s. fold_one R (at + width a) op x s)
    unfolding fold
    one_fold = ap (λ y. fold R at y s₀) one.whole

    -- the operand was folded, or refused
    module _ {text₁ out₁ : List ℕ} {r : Result Folded Refusal}
        (f : (v : ℕ) (y : Tree ℕ) → FoldAsks R v top (depth - 1) (k - 1) at end nodes text out y → Gives front (at + width y) top text text₁ out₁ r (fold R at y s₀)) where
      gave : Gives front (at + width a) top text text₁ out₁ r (fold R at a s₀)
      gave = f used a one_asks

      pub one_refused : (x : Refusal) → r ≡ Err x → Gives front (at + width t) top text text₁ out₁ r (fold R at t s₀)
      one_refused x p = subst (λ f. Gives front (at + width t) top text text₁ out₁ r f) (sym one_fold) (handed_on_lem front _ _ top text text₁ out₁ r x _ _ p gave)

      module _ {word after u place : ℕ} (p : r ≡ Ok (record { word = word; end = after; top = u; next = place })) (keep : length out₁ ≡ length out) where
        said : Says front (at + width a) text₁ out₁ (Ok (record { word = word; end = after; top = u; next = place })) (fold R at a s₀)
        said = subst (λ y. Says front (at + width a) text₁ out₁ y (fold R at a s₀)) p gave.says

        grew : Grown a s₀ said.0 said.1
        grew = grown R A.short at a said.0 s₀ said.1 said.2

        after_is : after ≡ end + width said.0
        after_is = said.3.place ∙ ap (λ n. n + width said.0) (sym ahead)

        pub one_requires : ((16 ≤ op) × (op < 19)) × (end + 7 ≤ length out₁) × (after < length out₁) × (place < 448)
        one_requires = (
          one.known,
          omega (arith, A.space, one_size one, keep),
          omega (arith, A.space, one_size one, keep, after_is, width_size said.0, grew.small),
          omega (arith, A.early, one_size one, said.5, width_size a),
        )

        small_text : length said.1 ≤ 65536
        small_text = omega (arith, grew.few, long, A.room, A.small, one_joins one)

        pub one_gives : (q : Result Folded Refusal) (out₂ : List ℕ)
            → ((x : Tree ℕ) (s text front : List ℕ) → Stands front x s word after out₁ → Stored text s u → length s ≤ 65536 → end ≡ length front → Says front (place + 1) text out₂ q (fold_one R place op x s))
            → Gives front (at + width t) top text text₁ out₂ q (fold R at t s₀)
        unfolding bytes_of
        one_gives q out₂ h =
            let w : at + width t ≡ place + 1 = ap (λ y. at + width y) one.whole ∙ ap (λ n. at + n) (length-append (bytes_of a) (op ∷ [])) ∙ (let z : place ≡ at + width a = said.5 in omega arith) in
            let f : fold R at t s₀ ≡ fold_one R place op said.0 said.1 = one_fold ∙ ap (λ y. and_fold y (λ x s. fold_one R (at + width a) op x s)) said.2 ∙ ap (λ n. fold_one R n op said.0 said.1) (sym said.5) in
            record { kept = gave.kept; says = rw (w, f) (h said.0 said.1 text₁ front said.3 said.4 small_text ahead) }

  -- a two-sided operator
  module _ {op l : ℕ} (e : node_of (get_or nodes k 0) ≡ Two op l) where
    abbrev pub two : TwoAt used k nodes op l t
    two = two_at used k nodes t op l A.denotes e

    abbrev pub aₗ : Tree ℕ
    aₗ = two.left

    abbrev pub aᵣ : Tree ℕ
    aᵣ = two.right

    pub two_below : 0 < k
    two_below = right_below two

    pub left_asks : FoldAsks R used top (depth - 1) l at end nodes text out aₗ
    left_asks = record {
      marks = A.marks;
      short = A.short;
      small = A.small;
      denotes = two.left_denotes;
      deep = omega (arith, two_height two, A.deep);
      inside = omega (arith, A.inside, two.below);
      room = omega (arith, A.room, two_joins two);
      space = omega (arith, A.space, two_size two);
      early = omega (arith, A.early, two_size two);
    }

    two_fold : fold R at t s₀ ≡ and_fold (fold R at aₗ s₀) (λ x s. and_fold (fold R (at + width aₗ) aᵣ s) (λ y s'. fold_two R (at + width aₗ + width aᵣ) op x y s'))
    unfolding fold
    two_fold = ap (λ y. fold R at y s₀) two.whole

    -- the left operand was folded, or refused
    module _ {text₁ out₁ : List ℕ} {r : Result Folded Refusal}
        (f : (v : ℕ) (y : Tree ℕ) → FoldAsks R v top (depth - 1) l at end nodes text out y → Gives front (at + width y) top text text₁ out₁ r (fold R at y s₀)) where
      left_gave : Gives front (at + width aₗ) top text text₁ out₁ r (fold R at aₗ s₀)
      left_gave = f used aₗ left_asks

      pub left_refused : (x : Refusal) → r ≡ Err x → Gives front (at + width t) top text text₁ out₁ r (fold R at t s₀)
      left_refused x p = subst (λ f. Gives front (at + width t) top text text₁ out₁ r f) (sym two_fold) (handed_on_lem front _ _ top text text₁ out₁ r x _ _ p left_gave)

      module _ {left middle u next : ℕ} (p : r ≡ Ok (record { word = left; end = middle; top = u; next = next })) (keep : length out₁ ≡ length out) (keep-text : length text₁ ≡ length text) where
        left_said : Says front (at + width aₗ) text₁ out₁ (Ok (record { word = left; end = middle; top = u; next = next })) (fold R at aₗ s₀)
        left_said = subst (λ y. Says front (at + width aₗ) text₁ out₁ y (fold R at aₗ s₀)) p left_gave.says

        left_grew : Grown aₗ s₀ left_said.0 left_said.1
        left_grew = grown R A.short at aₗ left_said.0 s₀ left_said.1 left_said.2

        middle_is : middle ≡ end + width left_said.0
        middle_is = left_said.3.place ∙ ap (λ n. n + width left_said.0) (sym ahead)

        rises : top ≤ u
        rises = omega (arith, long, left_said.4.long, left_grew.more.longer)

        pub right_asks : FoldAsks R used u (depth - 1) (k - 1) next middle nodes text₁ out₁ aᵣ
        right_asks = record {
          marks = omega (arith, A.marks, rises);
          short = A.short;
          small = omega (arith, A.small, keep-text);
          denotes = two.right_denotes;
          deep = omega (arith, two_height two, A.deep);
          inside = omega (arith, A.inside);
          room = omega (arith, A.room, two_joins two, left_grew.few, long, left_said.4.long, keep-text);
          space = omega (arith, A.space, two_size two, middle_is, width_size left_said.0, left_grew.small, keep);
          early = omega (arith, A.early, two_size two, left_said.5, width_size aₗ);
        }

        -- the right operand was folded, or refused
        module _ {text₂ out₂ : List ℕ} {r₂ : Result Folded Refusal}
            (f₂ : (n : ℕ) (y : Tree ℕ) → FoldAsks R n u (depth - 1) (k - 1) next middle nodes text₁ out₁ y → Gives (take middle out₁) (next + width y) u text₁ text₂ out₂ r₂ (fold R next y (take u text₁))) where
          right_gave : Gives (take middle out₁) (next + width aᵣ) u text₁ text₂ out₂ r₂ (fold R next aᵣ (take u text₁))
          right_gave = f₂ used aᵣ right_asks

          kept_both : take top text₂ ≡ take top text
          kept_both = kept_trans text text₁ text₂ top u rises left_gave.kept right_gave.kept

          -- the right operand's folding, as the definition has it
          right_fold : fold R next aᵣ (take u text₁) ≡ fold R (at + width aₗ) aᵣ left_said.1
          right_fold = ap₂ (λ n s. fold R n aᵣ s) left_said.5 left_said.4.below

          both_fold : (f : Folding) → fold R next aᵣ (take u text₁) ≡ f → fold R at t s₀ ≡ and_fold f (λ y s'. fold_two R (at + width aₗ + width aᵣ) op left_said.0 y s')
          both_fold f q =
              two_fold ∙ ap (λ y. and_fold y (λ x s. and_fold (fold R (at + width aₗ) aᵣ s) (λ y s'. fold_two R (at + width aₗ + width aᵣ) op x y s'))) left_said.2
              ∙ ap (λ y. and_fold y (λ y s'. fold_two R (at + width aₗ + width aᵣ) op left_said.0 y s')) (sym right_fold ∙ q)

          pub right_refused : (x : Refusal) → r₂ ≡ Err x → Gives front (at + width t) top text text₂ out₂ r₂ (fold R at t s₀)
          right_refused x q =
              let s : Says (take middle out₁) (next + width aᵣ) text₂ out₂ (Err x) (fold R next aᵣ (take u text₁)) = subst (λ y. Says (take middle out₁) (next + width aᵣ) text₂ out₂ y (fold R next aᵣ (take u text₁))) q right_gave.says in
              record { kept = kept_both; says = subst (λ y. Says front (at + width t) text₂ out₂ y (fold R at t s₀)) (sym q) (both_fold _ s) }

          module _ {right after v place : ℕ} (q : r₂ ≡ Ok (record { word = right; end = after; top = v; next = place })) (keep₂ : length out₂ ≡ length out₁) (keep-text₂ : length text₂ ≡ length text₁) where
            right_said : Says (take middle out₁) (next + width aᵣ) text₂ out₂ (Ok (record { word = right; end = after; top = v; next = place })) (fold R next aᵣ (take u text₁))
            right_said = subst (λ y. Says (take middle out₁) (next + width aᵣ) text₂ out₂ y (fold R next aᵣ (take u text₁))) q right_gave.says

            right_grew : Grown aᵣ (take u text₁) right_said.0 right_said.1
            right_grew = grown R A.short next aᵣ right_said.0 (take u text₁) right_said.1 right_said.2

            stored_is : length (take u text₁) ≡ u
            stored_is = ap length left_said.4.below ∙ sym left_said.4.long

            middle_long : length (take middle out₁) ≡ middle
            middle_long = length-take-le middle out₁ (omega (arith, right_asks.space))

            end_is : after ≡ middle + width right_said.0
            end_is = right_said.3.place ∙ ap (λ n. n + width right_said.0) middle_long

            rises_more : u ≤ v
            rises_more = omega (arith, stored_is, right_said.4.long, right_grew.more.longer)

            standing : StandTwo front left_said.0 right_said.0 right_said.1 left right after out₂
            standing = record {
              left_last = left_said.3.last;
              left_rooted = left_said.3.rooted;
              left_held = held_higher (length left_said.1) (length right_said.1) left_said.0 (omega (arith, left_said.4.long, right_said.4.long, rises_more)) left_said.3.held;
              right_last = right_said.3.last;
              right_rooted = right_said.3.rooted;
              right_held = right_said.3.held;
              place = omega (arith, end_is, middle_is, ahead);
              bytes = right_said.3.bytes ∙ ap (λ y. y ++ bytes_of right_said.0) left_said.3.bytes ∙ append_assoc front (bytes_of left_said.0) (bytes_of right_said.0);
            }

            pub two_asks : TwoAsks R op left right v place end after (length text₂) (length out₂)
            two_asks = record {
              known = two.known;
              room = record {
                above = omega (arith, A.short, A.room, two_joins two, left_grew.few, right_grew.few, long, left_said.4.long, right_said.4.long, stored_is, keep-text, keep-text₂);
                short = A.short;
                small = omega (arith, A.small, keep-text, keep-text₂);
              };
              left_well = λ h. well left_said.0 left standing.left_last standing.left_rooted h standing.left_held;
              right_well = λ h. well right_said.0 right standing.right_last standing.right_rooted h standing.right_held;
              start_space = omega (arith, A.space, two_size two, keep, keep₂);
              end_space = omega (arith, A.space, two_size two, keep, keep₂, end_is, middle_is, width_size left_said.0, left_grew.small, width_size right_said.0, right_grew.small);
              early = omega (arith, A.early, two_size two, left_said.5, right_said.5, width_size aₗ, width_size aᵣ);
            }
              where
                well : (x : Tree ℕ) (w : ℕ) → w ≡ root x → Rooted x → kind_of w < 3 → AllHeld (length right_said.1) x → WellFormed v w
                well x w m o h d = subst (λ n. WellFormed n w) (sym right_said.4.long) (subst (WellFormed (length right_said.1)) (sym m) (root_well (length right_said.1) x o (subst (λ y. kind_of y < 3) m h) d))

            pub two_gives : (z : Result Folded Refusal) (text₃ out₃ : List ℕ)
                → ((x y : Tree ℕ) (s front : List ℕ) → StandTwo front x y s left right after out₂ → Stored text₂ s v → end ≡ length front → Gives front (place + 1) v text₂ text₃ out₃ z (fold_two R place op x y s))
                → Gives front (at + width t) top text text₃ out₃ z (fold R at t s₀)
            unfolding bytes_of
            two_gives z text₃ out₃ h =
                let i = h left_said.0 right_said.0 right_said.1 front standing right_said.4 ahead in
                let n : at + width aₗ + width aᵣ ≡ place = (let y : place ≡ next + width aᵣ = right_said.5 in let w : next ≡ at + width aₗ = left_said.5 in omega arith) in
                let w : at + width t ≡ place + 1 = ap (λ y. at + width y) two.whole ∙ ap (λ n. at + n) (length-append (bytes_of aₗ) (bytes_of aᵣ ++ (op ∷ [])) ∙ ap (λ n. width aₗ + n) (length-append (bytes_of aᵣ) (op ∷ []))) ∙ omega arith in
                let f : fold R at t s₀ ≡ fold_two R place op left_said.0 right_said.0 right_said.1 = both_fold _ right_said.2 ∙ ap (λ m. fold_two R m op left_said.0 right_said.0 right_said.1) n in
                record {
                  kept = kept_trans text text₂ text₃ top v (omega (arith, rises, rises_more)) kept_both i.kept;
                  says = rw (w, f) i.says;
                }
