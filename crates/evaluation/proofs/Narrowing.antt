-- A bound condition whose numbers are columns': its tree has no named column, and each number is below the width. Assumes nothing.
use mathlib.Core.Path.{◌≡◌, refl, sym, ◌∙◌}
use mathlib.Core.Bool.{Bool, true, false, not, cond}
use mathlib.Core.List.{List, [], ◌∷◌}
use Prim.Native.Nat.{ℕ, zero, suc, ◌+◌, ◌*◌, ◌^◌, ◌/◌, ◌%◌, ◌<◌}
use native.Mathlib.Omega.{arith}
use lib.ListN.{length, get_or}
use lib.Dec.{ltb, leb, eqb}
use borrow.Author.Tests.{eq-eqb, ne_eqb, leb-false, ltb-true}
use Rattle.refusals.specs.Stop.{never, stop_if, or_else}
use Rattle.refusals.proofs.First.{never_both, not_stopped}
use Rattle.refusals.proofs.Bools.{true_false}
use Rattle.slices.specs.Bytes.{both}
use Rattle.slices.proofs.Both.{both_true}
use Rattle.conditions.specs.Ast.{Tree, leaf, unary, binary, height}
use Rattle.nodes.specs.Kind.{known, allows, is_kind, body_of, leaf_word, text_fits, two, four}
use Rattle.nodes.specs.declared.Allowed.TheVariants.{Bound}
use Rattle.nodes.proofs.Bodies.{known_leaf}
use Rattle.nodes.proofs.Numbers.{two_small, four_small}
use Rattle.forms.specs.Form.{tree, refusal, Move, go, stop as halt, pushed, on_one, on_two, node_at, finish, follow, parse}
use Rattle.forms.specs.Number.{is_missing, numbers_stop}

-- every column is below the width, and none stands by its name
unfoldable pub Narrow : ℕ → Tree ℕ → Type 0
Narrow width (leaf w) = cond (eqb (w / 2 ^ 56) 4) (w % 2 ^ 56 < width) (cond (eqb (w / 2 ^ 56) 3) ⊥ (Unit {0}))
Narrow width (unary op a) = Narrow width a
Narrow width (binary op a b) = Narrow width a × Narrow width b

-- the same of every tree of a stack
unfoldable pub AllNarrow : ℕ → List (Tree ℕ) → Type 0
AllNarrow width [] = Unit {0}
AllNarrow width (t ∷ s) = Narrow width t × AllNarrow width s

module _ (width used at : ℕ) (b : List ℕ) (B : (i : ℕ) → get_or b i 0 < 256) where
  literal_narrow : (w : ℕ) → (w / 2 ^ 56 ≡ 4 → ⊥) → (w / 2 ^ 56 ≡ 3 → ⊥) → Narrow width (leaf w)
  unfolding Narrow
  literal_narrow w n m = rw (ne_eqb (w / 2 ^ 56) 4 n, ne_eqb (w / 2 ^ 56) 3 m) tt

  column_narrow : (w : ℕ) → w / 2 ^ 56 ≡ 4 → w % 2 ^ 56 < width → Narrow width (leaf w)
  unfolding Narrow
  column_narrow w e h = rw (eq-eqb (w / 2 ^ 56) 4 e) h

  -- a leaf of a bound condition
  leaf_narrow : (k : ℕ) → k < 5 → (k ≡ 3 → ⊥) → (k ≡ 4 → get_or b (at + 1) 0 < width) → Narrow width (leaf (leaf_word b at k))
  unfolding leaf_word
  leaf_narrow zero l n h = literal_narrow 0 (λ e. omega arith) (λ e. omega arith)
  leaf_narrow (suc zero) l n h =
      let w : 1 * 2 ^ 56 + four b (at + 1) < 2 * 2 ^ 56 = omega (arith, four_small b B (at + 1)) in
      literal_narrow (1 * 2 ^ 56 + four b (at + 1)) (λ e. omega arith) (λ e. omega arith)
  leaf_narrow (suc (suc zero)) l n h =
      let w : 2 * 2 ^ 56 + (four b (at + 1) * 65536 + two b (at + 5)) < 3 * 2 ^ 56 = omega (arith, four_small b B (at + 1), two_small b B (at + 5)) in
      literal_narrow (2 * 2 ^ 56 + (four b (at + 1) * 65536 + two b (at + 5))) (λ e. omega arith) (λ e. omega arith)
  leaf_narrow (suc (suc (suc zero))) l n h = absurd (n refl)
  leaf_narrow (suc (suc (suc (suc zero)))) l n h =
      let x : ℕ = get_or b (at + 1) 0 in
      column_narrow (4 * 2 ^ 56 + get_or b (at + 1) 0) (omega (arith, B (at + 1)))
      (let q : (4 * 2 ^ 56 + get_or b (at + 1) 0) % 2 ^ 56 ≡ get_or b (at + 1) 0 = omega (arith, B (at + 1)) in rw q (h refl))
  leaf_narrow (suc (suc (suc (suc (suc m))))) l n h = absurd (let z : ⊥ = omega arith in z)

  -- what a move leaves on the stack, and where it goes on
  pub record Moved (k : ℕ) (m : Move) : Type 0 where
    pub stays : (s : List (Tree ℕ)) (next : ℕ) → m ≡ go s next → AllNarrow width s × (next ≡ at + 1 + body_of k)

  halted : (k n : ℕ) → Moved k (halt n)
  halted k n = record { stays = λ s next e. absurd (let z : ◌≡◌ {A = ℕ} 0 1 = cc in omega arith) }

  gone : (k : ℕ) (s : List (Tree ℕ)) → AllNarrow width s → Moved k (go s (at + 1 + body_of k))
  gone k s h =
      record {
        stays = λ t next e.
            let p : s ≡ t = cc in
            let q : at + 1 + body_of k ≡ next = cc in
            (rw (← p) h, sym q);
      }

  moved_cond : (x : Bool) (k : ℕ) {m n : Move} → Moved k m → Moved k n → Moved k (cond x m n)
  moved_cond true k h l = h
  moved_cond false k h l = l

  moved_pushed : (k : ℕ) (t : Tree ℕ) (s : List (Tree ℕ)) → Narrow width t → AllNarrow width s → Moved k (pushed t s (at + 1 + body_of k))
  unfolding AllNarrow
  moved_pushed k t s h l = moved_cond (leb (height t) 16) k (gone k (t ∷ s) (h, l)) (halted k 2)

  moved_one : (k : ℕ) (s : List (Tree ℕ)) → AllNarrow width s → Moved k (on_one k s (at + 1 + body_of k))
  unfolding AllNarrow Narrow
  moved_one k [] h = halted k 1
  moved_one k (a ∷ s) h = moved_pushed k (unary k a) s h.0 h.1

  moved_two : (k : ℕ) (s : List (Tree ℕ)) → AllNarrow width s → Moved k (on_two k s (at + 1 + body_of k))
  unfolding AllNarrow Narrow
  moved_two k [] h = halted k 1
  moved_two k (b ∷ []) h = halted k 1
  moved_two k (b ∷ (a ∷ s)) h = moved_pushed k (binary k a b) s (h.1.0, h.0) h.1.1

  moved_node : (k : ℕ) (s : List (Tree ℕ)) → (k ≡ 4 → get_or b (at + 1) 0 < width) → AllNarrow width s → Moved k (node_at Bound used b at k s)
  unfolding node_at AllNarrow
  moved_node k s h l = by (known Bound k) refl
    where
      bound : known Bound k ≡ true → k ≡ 3 → ⊥
      bound e f = let q : allows Bound k ≡ true = unfold known in (both_true (is_kind k) (allows Bound k) e).1 in let r : not (eqb k 3) ≡ true = q in let g : not true ≡ true = rw (eq-eqb k 3 f) at r in true_false (sym g)

      by : (x : Bool) → known Bound k ≡ x
          → Moved k (cond x (cond (leb (at + 1 + body_of k) (length b))
          (cond (ltb k 16) (cond (text_fits used b at k) (go (leaf (leaf_word b at k) ∷ s) (at + 1 + body_of k)) (halt 3)) (cond (ltb k 32) (on_one k s (at + 1 + body_of k)) (on_two k s (at + 1 + body_of k)))) (halt 1)) (halt 1))
      by false e = halted k 1
      by true e = moved_cond (leb (at + 1 + body_of k) (length b)) k (leafy (ltb k 16) refl) (halted k 1)
        where
          leafy : (y : Bool) → ltb k 16 ≡ y
              → Moved k (cond y (cond (text_fits used b at k) (go (leaf (leaf_word b at k) ∷ s) (at + 1 + body_of k)) (halt 3)) (cond (ltb k 32) (on_one k s (at + 1 + body_of k)) (on_two k s (at + 1 + body_of k))))
          leafy true f = moved_cond (text_fits used b at k) k (gone k (leaf (leaf_word b at k) ∷ s) (leaf_narrow k (known_leaf Bound k e (ltb-true k 16 f)) (bound e) h, l)) (halted k 3)
          leafy false f = moved_cond (ltb k 32) k (moved_one k s l) (moved_two k s l)

-- the whole
finish_narrow : (width : ℕ) (s : List (Tree ℕ)) (at : ℕ) (t : Tree ℕ) → AllNarrow width s → finish s at ≡ tree t → Narrow width t
unfolding AllNarrow
finish_narrow width [] at t h e = absurd (let z : ◌≡◌ {A = ℕ} 0 1 = cc in omega arith)
finish_narrow width (u ∷ []) at t h e = let q : u ≡ t = cc in rw (← q) h.0
finish_narrow width (u ∷ (v ∷ s)) at t h e = absurd (let z : ◌≡◌ {A = ℕ} 0 1 = cc in omega arith)

module _ (width used : ℕ) (b : List ℕ) (B : (i : ℕ) → get_or b i 0 < 256) where
  right_number : (at k : ℕ) → get_or b at 0 ≡ k → is_missing width b at ≡ false → k ≡ 4 → get_or b (at + 1) 0 < width
  right_number at k e m f =
      let q : both true (leb width (get_or b (at + 1) 0)) ≡ false = rw (eq-eqb (get_or b at 0) 4 (e ∙ f)) at m in
      leb-false width (get_or b (at + 1) 0) q

  pub parse_narrow : (f at : ℕ) (s : List (Tree ℕ)) (t : Tree ℕ) → AllNarrow width s → numbers_stop width b f at ≡ never → parse Bound used b f at s ≡ tree t → Narrow width t
  unfolding parse numbers_stop
  parse_narrow zero at s t h n e = by (ltb at (length b)) e
    where
      by : (x : Bool) → cond x (refusal 2 at) (finish s at) ≡ tree t → Narrow width t
      by true e = absurd (let z : ◌≡◌ {A = ℕ} 0 1 = cc in omega arith)
      by false e = finish_narrow width s at t h e
  parse_narrow (suc f) at s t h n e = by (λ next s' a n e. parse_narrow f next s' t a n e) (ltb at (length b)) n e
    where
      Later : Type 0
      Later = (next : ℕ) (s' : List (Tree ℕ)) → AllNarrow width s' → numbers_stop width b f next ≡ never → parse Bound used b f next s' ≡ tree t → Narrow width t

      by : Later → (x : Bool) → cond x (or_else (stop_if (is_missing width b at) 4 at) (numbers_stop width b f (at + 1 + body_of (get_or b at 0)))) never ≡ never
          → cond x (follow (node_at Bound used b at (get_or b at 0) s) at (λ s' next. parse Bound used b f next s')) (finish s at) ≡ tree t → Narrow width t
      by rest false n e = finish_narrow width s at t h e
      by rest true n e = through (node_at Bound used b at (get_or b at 0) s) refl e
        where
          m : is_missing width b at ≡ false
          m = not_stopped (is_missing width b at) 4 at (never_both (stop_if (is_missing width b at) 4 at) _ n).0

          later : numbers_stop width b f (at + 1 + body_of (get_or b at 0)) ≡ never
          later = (never_both (stop_if (is_missing width b at) 4 at) _ n).1

          through : (v : Move) → node_at Bound used b at (get_or b at 0) s ≡ v → follow v at (λ s' next. parse Bound used b f next s') ≡ tree t → Narrow width t
          through (go s' next) q e =
              let p = (moved_node width used at b B (get_or b at 0) s (right_number at (get_or b at 0) refl m) h).stays s' next q in
              rest next s' p.0 (rw p.1 later) e
          through (halt x) q e = absurd (let z : ◌≡◌ {A = ℕ} 0 1 = cc in omega arith)
