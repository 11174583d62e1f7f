-- The scan's loop: its invariant, and what each way out of it says. Assumes nothing.
use mathlib.Core.Path.{◌≡◌, refl, ap, ◌∙◌}
use mathlib.Core.List.{List, [], ◌∷◌}
use Prim.Native.Nat.{ℕ, zero, suc, ◌+◌, ◌-◌, ◌≤◌, ◌<◌}
use native.Mathlib.Omega.{arith}
use native.Mathlib.Nat.{pos_of_ne-zero}
use lib.Arith.{lt_of_le-ne}
use lib.ListN.{length, get_or, set, length-set}
use lib.Seq.{get_or-set_same, get_or-set_other}
use borrow.Author.Tests.{lt-ltb, le-ltb}
use borrow.Author.Count.{below_more}
use Rattle.conditions.specs.Ast.{Tree, height, size}
use Rattle.forms.specs.Form.{refusal, stop, node_at, finish, follow, parse, parsed}
use Rattle.refusals.specs.Told.{told}
use Rattle.refusals.specs.declared.Refusal.{Refusal}
use Rattle.nodes.specs.Kind.{leaf_word}
use Rattle.nodes.specs.declared.Allowed.{Allowed}
use Rattle.forms.specs.Held.{Held, Marks, StepIs, StepFine, ScanIs}
use Rattle.std.specs.Prelude.{Result, Ok, Err}
use Rattle.forms.specs.declared.Step.{Step}

-- the tables hold the trees of the n nodes that were read so far. The invariant of the loop over the nodes
pub record Scanning (form : Allowed) (used : ℕ) (b nodes starts deeps : List ℕ) (n at : ℕ) : Type 0 where
  pub long : length nodes ≡ 64
  pub few : n ≤ 64
  pub inside : at ≤ length b
  pub origin : n ≡ 0 → at ≡ 0
  pub first : 0 < n → get_or nodes 0 0 ≡ leaf_word b 0 (get_or b 0 0)
  pub marks : Marks starts deeps n
  pub same : (s : List (Tree ℕ)) × Held used nodes starts deeps n s × (parsed form used b ≡ parse form used b (64 - n) at s)

-- before the first node they hold none
pub scan_start : (form : Allowed) (used : ℕ) (b nodes starts deeps : List ℕ) → length nodes ≡ 64 → length starts ≡ 64 → length deeps ≡ 64 → Scanning form used b nodes starts deeps 0 0
unfolding Held
scan_start form used b nodes starts deeps h k l = record {
  long = h;
  few = omega arith;
  inside = omega arith;
  origin = λ z. refl;
  first = λ z. absurd (omega arith);
  marks = record { starts_long = k; deeps_long = l; below = λ i q. absurd (omega arith); shallow = λ i q. absurd (omega arith) };
  same = ([], refl, refl);
}

-- ---- the definition, one node on

-- a node, and then the rest
pub parse_more : (form : Allowed) (used : ℕ) (b : List ℕ) (f at : ℕ) (s : List (Tree ℕ)) → at < length b →
    parse form used b (suc f) at s ≡ follow (node_at form used b at (get_or b at 0) s) at (λ s' next. parse form used b f next s')
unfolding parse
parse_more form used b f at s h = rw (lt-ltb at (length b) h)

-- one node too many
pub parse_full : (form : Allowed) (used : ℕ) (b : List ℕ) (at : ℕ) (s : List (Tree ℕ)) → at < length b → parse form used b 0 at s ≡ refusal 2 at
unfolding parse
parse_full form used b at s h = rw (lt-ltb at (length b) h)

-- the end of the bytes
pub parse_end : (form : Allowed) (used : ℕ) (b : List ℕ) (f at : ℕ) (s : List (Tree ℕ)) → length b ≤ at → parse form used b f at s ≡ finish s at
unfolding parse
parse_end form used b zero at s h = rw (le-ltb at (length b) h)
parse_end form used b (suc f) at s h = rw (le-ltb at (length b) h)

module _ (form : Allowed) (used : ℕ) (b nodes starts deeps : List ℕ) (n at : ℕ) (S : Scanning form used b nodes starts deeps n at) where
  pub scan_full : at < length b → n ≡ 64 → parsed form used b ≡ refusal 2 at
  scan_full h e =
      let q : 64 - n ≡ 0 = omega arith in
      S.same.2 ∙ ap (λ f. parse form used b f at S.same.0) q ∙ parse_full form used b at S.same.0 h

  module _ (h : at < length b) (e : n ≡ 64 → ⊥) where
    small : n < 64
    small = le_ne n 64 S.few e
      where
        le_ne : (a c : ℕ) → a ≤ c → (a ≡ c → ⊥) → a < c
        le_ne a c l f = lt_of_le-ne l f

    pub step_asks : (at < length b) × ((n < 64) × Marks starts deeps n)
    step_asks = (h, (small, S.marks))

    next_is : parsed form used b ≡ follow (node_at form used b at (get_or b at 0) S.same.0) at (λ s' next. parse form used b (64 - (n + 1)) next s')
    next_is =
        let q : 64 - n ≡ suc (64 - (n + 1)) = omega (arith, small) in
        S.same.2 ∙ ap (λ f. parse form used b f at S.same.0) q ∙ parse_more form used b (64 - (n + 1)) at S.same.0 h

    module _ (r : Result Step Refusal) (fine : StepFine at n b r)
        (is : (nodes : List ℕ) (s : List (Tree ℕ)) → length nodes ≡ 64 → Held used nodes starts deeps n s → StepIs used nodes starts deeps n r (node_at form used b at (get_or b at 0) s)) where
      pub scan_refused : (x : Refusal) → r ≡ Err x → parsed form used b ≡ refusal (told x).number (told x).place
      scan_refused x p =
          let m : node_at form used b at (get_or b at 0) S.same.0 ≡ stop (told x).number = rw p at (is nodes S.same.0 S.long S.same.1) in
          let f : (told x).place ≡ at = rw p at fine in
          next_is ∙ rw (m, f)

      module _ (w a d next : ℕ) (p : r ≡ Ok (record { word = w; start = a; deep = d; next = next })) where
        goes : (a ≤ n) × (d ≤ 16) × (at < next) × (next ≤ length b) × (n ≡ 0 → w ≡ leaf_word b at (get_or b at 0))
        goes = rw p at fine

        -- the first word is the first leaf's: it is stored now, or was before
        first_word : get_or (set nodes n w) 0 0 ≡ leaf_word b 0 (get_or b 0 0)
        first_word = by n refl
          where
            by : (m : ℕ) → n ≡ m → get_or (set nodes n w) 0 0 ≡ leaf_word b 0 (get_or b 0 0)
            by zero z =
                let a = S.origin z in
                ap (λ i. get_or (set nodes i w) 0 0) z ∙ get_or-set_same nodes 0 w 0 (omega (arith, S.long)) ∙ goes.4 z ∙ ap (λ i. leaf_word b i (get_or b i 0)) a
            by (suc m) z = get_or-set_other nodes n 0 w 0 (omega arith) ∙ S.first (omega arith)

        pub scan_more : Scanning form used b (set nodes n w) (set starts n a) (set deeps n d) (n + 1) next
        scan_more = record {
          long = simp length-set S.long;
          few = omega (arith, small);
          inside = goes.3;
          origin = λ z. absurd (omega arith);
          first = λ z. first_word;
          marks = record {
            starts_long = simp length-set S.marks.starts_long;
            deeps_long = simp length-set S.marks.deeps_long;
            below = below_more (λ i. get_or (set starts n a) i 0 ≤ i) n
                (λ i q. rw (get_or-set_other starts n i a 0 (omega arith)) (S.marks.below i q)) (rw (get_or-set_same starts n a 0 (omega (arith, S.marks.starts_long, small))) goes.0);
            shallow = below_more (λ i. get_or (set deeps n d) i 0 ≤ 16) n
                (λ i q. rw (get_or-set_other deeps n i d 0 (omega arith)) (S.marks.shallow i q)) (rw (get_or-set_same deeps n d 0 (omega (arith, S.marks.deeps_long, small))) goes.1);
          };
          same =
              let m : StepIs used nodes starts deeps n (Ok (record { word = w; start = a; deep = d; next = next })) (node_at form used b at (get_or b at 0) S.same.0) = rw p at (is nodes S.same.0 S.long S.same.1) in
              (m.0 ∷ m.1, m.3, next_is ∙ ap (λ y. follow y at (λ s' q. parse form used b (64 - (n + 1)) q s')) m.2);
        }

  -- ---- the end of the bytes
  module _ (h : length b ≤ at) where
    ended : parsed form used b ≡ finish S.same.0 at
    ended = S.same.2 ∙ parse_end form used b (64 - n) at S.same.0 h

    pub scan_none : n ≡ 0 → parsed form used b ≡ refusal 1 at
    scan_none e = ended ∙ by S.same.0 S.same.1
      where
        by : (s : List (Tree ℕ)) → Held used nodes starts deeps n s → finish s at ≡ refusal 1 at
        by [] d = refl
        by (t ∷ s) d = absurd (let z : 0 < n = unfold Held in d.0 in omega arith)

    pub scan_many : (n ≡ 0 → ⊥) → (get_or starts (n - 1) 0 ≡ 0 → ⊥) → parsed form used b ≡ refusal 1 at
    scan_many e f = ended ∙ by S.same.0 S.same.1
      where
        by : (s : List (Tree ℕ)) → Held used nodes starts deeps n s → finish s at ≡ refusal 1 at
        by [] d = refl
        by (t ∷ []) d = absurd (f (unfold Held in d.4))
        by (t ∷ (u ∷ s)) d = refl

    pub scan_one : (n ≡ 0 → ⊥) → get_or starts (n - 1) 0 ≡ 0 → ScanIs used b nodes (Ok n) (parsed form used b)
    scan_one e f = by S.same.0 S.same.1 ended
      where
        by : (s : List (Tree ℕ)) → Held used nodes starts deeps n s → parsed form used b ≡ finish s at → ScanIs used b nodes (Ok n) (parsed form used b)
        by [] d q = absurd (e (unfold Held in d))
        by (t ∷ []) d q =
            let z : 0 < n = pos_of_ne-zero e in
            let u : get_or starts (n - 1) 0 + size t ≡ n = unfold Held in d.1 in
            let v : get_or deeps (n - 1) 0 ≡ height t = unfold Held in d.2 in
            (t, q, z, omega arith, S.few, omega (arith, S.marks.shallow (n - 1) (omega arith)), unfold Held in d.3, S.first z)
        by (t ∷ (u ∷ s)) d q = absurd (let z : 0 < get_or starts (n - 1) 0 = unfold Held in d.4.0 in omega arith)
