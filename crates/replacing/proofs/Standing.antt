-- Folded trees in the output: an operator over them gives way to its value, or is written after them. Assumes nothing.
use mathlib.Core.Path.{◌≡◌, refl, sym, ap, ap₂, subst, ◌∙◌}
use mathlib.Core.Bool.{Bool, true, false}
use mathlib.Core.List.{List, [], ◌∷◌, ◌++◌, append_assoc, append-nil}
use Prim.Native.Nat.{ℕ, suc, ◌+◌, ◌*◌, ◌^◌, ◌/◌, ◌≤◌, ◌<◌}
use native.Mathlib.Omega.{arith}
use lib.ListN.{length, take, set, length-append}
use lib.Seq.{take-take, take_at, take-suc-set}
use lib.Dec.{ltb}
use borrow.Author.Tests.{ne_eqb, le-ltb, lt-ltb}
use Rattle.slices.specs.Splice.{Wrote}
use Rattle.slices.specs.Bytes.{both}
use Rattle.slices.proofs.Splice.{wrote_front, front_splice, take_splice}
use Rattle.slices.proofs.Both.{both_true}
use Rattle.cells.specs.Cell.{WellFormed, kind_of, word_of}
use Rattle.values.specs.Value.{Value, null, int, str, value_of}
use Rattle.integers.specs.Outcome.{Outcome, value, Reply, gave, reply_of, cell_at, rise, placed}
use Rattle.operators.specs.Operator.{unary_of, binary_of, Applied, text_after}
use Rattle.operators.specs.declared.Rules.{Rules}
use Rattle.conditions.specs.Ast.{Tree, leaf, unary, binary}
use Rattle.forms.specs.Held.{LeafHeld}
use Rattle.postfix.specs.Postfix.{leaf_bytes, bytes_of, width}
use Rattle.replacing.specs.Fold.{Folding, folded, is_literal, leaf_word_of, appended, replaced, fold_one, fold_two}
use Rattle.replacing.specs.Walk.{AllHeld, root, Rooted, Literal, Stored, Stands, StandTwo, Says, Becomes, Gives}
use Rattle.replacing.proofs.Literals.{literal_one, literal_two, literal_kind, literal_well, held_literal}
use Rattle.std.specs.Prelude.{Result, Ok}
use Rattle.replacing.specs.declared.Folded.{Folded}
use Rattle.integers.specs.declared.Fault.{Fault}
use Rattle.refusals.specs.declared.Refusal.{Refusal}

-- ---- words of trees

-- a tree is a literal exactly if the kind of its root is below 3
pub literal_root : (x : Tree ℕ) → Rooted x → is_literal x ≡ ltb (kind_of (root x)) 3
literal_root (leaf w) h = refl
literal_root (unary op a) h = sym (le-ltb (op * 2 ^ 56 / 2 ^ 56) 3 (omega arith))
literal_root (binary op a b) h = sym (le-ltb (op * 2 ^ 56 / 2 ^ 56) 3 (omega arith))

-- the word of a literal is that of its root
pub literal_word : (x : Tree ℕ) → is_literal x ≡ true → leaf_word_of x ≡ root x
literal_word (leaf w) e = refl
literal_word (unary op a) e = absurd (let z : ◌≡◌ {A = ℕ} 0 1 = cc in omega arith)
literal_word (binary op a b) e = absurd (let z : ◌≡◌ {A = ℕ} 0 1 = cc in omega arith)

-- a held literal is well formed
held_well : (used w : ℕ) → kind_of w < 3 → LeafHeld used w → WellFormed used w
unfolding LeafHeld
held_well used w h k = rw (ne_eqb (kind_of w) 4 (λ e. omega arith), ne_eqb (kind_of w) 3 (λ e. omega arith)) at k

-- the root of a held tree is well formed where its kind is that of a literal
pub root_well : (used : ℕ) (x : Tree ℕ) → Rooted x → kind_of (root x) < 3 → AllHeld used x → WellFormed used (root x)
unfolding AllHeld
root_well used (leaf w) r h k = held_well used w h k
root_well used (unary op a) r h k = absurd (let z : ⊥ = omega arith in z)
root_well used (binary op a b) r h k = absurd (let z : ⊥ = omega arith in z)

-- ---- the front of the output

-- what stands before the bytes is the front of the output
pub front_kept : (front b out : List ℕ) (end : ℕ) → end ≡ length front + length b → take end out ≡ front ++ b → front ≡ take (length front) out
front_kept front b out end p e = sym (take_at front b (length front) refl) ∙ ap (take (length front)) (sym e) ∙ take-take (length front) end out (omega arith)

-- an operator's byte after what stands there
put_after : (front b out : List ℕ) (end op : ℕ) → end < length out → take end out ≡ front ++ b → take (end + 1) (set out end op) ≡ front ++ (b ++ (op ∷ []))
put_after front b out end op h e =
    let q : end + 1 ≡ suc end = omega arith in
    ap (λ n. take n (set out end op)) q ∙ take-suc-set out end op h ∙ ap (λ l. l ++ (op ∷ [])) e ∙ append_assoc front b (op ∷ [])

-- ---- a value written in place of its operator

rise_appended : (v : Value) → rise v ≡ length (appended v)
rise_appended null = refl
rise_appended (int z) = refl
rise_appended (str b) = refl
rise_appended Value.binary = refl

module _ (s text front : List ℕ) (place start : ℕ) (before after : List ℕ) (st : start ≡ length front) (fr : front ≡ take start before) where
  pub replaced_value : (o : Outcome) (w u end : ℕ) → gave w u ≡ placed (length s) o → Becomes text s o → Wrote before start (leaf_bytes w) end after
      → Says front (place + 1) text after (Ok (record { word = w; end = end; top = u; next = place + 1 })) (replaced place s o)
  unfolding placed bytes_of AllHeld
  replaced_value (value v) w u end e b wr =
      let p : w ≡ word_of (cell_at (length s) v) = cc in
      let q : u ≡ length s + rise v = cc in
      let l : Literal 1024 v = b.literal v refl in
      let n : length (s ++ appended v) ≡ length s + length (appended v) = length-append s (appended v) in
      let g : length s + rise v ≡ length s + length (appended v) = ap (λ x. length s + x) (rise_appended v) in (
        leaf w,
        s ++ appended v,
        ap (λ x. folded (leaf x) (s ++ appended v)) (sym p),
        record {
          last = refl;
          rooted = tt;
          held = rw (n, p) (held_literal _ _ (literal_kind 1024 (length s) (omega arith) b.fits v l) (literal_well 1024 (length s) (omega arith) b.fits v l));
          place = wr.place ∙ ap (λ x. x + length (leaf_bytes w)) st;
          bytes = wrote_front wr ∙ ap (λ x. x ++ leaf_bytes w) (sym fr);
        },
        record { long = q ∙ g ∙ sym n; below = ap (λ x. take x text) (q ∙ g) ∙ b.stored v refl },
        refl,
      )
  replaced_value (Outcome.refused n) w u end e b wr = absurd (let z : ◌≡◌ {A = ℕ} 0 1 = cc in omega arith)

-- an operator's refusal is told by its number and the operator's offset
pub replaced_refused : (s : List ℕ) (place : ℕ) (o : Outcome) (n : ℕ) → Reply.refused n ≡ placed (length s) o → replaced place s o ≡ Folding.refused n place
unfolding placed
replaced_refused s place (value v) n e = absurd (let z : ◌≡◌ {A = ℕ} 0 1 = cc in omega arith)
replaced_refused s place (Outcome.refused m) n e = ap (λ x. Folding.refused x place) (let q : m ≡ n = cc in q)

-- ---- a unary operator

-- what a unary operator gives is no text, so the stored text stays
one_becomes : (R : Rules) (op : ℕ) (s text : List ℕ) (w top : ℕ) → Stored text s top → length s ≤ 65536 → Becomes text s (unary_of R op (value_of s w))
one_becomes R op s text w top T small = record {
  fits = small;
  literal = λ v e. more v (literal_one R op s w v e);
  stored = λ v e. none v (literal_one R op s w v e);
}
  where
    more : (v : Value) → Literal 0 v → Literal 1024 v
    more null h = tt
    more (int z) h = h
    more (str b) h = omega arith
    more Value.binary h = h

    same : take (length s) text ≡ s
    same = ap (λ n. take n text) (sym T.long) ∙ T.below

    empty : (b : List ℕ) → length b ≤ 0 → take (length s + length b) text ≡ s ++ b
    empty [] h = ap (λ n. take n text) (let q : length s + 0 ≡ length s = omega arith in q) ∙ same ∙ sym (append-nil s)
    empty (c ∷ b) h = absurd (let z : ⊥ = omega arith in z)

    none : (v : Value) → Literal 0 v → take (length s + length (appended v)) text ≡ s ++ appended v
    none null h = empty [] (omega arith)
    none (int z) h = empty [] (omega arith)
    none (str b) h = empty b h
    none Value.binary h = absurd h

-- what `replace` says
abbrev pub Replaces : Result (ℕ × ℕ) Fault → ℕ → List ℕ → List ℕ → ℕ → Result Folded Refusal → Type 0
Replaces answer place before after start r =
    (o : Outcome) (s text front : List ℕ) → reply_of answer ≡ placed (length s) o → Becomes text s o → start ≡ length front → front ≡ take start before
    → Says front (place + 1) text after r (replaced place s o)

module _ (R : Rules) (op place start word end top : ℕ) (x : Tree ℕ) (s text front out : List ℕ) (S : Stands front x s word end out) (T : Stored text s top) where
  literal_is : (b : Bool) → ltb (kind_of word) 3 ≡ b → is_literal x ≡ b
  literal_is b e = literal_root x S.rooted ∙ ap (λ w. ltb (kind_of w) 3) (sym S.last) ∙ e

  pub one_literal : kind_of word < 3 → length s ≤ 65536 → (answer : Result (ℕ × ℕ) Fault)
      → ((stored : List ℕ) → WellFormed (length stored) word → reply_of answer ≡ placed top (unary_of R op (value_of stored word)))
      → (r : Result Folded Refusal) (after : List ℕ) → Replaces answer place out after start r → start ≡ length front → Says front (place + 1) text after r (fold_one R place op x s)
  one_literal k small answer f r after g st =
      let l : is_literal x ≡ true = literal_is true (lt-ltb _ _ k) in
      let w : leaf_word_of x ≡ word = literal_word x l ∙ sym S.last in
      let h : WellFormed (length s) word = subst (WellFormed (length s)) (sym S.last) (root_well (length s) x S.rooted (subst (λ y. kind_of y < 3) S.last k) S.held) in
      rw (l, w) (g (unary_of R op (value_of s word)) s text front (f s h ∙ ap (λ n. placed n (unary_of R op (value_of s word))) T.long) (one_becomes R op s text word top T small) st
      (subst (λ n. front ≡ take n out) (sym st) (front_kept front (bytes_of x) out end S.place S.bytes)))

  pub one_kept : 3 ≤ kind_of word → 16 ≤ op → end < length out → Says front (place + 1) text (set out end op) (Ok (record { word = op * 2 ^ 56; end = end + 1; top = top; next = place + 1 })) (fold_one R place op x s)
  unfolding bytes_of AllHeld
  one_kept k known h =
      let l : is_literal x ≡ false = literal_is false (le-ltb _ _ k) in (
        unary op x,
        s,
        rw l,
        record {
          last = refl;
          rooted = known;
          held = S.held;
          place = ap (λ n. n + 1) S.place ∙ (let q : width (unary op x) ≡ width x + 1 = length-append (bytes_of x) (op ∷ []) in omega arith);
          bytes = put_after front (bytes_of x) out end op h S.bytes;
        },
        T,
        refl,
      )

-- ---- a two-sided operator

-- what a two-sided operator gives, its text standing at the old top
two_becomes : (R : Rules) (op : ℕ) (s before after : List ℕ) (v w top : ℕ) (r : Result (ℕ × ℕ) Fault) → R.limit ≤ 1024 → top ≤ length before → Stored before s top → length s ≤ 65536
    → Applied before after top r (binary_of R op (value_of s v) (value_of s w)) → Becomes after s (binary_of R op (value_of s v) (value_of s w))
two_becomes R op s before after v w top r limit long T small A = record {
  fits = small;
  literal = λ x e. more x (literal_two R op s v w x e);
  stored = λ x e. appends x (literal_two R op s v w x e) (A.text ∙ ap (text_after before top) e);
}
  where
    more : (x : Value) → Literal R.limit x → Literal 1024 x
    more null h = tt
    more (int z) h = h
    more (str b) h = omega arith
    more Value.binary h = h

    same : after ≡ before → take (length s + 0) after ≡ s ++ []
    same e = ap₂ take (let q : length s + 0 ≡ top = omega (arith, T.long) in q) e ∙ T.below ∙ sym (append-nil s)

    appends : (x : Value) → Literal R.limit x → after ≡ text_after before top (value x) → take (length s + length (appended x)) after ≡ s ++ appended x
    appends null h e = same e
    appends (int z) h e = same e
    appends (str b) h e = ap₂ take (ap (λ n. n + length b) (sym T.long)) e ∙ front_splice before top b long ∙ ap (λ l. l ++ b) T.below
    appends Value.binary h e = absurd h

-- the text below the top is as it was
pub applied_kept : (before after : List ℕ) (top : ℕ) (r : Result (ℕ × ℕ) Fault) (o : Outcome) → top ≤ length before → Applied before after top r o → take top after ≡ take top before
applied_kept before after top r o h A = ap (take top) A.text ∙ by o
  where
    by : (o : Outcome) → take top (text_after before top o) ≡ take top before
    by (value null) = refl
    by (value (int z)) = refl
    by (value (str b)) = take_splice before top b h
    by (value Value.binary) = refl
    by (Outcome.refused n) = refl

module _ (R : Rules) (op place start left right end top : ℕ) (x y : Tree ℕ) (s before front out : List ℕ) (S : StandTwo front x y s left right end out) (T : Stored before s top) where
  abbrev test : Bool
  test = both (ltb op 47) (both (ltb (kind_of left) 3) (ltb (kind_of right) 3))

  same_test : both (ltb op 47) (both (is_literal x) (is_literal y)) ≡ test
  same_test =
      ap₂ (λ a b. both (ltb op 47) (both a b)) (literal_root x S.left_rooted ∙ ap (λ w. ltb (kind_of w) 3) (sym S.left_last))
      (literal_root y S.right_rooted ∙ ap (λ w. ltb (kind_of w) 3) (sym S.right_last))

  module _ (t : test ≡ true) where
    literals : (is_literal x ≡ true) × (is_literal y ≡ true)
    literals = let p = both_true (ltb op 47) _ (same_test ∙ t) in both_true (is_literal x) (is_literal y) p.1

    words : (leaf_word_of x ≡ left) × (leaf_word_of y ≡ right)
    words = (literal_word x literals.0 ∙ sym S.left_last, literal_word y literals.1 ∙ sym S.right_last)

    pub two_literal : R.limit ≤ 1024 → top ≤ length before → length s ≤ 65536 → (answer : Result (ℕ × ℕ) Fault) (text : List ℕ)
        → Applied before text top answer (binary_of R op (value_of (take top before) left) (value_of (take top before) right))
        → (r : Result Folded Refusal) (after : List ℕ) → Replaces answer place out after start r → start ≡ length front
        → Gives front (place + 1) top before text after r (fold_two R place op x y s)
    two_literal limit long small answer text A r after g st =
        let B : Applied before text top answer (binary_of R op (value_of s left) (value_of s right)) = rw T.below at A in
        record {
          kept = applied_kept before text top answer _ long A;
          says = rw (same_test, t, words.0, words.1)
              (g (binary_of R op (value_of s left) (value_of s right)) s text front (B.reply ∙ ap (λ n. placed n (binary_of R op (value_of s left) (value_of s right))) T.long)
              (two_becomes R op s before text left right top answer limit long T small B) st
              (subst (λ n. front ≡ take n out) (sym st) (front_kept front (bytes_of x ++ bytes_of y) out end (S.place ∙ ap (λ n. length front + n) (sym (length-append (bytes_of x) (bytes_of y)))) S.bytes)));
        }

  pub two_kept : test ≡ false → 16 ≤ op → end < length out → Gives front (place + 1) top before before (set out end op) (Ok (record { word = op * 2 ^ 56; end = end + 1; top = top; next = place + 1 })) (fold_two R place op x y s)
  unfolding bytes_of AllHeld
  two_kept t known h = record {
    kept = refl;
    says = (
      binary op x y,
      s,
      rw (same_test, t),
      record {
        last = refl;
        rooted = known;
        held = (S.left_held, S.right_held);
        place = ap (λ n. n + 1) S.place
            ∙ (let q : width (binary op x y) ≡ width x + (width y + 1) = length-append (bytes_of x) (bytes_of y ++ (op ∷ [])) ∙ ap (λ n. width x + n) (length-append (bytes_of y) (op ∷ [])) in omega arith);
        bytes = put_after front (bytes_of x ++ bytes_of y) out end op h S.bytes ∙ ap (λ l. front ++ l) (append_assoc (bytes_of x) (bytes_of y) (op ∷ []));
      },
      T,
      refl,
    );
  }
