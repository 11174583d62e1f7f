-- A bound tree's bytes: they are read again, and none of their numbers is missing. Assumes nothing.
use mathlib.Core.Path.{◌≡◌, refl, sym, ap, ap₂, ◌∙◌}
use mathlib.Core.Bool.{Bool, true, false, cond}
use mathlib.Core.List.{List, [], ◌∷◌, ◌++◌, append-nil}
use Prim.Native.Nat.{ℕ, suc, ◌+◌, ◌-◌, ◌*◌, ◌^◌, ◌/◌, ◌%◌, ◌≤◌, ◌<◌, max}
use native.Mathlib.Omega.{arith}
use lib.ListN.{length, drop, get_or, length-append}
use lib.Dec.{leb, eqb}
use borrow.Author.Tests.{lt-leb, ne_eqb, eqb-true, eqb-false}
use Rattle.refusals.specs.Stop.{never, stop_if}
use Rattle.refusals.proofs.First.{never_both}
use Rattle.slices.specs.Bytes.{both}
use Rattle.cells.specs.Cell.{kind_of}
use Rattle.columns.specs.Column.{Where, nowhere, found, names}
use Rattle.conditions.specs.Ast.{Tree, leaf, unary, binary, map_tree, size, height}
use Rattle.nodes.specs.Kind.{known, is_kind, body_of, leaf_word}
use Rattle.nodes.specs.declared.Allowed.TheVariants.{Named, Bound}
use Rattle.nodes.proofs.Bodies.{known_kind}
use Rattle.postfix.specs.Postfix.{leaf_bytes, bytes_of, width}
use Rattle.postfix.proofs.Leaves.{length_body}
use Rattle.postfix.proofs.Readable.{LeafReadable, Readable, word_by, leaf_readable}
use Rattle.postfix.proofs.Reading.{one_bytes, two_bytes, past}
use Rattle.postfix.proofs.Passing.{here, node_passed, operator_passed}
use Rattle.forms.specs.Number.{is_missing, numbers_stop}
use Rattle.forms.proofs.Numbers.{numbers_end}
use Rattle.evaluation.proofs.Narrowing.{Narrow}
use Rattle.numbering.specs.Number.{column_of, numbered, bind_leaf, is_nowhere, names_stop}
use Rattle.numbering.proofs.Leaves.{first_below, names_length}

-- ---- refusal 4 over the bytes of a tree

module _ (wide used : ℕ) (b : List ℕ) where
  -- a leaf's number is a column's
  leaf_there : (at w : ℕ) (post : List ℕ) → LeafReadable Bound used w → Narrow wide (leaf w) → drop at b ≡ leaf_bytes w ++ post → is_missing wide b at ≡ false
  unfolding Narrow leaf_word
  leaf_there at w post R N e = rw (here wide b at (kind_of w) _ e) (by (eqb (kind_of w) 4) refl N)
    where
      by : (x : Bool) → eqb (kind_of w) 4 ≡ x → cond x (w % 2 ^ 56 < wide) (cond (eqb (kind_of w) 3) ⊥ (Unit {0})) → both x (leb wide (get_or b (at + 1) 0)) ≡ false
      by true q h =
          let k : kind_of w ≡ 4 = eqb-true (kind_of w) 4 q in
          let v : 4 * 2 ^ 56 + get_or b (at + 1) 0 ≡ w = word_by b post at w e Bound used R 4 k in
          lt-leb wide (get_or b (at + 1) 0) (omega arith)
      by false q h = refl

  -- a tree is passed by
  tree_passed : (t : Tree ℕ) → Readable Bound used t → Narrow wide t → (at f : ℕ) (post : List ℕ) → drop at b ≡ bytes_of t ++ post
      → numbers_stop wide b (size t + f) at ≡ numbers_stop wide b f (at + width t)
  unfolding Readable Narrow size bytes_of
  tree_passed (leaf w) R N at f post e =
      let q : 1 + f ≡ suc f = omega arith in
      let p : at + 1 + body_of (kind_of w) ≡ at + length (leaf_bytes w) = omega (arith, length_body w) in
      ap (λ n. numbers_stop wide b n at) q ∙ node_passed wide b at (kind_of w) f _ e (leaf_there at w post R N e) ∙ ap (numbers_stop wide b f) p
  tree_passed (unary op a) R N at f post e =
      let d : drop at b ≡ bytes_of a ++ (op ∷ post) = e ∙ one_bytes op a post in
      let q : size a + 1 + f ≡ size a + suc f = omega arith in
      let p : at + width a + 1 ≡ at + length (bytes_of a ++ (op ∷ [])) = omega (arith, length-append (bytes_of a) (op ∷ [])) in
      ap (λ n. numbers_stop wide b n at) q
      ∙ tree_passed a R.3 N at (suc f) (op ∷ post) d
      ∙ operator_passed wide b (at + width a) op f post R.1 (past b at (bytes_of a) (op ∷ post) d)
      ∙ ap (numbers_stop wide b f) p
  tree_passed (binary op a c) R N at f post e =
      let d : drop at b ≡ bytes_of a ++ (bytes_of c ++ (op ∷ post)) = e ∙ two_bytes op a c post in
      let d' = past b at (bytes_of a) (bytes_of c ++ (op ∷ post)) d in
      let q : size a + size c + 1 + f ≡ size a + (size c + suc f) = omega arith in
      let p : at + width a + width c + 1 ≡ at + length (bytes_of a ++ (bytes_of c ++ (op ∷ []))) =
      omega (arith, length-append (bytes_of a) (bytes_of c ++ (op ∷ [])), length-append (bytes_of c) (op ∷ [])) in
      ap (λ n. numbers_stop wide b n at) q
      ∙ tree_passed a R.2 N.0 at (size c + suc f) (bytes_of c ++ (op ∷ post)) d
      ∙ tree_passed c R.3 N.1 (at + width a) (suc f) (op ∷ post) d'
      ∙ operator_passed wide b (at + width a + width c) op f post (omega (arith, R.1)) (past b (at + width a) (bytes_of c) (op ∷ post) d')
      ∙ ap (numbers_stop wide b f) p

-- no number of a whole tree is missing
pub numbers_never : (wide used : ℕ) (t : Tree ℕ) → Readable Bound used t → Narrow wide t → size t ≤ 64 → numbers_stop wide (bytes_of t) 64 0 ≡ never
numbers_never wide used t R N n =
    let q : 64 ≡ size t + (64 - size t) = omega arith in
    ap (λ f. numbers_stop wide (bytes_of t) f 0) q
    ∙ tree_passed wide used (bytes_of t) t R N 0 (64 - size t) [] (sym (append-nil (bytes_of t)))
    ∙ numbers_end wide (bytes_of t) (64 - size t) (0 + width t) (omega arith)

-- ---- a bound tree

-- as high as the named one
pub height_map : {A B : Type 0} (f : A → B) (t : Tree A) → height (map_tree f t) ≡ height t
unfolding height map_tree
height_map f (leaf x) = refl
height_map f (unary op a) = ap (λ n. n + 1) (height_map f a)
height_map f (binary op a b) = ap₂ (λ m n. max m n + 1) (height_map f a) (height_map f b)

-- any kind of node but a name and a number is known in both forms
known_bound : (k : ℕ) → known Named k ≡ true → (k ≡ 3 → ⊥) → known Bound k ≡ true
unfolding known
known_bound k h n = rw (known_kind Named k h, ne_eqb k 3 n)

-- a named condition has no number
no_number : (k : ℕ) → known Named k ≡ true → k ≡ 4 → ⊥
unfolding known is_kind
no_number k h e = let q : known Named 4 ≡ true = rw e at h in let z : ◌≡◌ {A = ℕ} 0 1 = cc in omega arith

module _ (used wide : ℕ) (stored columns : List ℕ) (few : length columns ≤ 64) (each : wide + wide ≡ length columns) where
  -- a column's number is read in a bound condition
  bound_number : (m : ℕ) → m < wide → LeafReadable Bound used (4 * 2 ^ 56 + m) × Narrow wide (leaf (4 * 2 ^ 56 + m))
  unfolding Narrow known is_kind body_of
  bound_number m h =
      let k : (4 * 2 ^ 56 + m) / 2 ^ 56 ≡ 4 = omega arith in
      let x : (4 * 2 ^ 56 + m) % 2 ^ 56 ≡ m = omega arith in
      (leaf_readable Bound used 4 m (omega arith) refl (omega arith) (λ q. absurd (omega arith)) (λ q. absurd (omega arith)), rw (k, x) h)

  -- so is any leaf of a named one but a name
  bound_other : (w : ℕ) → LeafReadable Named used w → (kind_of w ≡ 3 → ⊥) → LeafReadable Bound used w × Narrow wide (leaf w)
  unfolding Narrow
  bound_other w R n = (
    record { kind = R.kind; allowed = known_bound (kind_of w) R.allowed n; body = R.body; text = R.text; name = R.name },
    rw (ne_eqb (kind_of w) 4 (no_number (kind_of w) R.allowed), ne_eqb (kind_of w) 3 n) tt,
  )

  -- a name gives way to a number, any other leaf stays
  bound_leaf : (at w : ℕ) → LeafReadable Named used w → names_stop stored columns at (leaf w) ≡ never
      → LeafReadable Bound used (bind_leaf stored columns w) × Narrow wide (leaf (bind_leaf stored columns w))
  unfolding names_stop bind_leaf
  bound_leaf at w R n = by (eqb (kind_of w) 3) refl (column_of stored columns w) refl n
    where
      by : (x : Bool) → eqb (kind_of w) 3 ≡ x → (o : Where) → column_of stored columns w ≡ o → stop_if (both x (is_nowhere o)) 4 at ≡ never
          → LeafReadable Bound used (cond x (numbered w o) w) × Narrow wide (leaf (cond x (numbered w o) w))
      by false q o e n = bound_other w R (eqb-false (kind_of w) 3 q)
      by true q nowhere e n = absurd (let z : ◌≡◌ {A = ℕ} 0 1 = cc in omega arith)
      by true q (found m) e n = bound_number m (omega (arith, first_below _ 0 (names stored columns) m e, names_length stored columns))

  -- a bound tree is read in a bound condition, and its numbers are columns'
  pub bound_tree : (at : ℕ) (t : Tree ℕ) → Readable Named used t → names_stop stored columns at t ≡ never
      → Readable Bound used (map_tree (bind_leaf stored columns) t) × Narrow wide (map_tree (bind_leaf stored columns) t)
  unfolding Readable Narrow map_tree names_stop
  bound_tree at (leaf w) R n = bound_leaf at w R n
  bound_tree at (unary op a) R n =
      let h = bound_tree at a R.3 n in
      ((known_bound op R.0 (λ e. omega (arith, R.1)), R.1, R.2, h.0), h.1)
  bound_tree at (binary op a b) R n =
      let m = never_both (names_stop stored columns at a) (names_stop stored columns (at + width a) b) n in
      let h = bound_tree at a R.2 m.0 in
      let k = bound_tree (at + width a) b R.3 m.1 in
      ((known_bound op R.0 (λ e. omega (arith, R.1)), R.1, h.0, k.0), (h.1, k.1))
