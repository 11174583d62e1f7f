-- What the bound form and refusal 4 say of a readable tree: they look at its columns alone, a name getting 1 and a number that is no column's 4. Assumes nothing.
use mathlib.Core.Path.{◌≡◌, refl, sym, ap, ◌∙◌}
use mathlib.Core.Bool.{Bool, true, false, cond}
use mathlib.Core.List.{List, [], ◌∷◌, ◌++◌, append-nil}
use Prim.Native.Nat.{ℕ, zero, suc, ◌+◌, ◌-◌, ◌^◌, ◌≤◌, ◌<◌}
use native.Mathlib.Omega.{arith}
use lib.ListN.{length, get_or, drop, length-append}
use lib.Dec.{leb, eqb}
use borrow.Author.Tests.{lt-ltb, ne_eqb, eqb-true, eqb-false}
use Rattle.refusals.specs.Stop.{Stop, never, stop, stop_if, or_else}
use Rattle.slices.specs.Bytes.{both}
use Rattle.cells.specs.Cell.{WellFormed, kind_of, body_of, bodies_of, start_of, length_of}
use Rattle.cells.proofs.Stops.{stop_never, cell_by, text_by, inside_by}
use Rattle.conditions.specs.Ast.{Tree, leaf, unary, binary, size, height}
use Rattle.nodes.specs.Kind.{known, is_kind, body_of as long}
use Rattle.nodes.specs.declared.Allowed.{Allowed}
use Rattle.nodes.specs.declared.Allowed.TheVariants.{Bound, Mixed}
use Rattle.nodes.proofs.Bodies.{known_kind}
use Rattle.forms.specs.Form.{tree, node_at, parse, parsed, form_stop}
use Rattle.forms.specs.Held.{LeafHeld}
use Rattle.forms.specs.Number.{numbers_stop}
use Rattle.forms.proofs.Numbers.{numbers_end}
use Rattle.forms.proofs.Scanning.{parse_more}
use Rattle.postfix.specs.Postfix.{leaf_bytes, body_bytes, bytes_of, width}
use Rattle.postfix.proofs.Leaves.{length_body, bytes_column}
use Rattle.postfix.proofs.Numbers.{one_drop, one_little}
use Rattle.postfix.proofs.Reading.{LeafReadable, Readable, one_bytes, two_bytes, past, before, parse_tree, readable_parsed}
use Rattle.postfix.proofs.Passing.{here, operator_passed}
use Rattle.replacing.specs.Walk.{AllHeld}
use Rattle.folding.proofs.Columns.{columns_of}

-- ---- tests on columns

-- a column by its name
abbrev pub named : ℕ → Bool
named w = eqb (kind_of w) 3

-- a column whose number is none of so many columns'
abbrev pub missing : ℕ → ℕ → Bool
missing columns w = both (eqb (kind_of w) 4) (leb columns (body_of w))

-- a test holds of some word
unfoldable pub some : (ℕ → Bool) → List ℕ → Bool
some p [] = false
some p (w ∷ l) = cond (p w) true (some p l)

-- of some word of the one list, or of the other
some_append : (p : ℕ → Bool) (l m : List ℕ) → some p (l ++ m) ≡ cond (some p l) true (some p m)
unfolding some
some_append p [] m = refl
some_append p (w ∷ l) m = by (p w) (some_append p l m)
  where
    by : (x : Bool) → some p (l ++ m) ≡ cond (some p l) true (some p m) → cond x true (some p (l ++ m)) ≡ cond (cond x true (some p l)) true (some p m)
    by true e = refl
    by false e = e

-- a test that no literal passes, of a leaf
some_leaf : (p : ℕ → Bool) (w : ℕ) → (eqb (kind_of w) 3 ≡ false → eqb (kind_of w) 4 ≡ false → p w ≡ false) → some p (columns_of (leaf w)) ≡ p w
unfolding some columns_of
some_leaf p w h = by (eqb (kind_of w) 3) (eqb (kind_of w) 4) (p w) refl refl refl
  where
    by : (x y z : Bool) → eqb (kind_of w) 3 ≡ x → eqb (kind_of w) 4 ≡ y → p w ≡ z → some p (cond x (w ∷ []) (cond y (w ∷ []) [])) ≡ z
    by true y true e f g = rw g
    by true y false e f g = rw g
    by false true true e f g = rw g
    by false true false e f g = rw g
    by false false z e f g = sym (h e f) ∙ g

-- of an operator over two
some_two : (p : ℕ → Bool) (op : ℕ) (a c : Tree ℕ) → some p (columns_of (binary op a c)) ≡ cond (some p (columns_of a)) true (some p (columns_of c))
unfolding columns_of
some_two p op a c = some_append p (columns_of a) (columns_of c)

-- one of two tests holds: the first, or the second and not the first
either : {P : Type 0} (x y : Bool) → cond x true y ≡ true → (x ≡ true → P) → (x ≡ false → y ≡ true → P) → P
either true y e f g = f refl
either false y e f g = g refl e

-- neither holds
neither : (x y : Bool) → cond x true y ≡ false → (x ≡ false) × (y ≡ false)
neither true y e = absurd (let z : ◌≡◌ {A = ℕ} 0 1 = cc in omega arith)
neither false y e = (refl, e)

-- ---- stops without their places

-- a stop by its number alone
abbrev pub placeless : Stop → Stop
placeless never = never
placeless (stop number place) = stop number 0

-- the first of two, by its number
pub placeless_else : (s later : Stop) → placeless (or_else s later) ≡ or_else (placeless s) (placeless later)
placeless_else never later = refl
placeless_else (stop number place) later = refl

-- a stop where a test holds
pub placeless_if : (x : Bool) (number place : ℕ) (later : Stop) → placeless (or_else (stop_if x number place) later) ≡ or_else (stop_if x number 0) (placeless later)
placeless_if true number place later = refl
placeless_if false number place later = refl

-- where one of two tests holds
stop_either : (x y : Bool) (number : ℕ) (later : Stop) → or_else (stop_if (cond x true y) number 0) later ≡ or_else (stop_if x number 0) (or_else (stop_if y number 0) later)
stop_either true y number later = refl
stop_either false y number later = refl

-- ---- refusal 4

module _ (form : Allowed) (used columns : ℕ) (b : List ℕ) where
  -- one of a tree's columns is missing
  abbrev lacks : Tree ℕ → Bool
  lacks t = some (missing columns) (columns_of t)

  -- the node that stands next
  numbers_node : (f at k : ℕ) (post : List ℕ) → drop at b ≡ k ∷ post
      → numbers_stop columns b (suc f) at ≡ or_else (stop_if (both (eqb k 4) (leb columns (get_or post 0 0))) 4 at) (numbers_stop columns b f (at + 1 + long k))
  unfolding numbers_stop
  numbers_node f at k post e =
      let p : get_or b at 0 ≡ k = here columns b at k post e in
      let q : get_or b (at + 1) 0 ≡ get_or post 0 0 = one_drop b (at + 1) ∙ ap (λ l. get_or l 0 0) (past b at (k ∷ []) post e) in
      rw (lt-ltb at (length b) (before b at k post e), p, q)

  -- the number of a leaf
  leaf_missing : (w : ℕ) (post : List ℕ) → LeafReadable form used w → both (eqb (kind_of w) 4) (leb columns (get_or (body_bytes w ++ post) 0 0)) ≡ missing columns w
  unfolding long
  leaf_missing w post r = by (eqb (kind_of w) 4) refl
    where
      by : (x : Bool) → eqb (kind_of w) 4 ≡ x → both x (leb columns (get_or (body_bytes w ++ post) 0 0)) ≡ both x (leb columns (body_of w))
      by true e =
          let k : kind_of w ≡ 4 = eqb-true _ _ e in
          let h : body_of w < 256 ^ long 4 = rw k at r.body in
          ap (leb columns) (ap (λ l. get_or (l ++ post) 0 0) (bytes_column w k) ∙ one_little (body_of w) post h)
      by false e = refl

  -- a readable tree that stands in the bytes
  numbers_tree : (t : Tree ℕ) → Readable form used t → (at f : ℕ) (post : List ℕ) → drop at b ≡ bytes_of t ++ post
      → placeless (numbers_stop columns b (size t + f) at) ≡ or_else (stop_if (lacks t) 4 0) (placeless (numbers_stop columns b f (at + width t)))
  unfolding Readable size bytes_of
  numbers_tree (leaf w) r at f post e =
      let n : 1 + f ≡ suc f = omega arith in
      let m : at + 1 + long (kind_of w) ≡ at + length (leaf_bytes w) = omega (arith, length_body w) in
      ap (λ i. placeless (numbers_stop columns b i at)) n
      ∙ ap placeless (numbers_node f at (kind_of w) (body_bytes w ++ post) e)
      ∙ placeless_if (both (eqb (kind_of w) 4) (leb columns (get_or (body_bytes w ++ post) 0 0))) 4 at (numbers_stop columns b f (at + 1 + long (kind_of w)))
      ∙ rw (leaf_missing w post r, m, some_leaf (missing columns) w (λ p q. rw q refl)) refl
  numbers_tree (unary op a) r at f post e =
      let d : drop at b ≡ bytes_of a ++ (op ∷ post) = e ∙ one_bytes op a post in
      let n : size a + 1 + f ≡ size a + suc f = omega arith in
      let m : at + width a + 1 ≡ at + length (bytes_of a ++ (op ∷ [])) = omega (arith, length-append (bytes_of a) (op ∷ [])) in
      ap (λ i. placeless (numbers_stop columns b i at)) n
      ∙ numbers_tree a r.3 at (suc f) (op ∷ post) d
      ∙ rw (operator_passed columns b (at + width a) op f post r.1 (past b at (bytes_of a) (op ∷ post) d), m) (unfold columns_of in refl)
  numbers_tree (binary op a c) r at f post e =
      let d : drop at b ≡ bytes_of a ++ (bytes_of c ++ (op ∷ post)) = e ∙ two_bytes op a c post in
      let d' = past b at (bytes_of a) (bytes_of c ++ (op ∷ post)) d in
      let n : size a + size c + 1 + f ≡ size a + (size c + suc f) = omega arith in
      let m : at + width a + width c + 1 ≡ at + length (bytes_of a ++ (bytes_of c ++ (op ∷ []))) =
      omega (arith, length-append (bytes_of a) (bytes_of c ++ (op ∷ [])), length-append (bytes_of c) (op ∷ [])) in
      ap (λ i. placeless (numbers_stop columns b i at)) n
      ∙ numbers_tree a r.2 at (size c + suc f) (bytes_of c ++ (op ∷ post)) d
      ∙ ap (or_else (stop_if (lacks a) 4 0)) (numbers_tree c r.3 (at + width a) (suc f) (op ∷ post) d')
      ∙ rw (operator_passed columns b (at + width a + width c) op f post (omega (arith, r.1)) (past b (at + width a) (bytes_of c) (op ∷ post) d'), m)
      (rw (some_two (missing columns) op a c) (sym (stop_either (lacks a) (lacks c) 4 (placeless (numbers_stop columns b f (at + width (binary op a c)))))))

-- the bytes of a readable tree get 4 where one of its columns is missing
pub numbers_told : (form : Allowed) (used columns : ℕ) (t : Tree ℕ) → Readable form used t → size t ≤ 64
    → placeless (numbers_stop columns (bytes_of t) 64 0) ≡ stop_if (some (missing columns) (columns_of t)) 4 0
numbers_told form used columns t r few =
    let n : 64 ≡ size t + (64 - size t) = omega arith in
    ap (λ f. placeless (numbers_stop columns (bytes_of t) f 0)) n
    ∙ numbers_tree form used columns (bytes_of t) t r 0 (64 - size t) [] (sym (append-nil (bytes_of t)))
    ∙ rw (numbers_end columns (bytes_of t) (64 - size t) (0 + width t) (omega arith)) (last (some (missing columns) (columns_of t)))
  where
    last : (x : Bool) → or_else (stop_if x 4 0) never ≡ stop_if x 4 0
    last true = refl
    last false = refl

-- ---- the bound form

-- it has every kind but a name's
known_bound : (k : ℕ) → eqb k 3 ≡ false → known Mixed k ≡ true → known Bound k ≡ true
unfolding known
known_bound k n h = rw (known_kind Mixed k h, n) refl

module _ (used : ℕ) where
  -- a readable tree without names
  readable_bound : (t : Tree ℕ) → Readable Mixed used t → some named (columns_of t) ≡ false → Readable Bound used t
  unfolding Readable columns_of
  readable_bound (leaf w) r h = record {
    kind = r.kind;
    allowed = known_bound (kind_of w) (sym (some_leaf named w (λ p q. p)) ∙ h) r.allowed;
    body = r.body;
    text = r.text;
    name = r.name;
  }
  readable_bound (unary op a) r h = (known_bound op (ne_eqb op 3 (λ e. omega (arith, r.1))) r.0, r.1, r.2, readable_bound a r.3 h)
  readable_bound (binary op a c) r h =
      let n = neither (some named (columns_of a)) (some named (columns_of c)) (sym (some_two named op a c) ∙ h) in
      (known_bound op (ne_eqb op 3 (λ e. omega (arith, r.1))) r.0, r.1, readable_bound a r.2 n.0, readable_bound c r.3 n.1)

  -- a readable tree with a name, where it stands in the bytes
  parse_named : (b : List ℕ) (t : Tree ℕ) → Readable Mixed used t → height t ≤ 16 → some named (columns_of t) ≡ true
      → (at f : ℕ) (post : List ℕ) (s : List (Tree ℕ)) → drop at b ≡ bytes_of t ++ post → placeless (form_stop (parse Bound used b (size t + f) at s)) ≡ stop 1 0
  unfolding Readable height size bytes_of
  parse_named b (leaf w) r h x at f post s e =
      let n : 1 + f ≡ suc f = omega arith in
      let k : kind_of w ≡ 3 = eqb-true _ _ (sym (some_leaf named w (λ p q. p)) ∙ x) in
      let q : get_or b at 0 ≡ 3 = one_drop b at ∙ ap (λ l. get_or l 0 0) e ∙ k in
      ap (λ i. placeless (form_stop (parse Bound used b i at s))) n
      ∙ ap (λ p. placeless (form_stop p)) (parse_more Bound used b f at s (before b at (kind_of w) (body_bytes w ++ post) e))
      ∙ rw q (unfold node_at known is_kind in refl)
  parse_named b (unary op a) r h x at f post s e =
      let n : size a + 1 + f ≡ size a + suc f = omega arith in
      ap (λ i. placeless (form_stop (parse Bound used b i at s))) n
      ∙ parse_named b a r.3 (omega arith) (unfold columns_of in x) at (suc f) (op ∷ post) s (e ∙ one_bytes op a post)
  parse_named b (binary op a c) r h x at f post s e =
      let n : size a + size c + 1 + f ≡ size a + (size c + suc f) = omega arith in
      let d : drop at b ≡ bytes_of a ++ (bytes_of c ++ (op ∷ post)) = e ∙ two_bytes op a c post in
      ap (λ i. placeless (form_stop (parse Bound used b i at s))) n
      ∙ either (some named (columns_of a)) (some named (columns_of c)) (sym (some_two named op a c) ∙ x)
      (λ y. parse_named b a r.2 (omega arith) y at (size c + suc f) (bytes_of c ++ (op ∷ post)) s d)
      (λ y z. ap (λ p. placeless (form_stop p)) (parse_tree Bound used b a (readable_bound a r.2 y) (omega arith) at (size c + suc f) (bytes_of c ++ (op ∷ post)) s d)
      ∙ parse_named b c r.3 (omega arith) z (at + width a) (suc f) (op ∷ post) (a ∷ s) (past b at (bytes_of a) (bytes_of c ++ (op ∷ post)) d))

  module _ (t : Tree ℕ) (r : Readable Mixed used t) (few : size t ≤ 64) (low : height t ≤ 16) where
    -- the bytes of a readable tree without names are read as it
    pub bound_tree : some named (columns_of t) ≡ false → parsed Bound used (bytes_of t) ≡ tree t
    bound_tree h = readable_parsed Bound used t (readable_bound t r h) few low

    -- and get 1 where one of its columns stands by its name
    pub bound_told : placeless (form_stop (parsed Bound used (bytes_of t))) ≡ stop_if (some named (columns_of t)) 1 0
    bound_told = by (some named (columns_of t)) refl
      where
        n : 64 ≡ size t + (64 - size t)
        n = omega arith

        by : (x : Bool) → some named (columns_of t) ≡ x → placeless (form_stop (parsed Bound used (bytes_of t))) ≡ stop_if x 1 0
        by true h =
            ap (λ f. placeless (form_stop (parse Bound used (bytes_of t) f 0 []))) n
            ∙ parse_named (bytes_of t) t r low h 0 (64 - size t) [] [] (sym (append-nil (bytes_of t)))
        by false h = ap (λ p. placeless (form_stop p)) (bound_tree h)

-- ---- texts below the mark

-- a readable leaf that is no column is a well-formed cell
leaf_well : (form : Allowed) (used w : ℕ) → LeafReadable form used w → (kind_of w ≡ 3 → ⊥) → (kind_of w ≡ 4 → ⊥) → WellFormed used w
unfolding bodies_of long
leaf_well form used w r n m = by (kind_of w) refl
  where
    by : (k : ℕ) → kind_of w ≡ k → WellFormed used w
    by zero q = stop_never used w 0 (cell_by w 0 1 q refl (let h : body_of w < 256 ^ long 0 = rw q at r.body in h)) (text_by used w 0 q (λ e. omega arith))
    by (suc zero) q = stop_never used w 0 (cell_by w 1 (2 ^ 32) q refl (let h : body_of w < 256 ^ long 1 = rw q at r.body in omega arith)) (text_by used w 1 q (λ e. omega arith))
    by (suc (suc zero)) q = stop_never used w 0 (cell_by w 2 (2 ^ 48) q refl (let h : body_of w < 256 ^ long 2 = rw q at r.body in omega arith)) (inside_by used w q (r.text q))
    by (suc (suc (suc zero))) q = absurd (n q)
    by (suc (suc (suc (suc zero)))) q = absurd (m q)
    by (suc (suc (suc (suc (suc k))))) q = absurd (omega (arith, r.kind))

-- every leaf of a readable tree is held below the mark
pub readable_held : (form : Allowed) (used : ℕ) (t : Tree ℕ) → Readable form used t → AllHeld used t
unfolding Readable AllHeld LeafHeld
readable_held form used (leaf w) r = by (eqb (kind_of w) 4) (eqb (kind_of w) 3) refl refl
  where
    by : (x y : Bool) → eqb (kind_of w) 4 ≡ x → eqb (kind_of w) 3 ≡ y → cond x (Unit {0}) (cond y (start_of w + length_of w ≤ used) (WellFormed used w))
    by true y e f = tt
    by false true e f = (r.name (eqb-true _ _ f)).0
    by false false e f = leaf_well form used w r (eqb-false _ _ f) (eqb-false _ _ e)
readable_held form used (unary op a) r = readable_held form used a r.3
readable_held form used (binary op a c) r = (readable_held form used a r.2, readable_held form used c r.3)
