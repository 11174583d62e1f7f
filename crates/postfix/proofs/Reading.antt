-- Reading and writing: a readable tree's bytes parse to it, and what parses is the bytes of a readable tree. Assumes nothing.
use mathlib.Core.Path.{◌≡◌, refl, sym, ap, ap₂, ◌∙◌}
use mathlib.Core.Bool.{true, cond}
use mathlib.Core.List.{List, [], ◌∷◌, ◌++◌, append_assoc, append-nil}
use Prim.Native.Nat.{ℕ, suc, ◌+◌, ◌-◌, ◌*◌, ◌≤◌, ◌<◌}
use native.Mathlib.Omega.{arith}
use native.Mathlib.Numerals.{add-one}
use lib.ListN.{length, get_or, take, drop, length-append, length-drop}
use lib.Seq.{drop-drop, drop-append_seam, take-add, take-suc, take_all}
use lib.Dec.{ltb}
use borrow.Author.Tests.{lt-ltb, le-ltb, le-leb, lt-leb, ne_eqb}
use Rattle.cells.specs.Cell.{kind_of}
use Rattle.conditions.specs.Ast.{Tree, leaf, unary, binary, height, size}
use Rattle.nodes.specs.Kind.{known, body_of, text_fits, leaf_word}
use Rattle.nodes.specs.declared.Allowed.{Allowed}
use Rattle.nodes.proofs.Bodies.{known_leaf, known_below, body_short}
use Rattle.forms.specs.Form.{tree, refusal, go, on_one, on_two, node_at, finish, follow, parse, parsed}
use Rattle.forms.proofs.Scanning.{parse_more, parse_end}
use Rattle.postfix.specs.Postfix.{leaf_bytes, body_bytes, bytes_of, width}
use Rattle.postfix.proofs.Leaves.{length_body, small_body}
use Rattle.nodes.proofs.Numbers.{Small}
use Rattle.postfix.proofs.Numbers.{small_nil, small_cons, small_append, one_drop}
use Rattle.postfix.proofs.Parsing.{parse_all, Went, Became, put, one, two, node_went}
use Rattle.postfix.proofs.Readable.{word_by, text_by, leaf_read}
pub use Rattle.postfix.proofs.Readable.{LeafReadable}
unfoldable pub use Rattle.postfix.proofs.Readable.{Readable}

-- an operator has no body
pub body_operator : (k : ℕ) → 16 ≤ k → body_of k ≡ 0
unfolding body_of
body_operator k h = rw (ne_eqb k 1 (λ e. omega arith), ne_eqb k 2 (λ e. omega arith), ne_eqb k 3 (λ e. omega arith), ne_eqb k 4 (λ e. omega arith))

-- an operator over one operand stands after its operand's bytes
pub one_bytes : (op : ℕ) (a : Tree ℕ) (post : List ℕ) → bytes_of (unary op a) ++ post ≡ bytes_of a ++ (op ∷ post)
unfolding bytes_of
one_bytes op a post = append_assoc (bytes_of a) (op ∷ []) post

-- the same of an operator over two
pub two_bytes : (op : ℕ) (a c : Tree ℕ) (post : List ℕ) → bytes_of (binary op a c) ++ post ≡ bytes_of a ++ (bytes_of c ++ (op ∷ post))
unfolding bytes_of
two_bytes op a c post = append_assoc (bytes_of a) (bytes_of c ++ (op ∷ [])) post ∙ ap (λ l. bytes_of a ++ l) (append_assoc (bytes_of c) (op ∷ []) post)

-- ---- from the tree to its bytes and back

module _ (b : List ℕ) (at : ℕ) where
  -- what stands after a part
  pub past : (x y : List ℕ) → drop at b ≡ x ++ y → drop (at + length x) b ≡ y
  past x y e = sym (drop-drop (length x) at b) ∙ ap (drop (length x)) e ∙ drop-append_seam x y

  -- a node ends within the bytes
  inside : (k : ℕ) (x y : List ℕ) → drop at b ≡ k ∷ (x ++ y) → at + suc (length x) ≤ length b
  inside k x y e = omega (arith, length-drop at b, ap length e, length-append x y)

  -- and begins before their end
  pub before : (k : ℕ) (y : List ℕ) → drop at b ≡ k ∷ y → at < length b
  before k y e = omega (arith, inside k [] y e)

module _ (form : Allowed) (used : ℕ) (b : List ℕ) where
  -- the node that stands next
  parse_at : (at k f : ℕ) (post : List ℕ) (s : List (Tree ℕ)) → drop at b ≡ k ∷ post
      → parse form used b (suc f) at s ≡ follow (node_at form used b at k s) at (λ s' next. parse form used b f next s')
  parse_at at k f post s e =
      let q : get_or b at 0 ≡ k = one_drop b at ∙ ap (λ l. get_or l 0 0) e in
      parse_more form used b f at s (before b at k post e) ∙ rw q

  -- a readable leaf's node
  leaf_node : (at w : ℕ) (post : List ℕ) (s : List (Tree ℕ)) → LeafReadable form used w → drop at b ≡ leaf_bytes w ++ post
      → node_at form used b at (kind_of w) s ≡ go (leaf w ∷ s) (at + length (leaf_bytes w))
  unfolding node_at
  leaf_node at w post s R e =
      let n : at + 1 + body_of (kind_of w) ≡ at + length (leaf_bytes w) = omega (arith, length_body w) in
      rw (
        R.allowed,
        n,
        le-leb (at + length (leaf_bytes w)) (length b) (inside b at (kind_of w) (body_bytes w) post e),
        lt-ltb (kind_of w) 16 (omega (arith, R.kind)),
        text_by b post at w e form used R (kind_of w) refl,
        word_by b post at w e form used R (kind_of w) refl,
      )

  -- an operator's node
  operator_node : (at op : ℕ) (post : List ℕ) (s : List (Tree ℕ)) → known form op ≡ true → 16 ≤ op → drop at b ≡ op ∷ post
      → node_at form used b at op s ≡ cond (ltb op 32) (on_one op s (at + 1)) (on_two op s (at + 1))
  unfolding node_at
  operator_node at op post s K l e =
      let n : at + 1 + body_of op ≡ at + 1 = omega (arith, body_operator op l) in
      rw (K, n, le-leb (at + 1) (length b) (inside b at op [] post e), le-ltb op 16 l)

  module _ (at op f : ℕ) (post : List ℕ) (a : Tree ℕ) (s : List (Tree ℕ)) (K : known form op ≡ true) (e : drop at b ≡ op ∷ post) where
    -- an operator over one operand
    parse_one : 16 ≤ op → op < 32 → height (unary op a) ≤ 16 → parse form used b (suc f) at (a ∷ s) ≡ parse form used b f (at + 1) (unary op a ∷ s)
    parse_one l u h =
        parse_at at op f post (a ∷ s) e ∙ rw (operator_node at op post (a ∷ s) K l e, lt-ltb op 32 u, le-leb (height (unary op a)) 16 h)

    -- an operator over two
    parse_two : (c : Tree ℕ) → 32 ≤ op → height (binary op a c) ≤ 16 → parse form used b (suc f) at (c ∷ (a ∷ s)) ≡ parse form used b f (at + 1) (binary op a c ∷ s)
    parse_two c l h =
        parse_at at op f post (c ∷ (a ∷ s)) e
        ∙ rw (operator_node at op post (c ∷ (a ∷ s)) K (omega arith) e, le-ltb op 32 l, le-leb (height (binary op a c)) 16 h)

    -- an operator that is too deep
    pub parse_deep : (c : Tree ℕ) → 32 ≤ op → 16 < height (binary op a c) → parse form used b (suc f) at (c ∷ (a ∷ s)) ≡ refusal 2 at
    parse_deep c l h =
        parse_at at op f post (c ∷ (a ∷ s)) e
        ∙ rw (operator_node at op post (c ∷ (a ∷ s)) K (omega arith) e, le-ltb op 32 l, lt-leb (height (binary op a c)) 16 h)

  -- a readable tree of at most 16 that stands in the bytes goes on the stack
  pub parse_tree : (t : Tree ℕ) → Readable form used t → height t ≤ 16 → (at f : ℕ) (post : List ℕ) (s : List (Tree ℕ)) → drop at b ≡ bytes_of t ++ post
      → parse form used b (size t + f) at s ≡ parse form used b f (at + width t) (t ∷ s)
  unfolding Readable height size bytes_of
  parse_tree (leaf w) R h at f post s e =
      let q : 1 + f ≡ suc f = omega arith in
      ap (λ n. parse form used b n at s) q ∙ parse_at at (kind_of w) f (body_bytes w ++ post) s e ∙ rw (leaf_node at w post s R e)
  parse_tree (unary op a) R h at f post s e =
      let d : drop at b ≡ bytes_of a ++ (op ∷ post) = e ∙ one_bytes op a post in
      let q : size a + 1 + f ≡ size a + suc f = omega arith in
      let p : at + width a + 1 ≡ at + length (bytes_of a ++ (op ∷ [])) = omega (arith, length-append (bytes_of a) (op ∷ [])) in
      ap (λ n. parse form used b n at s) q
      ∙ parse_tree a R.3 (omega arith) at (suc f) (op ∷ post) s d
      ∙ parse_one (at + width a) op f post a s R.0 (past b at (bytes_of a) (op ∷ post) d) R.1 R.2 h
      ∙ ap (λ n. parse form used b f n (unary op a ∷ s)) p
  parse_tree (binary op a c) R h at f post s e =
      let m = two_bytes op a c post in
      let d : drop (at + width a) b ≡ bytes_of c ++ (op ∷ post) = past b at (bytes_of a) (bytes_of c ++ (op ∷ post)) (e ∙ m) in
      let q : size a + size c + 1 + f ≡ size a + (size c + suc f) = omega arith in
      let p : at + width a + width c + 1 ≡ at + length (bytes_of a ++ (bytes_of c ++ (op ∷ []))) =
      omega (arith, length-append (bytes_of a) (bytes_of c ++ (op ∷ [])), length-append (bytes_of c) (op ∷ [])) in
      ap (λ n. parse form used b n at s) q
      ∙ parse_tree a R.2 (omega arith) at (size c + suc f) (bytes_of c ++ (op ∷ post)) s (e ∙ m)
      ∙ parse_tree c R.3 (omega arith) (at + width a) (suc f) (op ∷ post) (a ∷ s) d
      ∙ parse_two (at + width a + width c) op f post a s R.0 (past b (at + width a) (bytes_of c) (op ∷ post) d) c R.1 h
      ∙ ap (λ n. parse form used b f n (binary op a c ∷ s)) p

-- a readable tree's bytes, with others before and after them
pub parse_between : (form : Allowed) (used : ℕ) (t : Tree ℕ) → Readable form used t → height t ≤ 16 → (pre post : List ℕ) (f : ℕ) (s : List (Tree ℕ))
    → parse form used (pre ++ (bytes_of t ++ post)) (size t + f) (length pre) s ≡ parse form used (pre ++ (bytes_of t ++ post)) f (length pre + width t) (t ∷ s)
parse_between form used t R h pre post f s =
    parse_tree form used (pre ++ (bytes_of t ++ post)) t R h (length pre) f post s (drop-append_seam pre (bytes_of t ++ post))

-- a readable tree's bytes parse to it
pub readable_parsed : (form : Allowed) (used : ℕ) (t : Tree ℕ) → Readable form used t → size t ≤ 64 → height t ≤ 16 → parsed form used (bytes_of t) ≡ tree t
readable_parsed form used t R n h =
    let q : 64 ≡ size t + (64 - size t) = omega arith in
    ap (λ f. parse form used (bytes_of t) f 0 []) q
    ∙ parse_tree form used (bytes_of t) t R h 0 (64 - size t) [] [] (sym (append-nil (bytes_of t)))
    ∙ parse_end form used (bytes_of t) (64 - size t) (0 + width t) (t ∷ []) (omega arith)

-- ---- from bytes to the tree and back

-- the bytes of a stack's trees, the top one's last
unfoldable stacked : List (Tree ℕ) → List ℕ
stacked [] = []
stacked (t ∷ s) = stacked s ++ bytes_of t

-- how many nodes they have
unfoldable sizes : List (Tree ℕ) → ℕ
sizes [] = 0
sizes (t ∷ s) = size t + sizes s

-- they are readable, and at most 16 high
unfoldable AllReadable : Allowed → ℕ → List (Tree ℕ) → Type 0
AllReadable form used [] = Unit {0}
AllReadable form used (t ∷ s) = Readable form used t × (height t ≤ 16) × AllReadable form used s

-- a stack is what the bytes before an offset say, where f nodes of 64 are left
record Stands (form : Allowed) (used : ℕ) (b : List ℕ) (f at : ℕ) (s : List (Tree ℕ)) : Type 0 where
  trees : AllReadable form used s
  bytes : take at b ≡ stacked s
  count : sizes s + f ≡ 64

module _ (form : Allowed) (used : ℕ) (b : List ℕ) (B : Small b) where
  -- the bytes before the next node
  take_node : (at k n : ℕ) → at < length b → get_or b at 0 ≡ k → take (at + 1 + n) b ≡ take at b ++ (k ∷ take n (drop (at + 1) b))
  take_node at k n h e =
      take-add (at + 1) n b
      ∙ ap (λ l. l ++ take n (drop (at + 1) b)) (ap (λ i. take i b) (add-one at) ∙ take-suc b at 0 h ∙ ap (λ x. take at b ++ (x ∷ [])) e)
      ∙ append_assoc (take at b) (k ∷ []) (take n (drop (at + 1) b))

  module _ (f at : ℕ) (s s' : List (Tree ℕ)) (next : ℕ) (h : at < length b) (S : Stands form used b (suc f) at s) (w : Went form used b at (get_or b at 0) s s' next) where
    abbrev k : ℕ
    k = get_or b at 0

    -- a leaf goes on the stack
    stands_leaf : k < 16 → text_fits used b at k ≡ true → s' ≡ leaf (leaf_word b at k) ∷ s → Stands form used b f next s'
    unfolding AllReadable stacked sizes Readable height size bytes_of
    stands_leaf l F e =
        let r = leaf_read form used at b B k (known_leaf form k w.kind l) w.kind w.inside F in
        rw e record {
          trees = (r.readable, omega arith, S.trees);
          bytes = ap (λ i. take i b) w.after ∙ take_node at k (body_of k) h refl ∙ ap₂ ◌++◌ S.bytes (sym r.bytes);
          count = omega (arith, S.count);
        }

    -- an operator takes one byte
    stands_after : 16 ≤ k → take next b ≡ stacked s ++ (k ∷ [])
    stands_after l = ap (λ i. take i b) (w.after ∙ ap (λ n. at + 1 + n) (body_operator k l)) ∙ take_node at k 0 h refl ∙ ap (λ l. l ++ (k ∷ [])) S.bytes

    -- an operator over one operand
    stands_one : (a : Tree ℕ) (r : List (Tree ℕ)) → 16 ≤ k → k < 32 → s ≡ a ∷ r → s' ≡ unary k a ∷ r → height (unary k a) ≤ 16 → Stands form used b f next s'
    unfolding AllReadable stacked sizes Readable size bytes_of
    stands_one a r l u e q d =
        let T : AllReadable form used (a ∷ r) = rw e at S.trees in
        let c : sizes (a ∷ r) + suc f ≡ 64 = rw e at S.count in
        rw q record {
          trees = ((w.kind, l, u, T.0), d, T.2);
          bytes = stands_after l ∙ ap (λ l. stacked l ++ (k ∷ [])) e ∙ append_assoc (stacked r) (bytes_of a) (k ∷ []);
          count = omega arith;
        }

    -- an operator over two
    stands_two : (a c : Tree ℕ) (r : List (Tree ℕ)) → 32 ≤ k → s ≡ c ∷ (a ∷ r) → s' ≡ binary k a c ∷ r → height (binary k a c) ≤ 16 → Stands form used b f next s'
    unfolding AllReadable stacked sizes Readable size bytes_of
    stands_two a c r l e q d =
        let T : AllReadable form used (c ∷ (a ∷ r)) = rw e at S.trees in
        let n : sizes (c ∷ (a ∷ r)) + suc f ≡ 64 = rw e at S.count in
        rw q record {
          trees = ((w.kind, l, T.2.0, T.0), d, T.2.2);
          bytes = stands_after (omega arith) ∙ ap (λ l. stacked l ++ (k ∷ [])) e
              ∙ append_assoc (stacked r ++ bytes_of a) (bytes_of c) (k ∷ []) ∙ append_assoc (stacked r) (bytes_of a) (bytes_of c ++ (k ∷ []));
          count = omega arith;
        }

    -- the stack after a node that goes on
    stands_next : Stands form used b f next s'
    stands_next = by w.became
      where
        by : Became used b at k s s' → Stands form used b f next s'
        by (put l F e) = stands_leaf l F e
        by (one a r l u e q d) = stands_one a r l u e q d
        by (two a c r l e q d) = stands_two a c r l e q d

  -- what a tree is that was read
  abbrev Told : Tree ℕ → Type 0
  Told t = Readable form used t × (bytes_of t ≡ b) × (size t ≤ 64) × (height t ≤ 16)

  -- the stack at the end of the bytes is the one tree
  stands_end : (f at : ℕ) (s : List (Tree ℕ)) (t : Tree ℕ) → length b ≤ at → finish s at ≡ tree t → Stands form used b f at s → Told t
  unfolding AllReadable stacked sizes
  stands_end f at [] t h e S = absurd (let z : ◌≡◌ {A = ℕ} 0 1 = cc in omega arith)
  stands_end f at (u ∷ []) t h e S =
      let q : u ≡ t = cc in
      let c : size u + 0 + f ≡ 64 = S.count in
      rw (← q) (S.trees.0, sym S.bytes ∙ take_all at b h, omega arith, S.trees.1)
  stands_end f at (u ∷ (v ∷ s)) t h e S = absurd (let z : ◌≡◌ {A = ℕ} 0 1 = cc in omega arith)

  -- what parses is the bytes of a readable tree within the bounds
  pub parsed_readable : (t : Tree ℕ) → parsed form used b ≡ tree t → Readable form used t × (bytes_of t ≡ b) × (size t ≤ 64) × (height t ≤ 16)
  unfolding AllReadable stacked sizes
  parsed_readable t e = parse_all form used b (λ f at s r. (t : Tree ℕ) → r ≡ tree t → Stands form used b f at s → Told t)
      (λ at s h t e S. absurd (let z : ◌≡◌ {A = ℕ} 0 1 = cc in omega arith))
      (λ f at s h t e S. stands_end f at s t h e S)
      (λ f at s n h q t e S. absurd (let z : ◌≡◌ {A = ℕ} 0 1 = cc in omega arith))
      (λ f at s s' next r h q ih t e S. ih t e (stands_next f at s s' next h S (node_went form used b at (get_or b at 0) s s' next q))) 64 0 [] t e
      (record { trees = tt; bytes = refl; count = refl })

-- ---- widths and bytes

-- a leaf takes at most 7 bytes
pub leaf_width : (w : ℕ) → length (leaf_bytes w) ≤ 7
leaf_width w = omega (arith, length_body w, body_short (kind_of w))

-- a tree takes at most 7 bytes a node
pub width_size : (t : Tree ℕ) → width t ≤ 7 * size t
unfolding size bytes_of
width_size (leaf w) = omega (arith, leaf_width w)
width_size (unary op a) = omega (arith, length-append (bytes_of a) (op ∷ []), width_size a)
width_size (binary op a b) = omega (arith, length-append (bytes_of a) (bytes_of b ++ (op ∷ [])), length-append (bytes_of b) (op ∷ []), width_size a, width_size b)

-- a readable tree's bytes are bytes
pub bytes_small : (form : Allowed) (used : ℕ) (t : Tree ℕ) → Readable form used t → (i : ℕ) → get_or (bytes_of t) i 0 < 256
unfolding Readable bytes_of
bytes_small form used (leaf w) R = small_cons (kind_of w) (body_bytes w) (omega (arith, R.kind)) (small_body w)
bytes_small form used (unary op a) R =
    small_append (bytes_of a) (op ∷ []) (bytes_small form used a R.3) (small_cons op [] (omega (arith, known_below form op R.0)) small_nil)
bytes_small form used (binary op a b) R =
    small_append (bytes_of a) (bytes_of b ++ (op ∷ [])) (bytes_small form used a R.2)
    (small_append (bytes_of b) (op ∷ []) (bytes_small form used b R.3) (small_cons op [] (omega (arith, known_below form op R.0)) small_nil))
