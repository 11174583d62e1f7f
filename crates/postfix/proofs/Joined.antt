-- AND of two readable trees: its bytes parse to it, or are refused where the whole is too deep or has too many nodes. Assumes nothing.
use mathlib.Core.Path.{◌≡◌, refl, sym, ap, ap₂, ◌∙◌}
use mathlib.Core.Bool.{Bool, true, false}
use mathlib.Core.List.{List, [], ◌∷◌, ◌++◌, append_assoc, append-nil, flatten}
use Prim.Native.Nat.{ℕ, suc, ◌+◌, ◌-◌, ◌≤◌, ◌<◌}
use native.Mathlib.Omega.{arith}
use native.Mathlib.Nat.{add-zero, zero-add}
use lib.ListN.{length, take, drop, length-append}
use lib.Seq.{take-append-le, take-append-add}
use lib.Dec.{ltb}
use borrow.Author.Tests.{ltb-true, ltb-false}
use Rattle.conditions.specs.Ast.{Tree, leaf, unary, binary, height, size}
use Rattle.nodes.specs.Kind.{known, is_kind}
use Rattle.nodes.specs.declared.Allowed.{Allowed}
use Rattle.nodes.specs.declared.Allowed.TheVariants.{Named, Bound, Mixed}
use Rattle.forms.specs.Form.{tree, refusal, parse, parsed}
use Rattle.forms.proofs.Scanning.{parse_full}
use Rattle.postfix.specs.Postfix.{leaf_bytes, bytes_of, width}
use Rattle.postfix.proofs.Reading.{Readable, one_bytes, two_bytes, past, before, parse_tree, parse_deep, readable_parsed}

-- the bytes of each node, in postfix order
unfoldable pub nodes_of : Tree ℕ → List (List ℕ)
nodes_of (leaf w) = leaf_bytes w ∷ []
nodes_of (unary op a) = nodes_of a ++ ((op ∷ []) ∷ [])
nodes_of (binary op a b) = nodes_of a ++ (nodes_of b ++ ((op ∷ []) ∷ []))

-- the sum of the lengths
unfoldable pub total : List (List ℕ) → ℕ
total [] = 0
total (l ∷ r) = length l + total r

-- the bytes of two lists of nodes are those of the one, then of the other
flatten_append : (l m : List (List ℕ)) → flatten (l ++ m) ≡ flatten l ++ flatten m
unfolding flatten
flatten_append [] m = refl
flatten_append (x ∷ l) m = ap (λ r. x ++ r) (flatten_append l m) ∙ sym (append_assoc x (flatten l) (flatten m))

-- they are as many as the lengths say
length_flatten : (l : List (List ℕ)) → length (flatten l) ≡ total l
unfolding flatten total
length_flatten [] = refl
length_flatten (x ∷ l) = length-append x (flatten l) ∙ ap (λ n. length x + n) (length_flatten l)

-- the lengths of two lists add up
total_append : (l m : List (List ℕ)) → total (l ++ m) ≡ total l + total m
unfolding total
total_append [] m = omega arith
total_append (x ∷ l) m = omega (arith, total_append l m)

-- as many as the tree has nodes
pub nodes_count : (t : Tree ℕ) → length (nodes_of t) ≡ size t
unfolding nodes_of size
nodes_count (leaf w) = refl
nodes_count (unary op a) = omega (arith, length-append (nodes_of a) ((op ∷ []) ∷ []), nodes_count a)
nodes_count (binary op a b) =
    omega (arith, length-append (nodes_of a) (nodes_of b ++ ((op ∷ []) ∷ [])), length-append (nodes_of b) ((op ∷ []) ∷ []), nodes_count a, nodes_count b)

-- together they are the tree's bytes
pub nodes_bytes : (t : Tree ℕ) → flatten (nodes_of t) ≡ bytes_of t
unfolding nodes_of bytes_of flatten
nodes_bytes (leaf w) = append-nil (leaf_bytes w)
nodes_bytes (unary op a) = flatten_append (nodes_of a) ((op ∷ []) ∷ []) ∙ ap (λ l. l ++ (op ∷ [])) (nodes_bytes a)
nodes_bytes (binary op a b) =
    flatten_append (nodes_of a) (nodes_of b ++ ((op ∷ []) ∷ []))
    ∙ ap₂ ◌++◌ (nodes_bytes a) (flatten_append (nodes_of b) ((op ∷ []) ∷ []) ∙ ap (λ l. l ++ (op ∷ [])) (nodes_bytes b))

-- the lengths of a tree's nodes make its width
nodes_width : (t : Tree ℕ) → total (nodes_of t) ≡ width t
nodes_width t = sym (length_flatten (nodes_of t)) ∙ ap length (nodes_bytes t)

-- ---- one node too many

module _ (form : Allowed) (used : ℕ) (b : List ℕ) where
  -- a tree, and then the nodes after it: the node that is one too many is one of the tree's or one of those
  through : (t : Tree ℕ) → Readable form used t → height t ≤ 16 → (at f : ℕ) (post : List ℕ) (s : List (Tree ℕ)) (r : List (List ℕ)) → drop at b ≡ bytes_of t ++ post
      → (f < size t → parse form used b f at s ≡ refusal 2 (at + total (take f (nodes_of t))))
      → ((g : ℕ) → f ≡ size t + g → parse form used b g (at + width t) (t ∷ s) ≡ refusal 2 (at + width t + total (take g r)))
      → parse form used b f at s ≡ refusal 2 (at + total (take f (nodes_of t ++ r)))
  through t R h at f post s r e now later = by (ltb f (size t)) refl
    where
      by : (x : Bool) → ltb f (size t) ≡ x → parse form used b f at s ≡ refusal 2 (at + total (take f (nodes_of t ++ r)))
      by true q =
          let l : f < size t = ltb-true _ _ q in
          now l ∙ ap (λ m. refusal 2 (at + total m)) (sym (take-append-le f (nodes_of t) r (omega (arith, nodes_count t))))
      by false q =
          let l : size t ≤ f = ltb-false _ _ q in
          let g : ℕ = f - size t in
          let u : f ≡ size t + g = omega arith in
          let v : take f (nodes_of t ++ r) ≡ nodes_of t ++ take g r = ap (λ n. take n (nodes_of t ++ r)) (u ∙ ap (λ n. n + g) (sym (nodes_count t))) ∙ take-append-add (nodes_of t) r g in
          let w : at + width t + total (take g r) ≡ at + total (take f (nodes_of t ++ r)) = omega (arith, ap total v, total_append (nodes_of t) (take g r), nodes_width t) in
          ap (λ n. parse form used b n at s) u ∙ parse_tree form used b t R h at g post s e ∙ later g u ∙ ap (refusal 2) w

  -- no node is left for the one that stands next
  none_left : (at k g : ℕ) (post : List ℕ) (s : List (Tree ℕ)) (r : List (List ℕ)) → drop at b ≡ k ∷ post → g ≡ 0 → parse form used b g at s ≡ refusal 2 (at + total (take g r))
  unfolding total
  none_left at k g post s r e q = rw (q, add-zero) (parse_full form used b at s (before b at k post e))

  -- fewer nodes are left than a readable tree has whose operands are at most 16 high
  pub parse_short : (t : Tree ℕ) → Readable form used t → height t ≤ 17 → (at f : ℕ) (post : List ℕ) (s : List (Tree ℕ)) → f < size t → drop at b ≡ bytes_of t ++ post
      → parse form used b f at s ≡ refusal 2 (at + total (take f (nodes_of t)))
  unfolding Readable height size bytes_of nodes_of
  parse_short (leaf w) R h at f post s l e = none_left at _ f _ s _ e (omega arith)
  parse_short (unary op a) R h at f post s l e =
      let d : drop at b ≡ bytes_of a ++ (op ∷ post) = e ∙ one_bytes op a post in
      through a R.3 (omega arith) at f (op ∷ post) s ((op ∷ []) ∷ []) d
      (λ l. parse_short a R.3 (omega arith) at f (op ∷ post) s l d)
      (λ g q. none_left (at + width a) op g post (a ∷ s) ((op ∷ []) ∷ []) (past b at (bytes_of a) (op ∷ post) d) (omega arith))
  parse_short (binary op a c) R h at f post s l e =
      let d : drop at b ≡ bytes_of a ++ (bytes_of c ++ (op ∷ post)) = e ∙ two_bytes op a c post in
      let d' = past b at (bytes_of a) (bytes_of c ++ (op ∷ post)) d in
      let d'' = past b (at + width a) (bytes_of c) (op ∷ post) d' in
      through a R.2 (omega arith) at f (bytes_of c ++ (op ∷ post)) s (nodes_of c ++ ((op ∷ []) ∷ [])) d
      (λ l. parse_short a R.2 (omega arith) at f (bytes_of c ++ (op ∷ post)) s l d)
      (λ g q. through c R.3 (omega arith) (at + width a) g (op ∷ post) (a ∷ s) ((op ∷ []) ∷ []) d'
      (λ l. parse_short c R.3 (omega arith) (at + width a) g (op ∷ post) (a ∷ s) l d')
      (λ m p. none_left (at + width a + width c) op m post (c ∷ (a ∷ s)) ((op ∷ []) ∷ []) d'' (omega arith)))

-- ---- AND of two readable trees

-- every form has AND
known_and : (form : Allowed) → known form 48 ≡ true
unfolding known is_kind
known_and Named = refl
known_and Bound = refl
known_and Mixed = refl

module _ (form : Allowed) (used : ℕ) (a b : Tree ℕ) (R : Readable form used a) (Q : Readable form used b) where
  -- AND of two readable trees is readable
  pub joined_readable : Readable form used (binary 48 a b)
  unfolding Readable
  joined_readable = (known_and form, omega arith, R, Q)

  -- within the bounds: it is read
  pub joined_fits : size (binary 48 a b) ≤ 64 → height (binary 48 a b) ≤ 16 → parsed form used (bytes_of (binary 48 a b)) ≡ tree (binary 48 a b)
  joined_fits n h = readable_parsed form used (binary 48 a b) joined_readable n h

  module _ (p : height a ≤ 16) (q : height b ≤ 16) where
    -- its bytes are both trees' bytes and AND's
    whole : drop 0 (bytes_of (binary 48 a b)) ≡ bytes_of a ++ (bytes_of b ++ (48 ∷ []))
    unfolding bytes_of
    whole = refl

    -- too deep: refused at AND
    pub joined_deep : size (binary 48 a b) ≤ 64 → 16 < height (binary 48 a b) → parsed form used (bytes_of (binary 48 a b)) ≡ refusal 2 (width a + width b)
    unfolding size
    joined_deep n h =
        let l = bytes_of (binary 48 a b) in
        let f : ℕ = 64 - (size a + size b + 1) in
        let m : 64 ≡ size a + (size b + suc f) = omega arith in
        let d = past l 0 (bytes_of a) (bytes_of b ++ (48 ∷ [])) whole in
        ap (λ n. parse form used l n 0 []) m
        ∙ parse_tree form used l a R p 0 (size b + suc f) (bytes_of b ++ (48 ∷ [])) [] whole
        ∙ parse_tree form used l b Q q (0 + width a) (suc f) (48 ∷ []) (a ∷ []) d
        ∙ parse_deep form used l (0 + width a + width b) 48 f [] a [] (known_and form) (past l (0 + width a) (bytes_of b) (48 ∷ []) d) b (omega arith) h
        ∙ ap (refusal 2) (omega arith)

    -- too many nodes: refused at the 65th
    pub joined_long : 64 < size (binary 48 a b) → parsed form used (bytes_of (binary 48 a b)) ≡ refusal 2 (total (take 64 (nodes_of (binary 48 a b))))
    joined_long n =
        let h : height (binary 48 a b) ≤ 17 = unfold height in (omega arith) in
        parse_short form used (bytes_of (binary 48 a b)) (binary 48 a b) joined_readable h 0 64 [] [] n (sym (append-nil (bytes_of (binary 48 a b))))
        ∙ ap (refusal 2) (zero-add (total (take 64 (nodes_of (binary 48 a b)))))
