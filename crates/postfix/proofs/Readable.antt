-- Trees whose bytes can be read again: what a leaf's word and an operator must be. Assumes nothing.
use mathlib.Core.Path.{◌≡◌, refl, sym, ap, ap₂, ◌∙◌}
use mathlib.Core.Bool.{true}
use mathlib.Core.List.{List, ◌∷◌, ◌++◌, append_assoc}
use Prim.Native.Nat.{ℕ, zero, suc, ◌+◌, ◌*◌, ◌^◌, ◌≤◌, ◌<◌}
use native.Mathlib.Omega.{arith}
use native.Mathlib.Nat.{add_assoc, pow-le-pow_right}
use lib.ListN.{length, get_or, take, drop, length-drop}
use lib.Seq.{drop-drop, take-add}
use lib.Dec.{leb}
use borrow.Author.Tests.{le-leb, leb-true}
use Rattle.slices.proofs.Both.{both_true}
use Rattle.cells.specs.Cell.{kind_of, body_of, start_of, length_of}
use Rattle.columns.specs.Column.{is_name_length}
use Rattle.conditions.specs.Ast.{Tree, leaf, unary, binary}
use Rattle.nodes.specs.Kind.{known, body_of as long, leaf_word, text_fits, two, four}
use Rattle.nodes.specs.declared.Allowed.{Allowed}
use Rattle.postfix.specs.Postfix.{little, body_bytes, leaf_bytes}
use Rattle.postfix.proofs.Leaves.{bytes_int, bytes_text, bytes_name, bytes_column}
use Rattle.nodes.proofs.Numbers.{Small, two_small, four_small}
use Rattle.nodes.proofs.Bodies.{body_short}
use Rattle.postfix.proofs.Numbers.{small_drop, one_drop, two_drop, four_drop, one_little, two_little, four_little, little_one, little_two, little_four}

-- a leaf's word: a kind of leaf that the form has, a body that the kind's bytes can hold, a text that ends at or before the mark, and a name's length
pub record LeafReadable (form : Allowed) (used w : ℕ) : Type 0 where
  pub kind : kind_of w < 5
  pub allowed : known form (kind_of w) ≡ true
  pub body : body_of w < 256 ^ long (kind_of w)
  pub text : kind_of w ≡ 2 → start_of w + length_of w ≤ used
  pub name : kind_of w ≡ 3 → (start_of w + length_of w ≤ used) × (is_name_length (length_of w) ≡ true)

-- a tree of such leaves, its operators known ones: 16 to 18 over one operand, 32 to 46, 48 and 49 over two
unfoldable pub Readable : Allowed → ℕ → Tree ℕ → Type 0
Readable form used (leaf w) = LeafReadable form used w
Readable form used (unary op a) = (known form op ≡ true) × (16 ≤ op) × (op < 32) × Readable form used a
Readable form used (binary op a b) = (known form op ≡ true) × (32 ≤ op) × Readable form used a × Readable form used b

-- ---- a leaf that stands in bytes is read

module _ (b post : List ℕ) (at w : ℕ) (e : drop at b ≡ leaf_bytes w ++ post) where
  -- the body stands after the kind
  body_after : drop (at + 1) b ≡ body_bytes w ++ post
  body_after = sym (drop-drop 1 at b) ∙ ap (drop 1) e

  module _ (q : body_bytes w ≡ little 4 (start_of w) ++ little 2 (length_of w)) where
    -- a text's start is read
    start_read : four b (at + 1) ≡ start_of w
    start_read =
        four_drop b (at + 1) ∙ ap (λ l. four l 0) (body_after ∙ ap (λ l. l ++ post) q ∙ append_assoc (little 4 (start_of w)) _ post) ∙ four_little (start_of w) _ (omega arith)

    -- and its length
    length_read : two b (at + 5) ≡ length_of w
    unfolding little
    length_read =
        let d : drop (at + 5) b ≡ little 2 (length_of w) ++ post =
        ap (λ i. drop i b) (sym (add_assoc at 1 4)) ∙ sym (drop-drop 4 (at + 1) b) ∙ ap (drop 4) (body_after ∙ ap (λ l. l ++ post) q) in
        two_drop b (at + 5) ∙ ap (λ l. two l 0) d ∙ two_little (length_of w) post (omega arith)

  module _ (form : Allowed) (used : ℕ) (R : LeafReadable form used w) where
    -- its word
    pub word_by : (k : ℕ) → kind_of w ≡ k → leaf_word b at k ≡ w
    unfolding leaf_word long
    word_by zero q = let h : body_of w < 256 ^ long 0 = rw q at R.body in omega arith
    word_by (suc zero) q =
        let h : body_of w < 256 ^ long 1 = rw q at R.body in
        let f : four b (at + 1) ≡ body_of w = four_drop b (at + 1) ∙ ap (λ l. four l 0) (body_after ∙ ap (λ l. l ++ post) (bytes_int w q)) ∙ four_little (body_of w) post h in
        omega arith
    word_by (suc (suc zero)) q =
        let h : body_of w < 256 ^ long 2 = rw q at R.body in
        omega (arith, start_read (bytes_text w q), length_read (bytes_text w q))
    word_by (suc (suc (suc zero))) q =
        let h : body_of w < 256 ^ long 3 = rw q at R.body in
        omega (arith, start_read (bytes_name w q), length_read (bytes_name w q))
    word_by (suc (suc (suc (suc zero)))) q =
        let h : body_of w < 256 ^ long 4 = rw q at R.body in
        let f : get_or b (at + 1) 0 ≡ body_of w = one_drop b (at + 1) ∙ ap (λ l. get_or l 0 0) (body_after ∙ ap (λ l. l ++ post) (bytes_column w q)) ∙ one_little (body_of w) post h in
        omega arith
    word_by (suc (suc (suc (suc (suc k))))) q = absurd (omega (arith, R.kind))

    -- its text
    pub text_by : (k : ℕ) → kind_of w ≡ k → text_fits used b at k ≡ true
    unfolding text_fits
    text_by zero q = refl
    text_by (suc zero) q = refl
    text_by (suc (suc zero)) q =
        rw (start_read (bytes_text w q), length_read (bytes_text w q)) (le-leb (start_of w + length_of w) used (R.text q))
    text_by (suc (suc (suc zero))) q =
        rw (start_read (bytes_name w q), length_read (bytes_name w q), le-leb (start_of w + length_of w) used (R.name q).0) (R.name q).1
    text_by (suc (suc (suc (suc zero)))) q = refl
    text_by (suc (suc (suc (suc (suc k))))) q = absurd (omega (arith, R.kind))

-- ---- a word that is read is a readable leaf's, and its body's bytes are those that were read

-- the parts of a word
module _ (k x : ℕ) (h : x < 2 ^ 56) where
  -- its kind
  pub kind_of_lem : kind_of (k * 2 ^ 56 + x) ≡ k
  kind_of_lem = omega arith

  -- its body
  pub body_of_lem : body_of (k * 2 ^ 56 + x) ≡ x
  body_of_lem = omega arith

  -- a text's start
  start_of_lem : start_of (k * 2 ^ 56 + x) ≡ start_of x
  start_of_lem = omega arith

  -- a text's length
  length_of_lem : length_of (k * 2 ^ 56 + x) ≡ length_of x
  length_of_lem = omega arith

-- a body is below 2^56
body_below : (k x : ℕ) → x < 256 ^ long k → x < 2 ^ 56
body_below k x h = let p : 256 ^ long k ≤ 256 ^ 6 = pow-le-pow_right (omega arith) (body_short k) in omega arith

-- a leaf by its kind and its body
pub leaf_readable : (form : Allowed) (used k x : ℕ) → k < 5 → known form k ≡ true → x < 256 ^ long k
    → (k ≡ 2 → start_of x + length_of x ≤ used) → (k ≡ 3 → (start_of x + length_of x ≤ used) × (is_name_length (length_of x) ≡ true)) → LeafReadable form used (k * 2 ^ 56 + x)
leaf_readable form used k x l K h t n =
    let b : x < 2 ^ 56 = body_below k x h in
    let e = kind_of_lem k x b in
    record {
      kind = rw e l;
      allowed = rw e K;
      body = rw (e, body_of_lem k x b) h;
      text = λ q. rw (start_of_lem k x b, length_of_lem k x b) (t (sym e ∙ q));
      name = λ q. rw (start_of_lem k x b, length_of_lem k x b) (n (sym e ∙ q));
    }

-- what is read at a node of a leaf's kind
pub record LeafRead (form : Allowed) (used : ℕ) (b : List ℕ) (at k : ℕ) : Type 0 where
  pub readable : LeafReadable form used (leaf_word b at k)
  pub bytes : leaf_bytes (leaf_word b at k) ≡ k ∷ take (long k) (drop (at + 1) b)

module _ (form : Allowed) (used at : ℕ) (b : List ℕ) (B : Small b) where
  -- what stands after the kind is bytes
  rest_small : Small (drop (at + 1) b)
  rest_small = small_drop (at + 1) b B

  -- as many as the body has, at least
  rest_long : (n : ℕ) → at + 1 + n ≤ length b → n ≤ length (drop (at + 1) b)
  rest_long n h = omega (arith, length-drop (at + 1) b)

  -- Null is read
  read_null : known form 0 ≡ true → LeafRead form used b at 0
  unfolding leaf_word long body_bytes
  read_null K = record { readable = leaf_readable form used 0 0 (omega arith) K (omega arith) (λ q. absurd (omega arith)) (λ q. absurd (omega arith)); bytes = refl }

  -- an Int is read
  read_int : known form 1 ≡ true → at + 1 + long 1 ≤ length b → LeafRead form used b at 1
  unfolding leaf_word long
  read_int K I =
      let x : ℕ = four b (at + 1) in
      let s : x < 2 ^ 32 = four_small b B (at + 1) in
      let e = kind_of_lem 1 x (omega arith) in
      record {
        readable = leaf_readable form used 1 x (omega arith) K s (λ q. absurd (omega arith)) (λ q. absurd (omega arith));
        bytes = ap₂ (λ k l. k ∷ l) e
            (bytes_int (1 * 2 ^ 56 + x) e ∙ ap (little 4) (body_of_lem 1 x (omega arith) ∙ four_drop b (at + 1)) ∙ little_four (drop (at + 1) b) rest_small (rest_long 4 I));
      }

  -- a text and a name are read alike
  module _ (I : at + 1 + 6 ≤ length b) where
    -- a text's start
    abbrev start : ℕ
    start = four b (at + 1)

    -- its length
    abbrev size : ℕ
    size = two b (at + 5)

    -- its body
    abbrev body : ℕ
    body = start * 65536 + size

    -- the start has 32 bits
    start_small : start < 2 ^ 32
    start_small = four_small b B (at + 1)

    -- the length 16
    size_small : size < 65536
    size_small = two_small b B (at + 5)

    -- the body 48
    body_fits : body < 2 ^ 48
    body_fits = omega (arith, start_small, size_small)

    -- the start is read off the body
    body_start : start_of body ≡ start
    body_start = omega (arith, start_small, size_small)

    -- and the length
    body_length : length_of body ≡ size
    body_length = omega (arith, start_small, size_small)

    -- the body's bytes
    text_bytes : (k : ℕ) → body_bytes (k * 2 ^ 56 + body) ≡ little 4 (start_of (k * 2 ^ 56 + body)) ++ little 2 (length_of (k * 2 ^ 56 + body))
        → body_bytes (k * 2 ^ 56 + body) ≡ take 6 (drop (at + 1) b)
    text_bytes k e =
        let d : drop (at + 5) b ≡ drop 4 (drop (at + 1) b) = ap (λ i. drop i b) (sym (add_assoc at 1 4)) ∙ sym (drop-drop 4 (at + 1) b) in
        let p : start_of (k * 2 ^ 56 + body) ≡ four (drop (at + 1) b) 0 = start_of_lem k body (omega (arith, body_fits)) ∙ body_start ∙ four_drop b (at + 1) in
        let q : length_of (k * 2 ^ 56 + body) ≡ two (drop 4 (drop (at + 1) b)) 0 = length_of_lem k body (omega (arith, body_fits)) ∙ body_length ∙ two_drop b (at + 5) ∙ ap (λ l. two l 0) d in
        let f : little 4 (start_of (k * 2 ^ 56 + body)) ≡ take 4 (drop (at + 1) b) = ap (little 4) p ∙ little_four (drop (at + 1) b) rest_small (omega (arith, rest_long 6 I)) in
        let g : little 2 (length_of (k * 2 ^ 56 + body)) ≡ take 2 (drop 4 (drop (at + 1) b)) =
        ap (little 2) q ∙ little_two (drop 4 (drop (at + 1) b)) (small_drop 4 (drop (at + 1) b) rest_small) (omega (arith, length-drop 4 (drop (at + 1) b), rest_long 6 I)) in
        e ∙ ap₂ ◌++◌ f g ∙ sym (take-add 4 2 (drop (at + 1) b))

  -- a text is read
  read_text : known form 2 ≡ true → at + 1 + long 2 ≤ length b → text_fits used b at 2 ≡ true → LeafRead form used b at 2
  unfolding leaf_word long text_fits
  read_text K I F =
      let e = kind_of_lem 2 (body I) (omega (arith, body_fits I)) in
      let l : start I + size I ≤ used = leb-true _ _ F in
      record {
        readable = leaf_readable form used 2 (body I) (omega arith) K (body_fits I) (λ q. rw (body_start I, body_length I) l) (λ q. absurd (omega arith));
        bytes = ap₂ (λ k m. k ∷ m) e (text_bytes I 2 (bytes_text (2 * 2 ^ 56 + body I) e));
      }

  -- a name is read
  read_name : known form 3 ≡ true → at + 1 + long 3 ≤ length b → text_fits used b at 3 ≡ true → LeafRead form used b at 3
  unfolding leaf_word long text_fits
  read_name K I F =
      let e = kind_of_lem 3 (body I) (omega (arith, body_fits I)) in
      let t = both_true (leb (start I + size I) used) (is_name_length (size I)) F in
      record {
        readable = leaf_readable form used 3 (body I) (omega arith) K (body_fits I) (λ q. absurd (omega arith))
            (λ q. rw (body_start I, body_length I) (leb-true _ _ t.0, t.1));
        bytes = ap₂ (λ k m. k ∷ m) e (text_bytes I 3 (bytes_name (3 * 2 ^ 56 + body I) e));
      }

  -- a column's number is read
  read_column : known form 4 ≡ true → at + 1 + long 4 ≤ length b → LeafRead form used b at 4
  unfolding leaf_word long
  read_column K I =
      let x : ℕ = get_or b (at + 1) 0 in
      let s : x < 256 = B (at + 1) in
      let e = kind_of_lem 4 x (omega arith) in
      record {
        readable = leaf_readable form used 4 x (omega arith) K s (λ q. absurd (omega arith)) (λ q. absurd (omega arith));
        bytes = ap₂ (λ k l. k ∷ l) e
            (bytes_column (4 * 2 ^ 56 + x) e ∙ ap (little 1) (body_of_lem 4 x (omega arith) ∙ one_drop b (at + 1)) ∙ little_one (drop (at + 1) b) rest_small (rest_long 1 I));
      }

  -- a leaf of any kind is read
  pub leaf_read : (k : ℕ) → k < 5 → known form k ≡ true → at + 1 + long k ≤ length b → text_fits used b at k ≡ true → LeafRead form used b at k
  leaf_read zero l K I F = read_null K
  leaf_read (suc zero) l K I F = read_int K I
  leaf_read (suc (suc zero)) l K I F = read_text K I F
  leaf_read (suc (suc (suc zero))) l K I F = read_name K I F
  leaf_read (suc (suc (suc (suc zero)))) l K I F = read_column K I
  leaf_read (suc (suc (suc (suc (suc k))))) l K I F = absurd (omega arith)
