-- The bytes that folding writes are read as the folded tree: folding keeps a tree readable. Assumes nothing.
use mathlib.Core.Path.{◌≡◌, refl, sym, subst}
use mathlib.Core.Bool.{true}
use mathlib.Core.List.{List, ◌++◌}
use Prim.Native.Nat.{ℕ, ◌+◌, ◌*◌, ◌≤◌, ◌<◌}
use native.Mathlib.Omega.{arith}
use lib.ListN.{length, get_or, length-append}
use mir.Facts.{Fits-of_z}
use Rattle.refusals.specs.Stop.{Stop, never, stop, unless_stopped}
use Rattle.cells.specs.Cell.{word_of}
use Rattle.values.specs.Value.{Value, null, int, str, binary}
use Rattle.integers.specs.Outcome.{cell_at}
use Rattle.operators.specs.declared.Rules.{Rules}
use Rattle.conditions.specs.Ast.{Tree, leaf, unary, size as count, height, joins}
use Rattle.nodes.specs.Kind.{known, is_kind, body_of}
use Rattle.nodes.specs.declared.Allowed.{Allowed}
use Rattle.nodes.specs.declared.Allowed.TheVariants.{Named, Bound, Mixed}
use Rattle.forms.specs.Form.{Parsed, tree, refusal, parsed, of_tree}
use Rattle.evaluation.proofs.Whole.{joins_size}
use Rattle.postfix.specs.Postfix.{bytes_of}
use Rattle.postfix.proofs.Readable.{leaf_readable}
use Rattle.postfix.proofs.Reading.{LeafReadable, Readable, parsed_readable, readable_parsed}
use Rattle.replacing.specs.Fold.{Folding, folded, appended, fold}
use Rattle.replacing.specs.Walk.{Literal}
use Rattle.folding.specs.Call.{fold_stop, folding}
use Rattle.shortening.proofs.Ways.{literal_at, Folds, same, kept_one, kept_two, value_one, value_two, fold_folds}
use Rattle.replacing.proofs.Literals.{literal_one, literal_two}
use Rattle.shortening.proofs.Growing.{folds_grown, grown}
use Rattle.folding.proofs.Calling.{there}

-- ---- readable trees

module _ (form : Allowed) (m n : ℕ) (l : m ≤ n) where
  -- a tree that is readable under a mark is readable under a higher one
  pub readable_higher : (t : Tree ℕ) → Readable form m t → Readable form n t
  unfolding Readable
  readable_higher (leaf w) r = record {
    kind = r.kind;
    allowed = r.allowed;
    body = r.body;
    text = λ q. omega (arith, r.text q);
    name = λ q. (omega (arith, (r.name q).0), (r.name q).1);
  }
  readable_higher (unary op a) r = (r.0, r.1, r.2, readable_higher a r.3)
  readable_higher (Tree.binary op a b) r = (r.0, r.1, readable_higher a r.2, readable_higher b r.3)

-- every form has literals
known_literal : (form : Allowed) → (known form 0 ≡ true) × (known form 1 ≡ true) × (known form 2 ≡ true)
unfolding known is_kind
known_literal Named = (refl, refl, refl)
known_literal Bound = (refl, refl, refl)
known_literal Mixed = (refl, refl, refl)

-- the leaf that a value becomes
literal_readable : (form : Allowed) (most n : ℕ) → most ≤ 1024 → n ≤ 65536 → (v : Value) → Literal most v → LeafReadable form (n + length (appended v)) (word_of (cell_at n v))
unfolding word_of body_of
literal_readable form most n short small null h =
    leaf_readable form (n + 0) 0 0 (omega arith) (known_literal form).0 (omega arith) (λ q. absurd (omega arith)) (λ q. absurd (omega arith))
literal_readable form most n short small (int z) h =
    leaf_readable form (n + 0) 1 _ (omega arith) (known_literal form).1 (omega (arith, (Fits-of_z h).fits)) (λ q. absurd (omega arith)) (λ q. absurd (omega arith))
literal_readable form most n short small (str b) h =
    leaf_readable form (n + length b) 2 (n * 65536 + length b) (omega arith) (known_literal form).2 (omega arith) (λ q. omega arith) (λ q. absurd (omega arith))
literal_readable form most n short small binary h = absurd h

module _ (R : Rules) (short : R.limit ≤ 1024) (form : Allowed) where
  -- an operator that gives way to its value
  value_readable : (most : ℕ) (s : List ℕ) (v : Value) → most ≤ 1024 → length s ≤ 65536 → Literal most v → Readable form (length (s ++ appended v)) (literal_at s v)
  unfolding Readable
  value_readable most s v few small h = rw (length-append s (appended v)) (literal_readable form most (length s) few small v h)

  -- whatever way a tree folds
  folds_readable : {t t' : Tree ℕ} {s s' : List ℕ} → Folds R t s t' s' → length s + 1024 * joins t ≤ 65536 → Readable form (length s) t → Readable form (length s') t'
  unfolding Readable joins
  folds_readable same room r = r
  folds_readable (kept_one h) room r = (r.0, r.1, r.2, folds_readable h room r.3)
  folds_readable (kept_two {b = b} {x = x} {s = s} {s₁ = s₁} {s₂ = s₂} h k) room r =
      let g = folds_grown R short h in (
        r.0,
        r.1,
        readable_higher form (length s₁) (length s₂) (folds_grown R short k).more.longer x (folds_readable h (omega arith) r.2),
        folds_readable k (omega (arith, g.few)) (readable_higher form (length s) (length s₁) g.more.longer b r.3),
      )
  folds_readable (value_one {op} {w} {s₁ = s₁} {v = v} h i e) room r =
      value_readable 0 s₁ v (omega arith) (omega (arith, (folds_grown R short h).few)) (literal_one R op s₁ w v e)
  folds_readable (value_two {op} {w} {u} {s₂ = s₂} {v = v} h k l i j e) room r =
      value_readable R.limit s₂ v short (omega (arith, (folds_grown R short h).few, (folds_grown R short k).few)) (literal_two R op s₂ w u v e)

-- ---- the call

-- an accepted folding: the tree that the bytes were, that nothing stopped it, and that it folded
pub record Accepted (R : Rules) (b stored : List ℕ) (size used output : ℕ) (t' : Tree ℕ) (s' : List ℕ) : Type 0 where
  pub was : Tree ℕ
  pub parses : parsed Mixed used b ≡ tree was
  pub passed : fold_stop b size used output ≡ never
  pub folds : fold R 0 was stored ≡ folded t' s'

-- what the call comes to where it is accepted
pub accepted : (R : Rules) (b stored : List ℕ) (size used output : ℕ) (t' : Tree ℕ) (s' : List ℕ)
    → folding R b stored size used output ≡ folded t' s' → Accepted R b stored size used output t' s'
unfolding folding
accepted R b stored size used output t' s' e = by (fold_stop b size used output) refl (parsed Mixed used b) refl e
  where
    by : (s : Stop) → fold_stop b size used output ≡ s → (p : Parsed) → parsed Mixed used b ≡ p
        → unless_stopped Folding.refused s (of_tree (λ t. fold R 0 t stored) Folding.refused p) ≡ folded t' s' → Accepted R b stored size used output t' s'
    by never h (tree t) k e = record { was = t; parses = k; passed = h; folds = e }
    by never h (refusal n p) k e = absurd (let z : ◌≡◌ {A = ℕ} 0 1 = cc in omega arith)
    by (stop n p) h q k e = absurd (let z : ◌≡◌ {A = ℕ} 0 1 = cc in omega arith)

module _ {R : Rules} {b stored : List ℕ} {size used output : ℕ} {t' : Tree ℕ} {s' : List ℕ} (short : R.limit ≤ 1024) (bytes : (i : ℕ) → get_or b i 0 < 256)
    (whole : length stored ≡ used) (A : Accepted R b stored size used output t' s') where
  -- the bytes are those of a readable tree within the bounds
  pub was_read : Readable Mixed used A.was × (bytes_of A.was ≡ b) × (count A.was ≤ 64) × (height A.was ≤ 16)
  was_read = parsed_readable Mixed used b bytes A.was A.parses

  -- there is room for every joined text
  pub joins_room : length stored + 1024 * joins A.was ≤ 65536
  joins_room = let h = there b size used output A.passed in omega (arith, whole, joins_size A.was, was_read.2, h.0, h.1)

  -- the folded tree is readable under the new mark, and within the bounds
  pub now_read : Readable Mixed (length s') t' × (count t' ≤ 64) × (height t' ≤ 16)
  now_read =
      let g = grown R short 0 A.was t' stored s' A.folds in (
        folds_readable R short Mixed (fold_folds R 0 A.was stored t' s' A.folds) joins_room (subst (λ n. Readable Mixed n A.was) (sym whole) was_read.0),
        omega (arith, g.small, was_read.2),
        omega (arith, g.shallow, was_read.3),
      )

-- the folded tree's bytes are read as it, under the mark after the text that was appended
pub read_back : (R : Rules) → R.limit ≤ 1024 → (b : List ℕ) → ((i : ℕ) → get_or b i 0 < 256) → (stored : List ℕ) (size used output : ℕ) → length stored ≡ used
    → (t : Tree ℕ) (s : List ℕ) → folding R b stored size used output ≡ folded t s → parsed Mixed (length s) (bytes_of t) ≡ tree t
read_back R short b bytes stored size used output whole t s e =
    let n = now_read short bytes whole (accepted R b stored size used output t s e) in
    readable_parsed Mixed (length s) t n.0 n.1 n.2
