-- The body of a leaf by its kind. Assumes nothing.
use mathlib.Core.Path.{◌≡◌, refl}
use mathlib.Core.Bool.{Bool, true, false, cond}
use mathlib.Core.List.{List, [], ◌++◌}
use Prim.Native.Nat.{ℕ}
use native.Mathlib.Omega.{arith}
use lib.ListN.{length, length-append}
use lib.Dec.{eqb}
use borrow.Author.Tests.{ne_eqb}
use Rattle.cells.specs.Cell.{kind_of, body_of, start_of, length_of}
use Rattle.nodes.specs.Kind.{body_of as long}
use Rattle.postfix.specs.Postfix.{little, body_bytes}
use Rattle.nodes.proofs.Numbers.{Small}
use Rattle.postfix.proofs.Numbers.{small_nil, small_append, little_small}
use Rattle.postfix.proofs.Writing.{length_little}

-- a text's or a name's start and length take 6 bytes
length_text : (x y : ℕ) → length (little 4 x ++ little 2 y) ≡ 6
length_text x y = omega (arith, length-append (little 4 x) (little 2 y), length_little 4 x, length_little 2 y)

-- what holds of each kind's body and its length holds of any leaf's
body_by : (P : List ℕ → ℕ → Type 0) (w : ℕ) → P (little 4 (body_of w)) 4 → P (little 4 (start_of w) ++ little 2 (length_of w)) 6 → P (little 1 (body_of w)) 1 → P [] 0
    → P (body_bytes w) (long (kind_of w))
unfolding body_bytes long
body_by P w int text column none = by (eqb (kind_of w) 1) (eqb (kind_of w) 2) (eqb (kind_of w) 3) (eqb (kind_of w) 4)
  where
    words : List ℕ
    words = little 4 (start_of w) ++ little 2 (length_of w)

    by : (p q r s : Bool) → P (cond p (little 4 (body_of w)) (cond q words (cond r words (cond s (little 1 (body_of w)) [])))) (cond p 4 (cond q 6 (cond r 6 (cond s 1 0))))
    by true q r s = int
    by false true r s = text
    by false false true s = text
    by false false false true = column
    by false false false false = none

-- a body is as long as its kind says
pub length_body : (w : ℕ) → length (body_bytes w) ≡ long (kind_of w)
length_body w = body_by (λ l n. length l ≡ n) w (length_little 4 (body_of w)) (length_text (start_of w) (length_of w)) (length_little 1 (body_of w)) refl

-- and it is bytes
pub small_body : (w : ℕ) → Small (body_bytes w)
small_body w =
    body_by (λ l n. Small l) w (little_small 4 (body_of w))
    (small_append (little 4 (start_of w)) (little 2 (length_of w)) (little_small 4 (start_of w)) (little_small 2 (length_of w))) (little_small 1 (body_of w)) small_nil

module _ (w : ℕ) where
  -- an Int's 4 bytes
  pub bytes_int : kind_of w ≡ 1 → body_bytes w ≡ little 4 (body_of w)
  unfolding body_bytes
  bytes_int e = rw e

  -- a text's start and length
  pub bytes_text : kind_of w ≡ 2 → body_bytes w ≡ little 4 (start_of w) ++ little 2 (length_of w)
  unfolding body_bytes
  bytes_text e = rw e

  -- a name's start and length
  pub bytes_name : kind_of w ≡ 3 → body_bytes w ≡ little 4 (start_of w) ++ little 2 (length_of w)
  unfolding body_bytes
  bytes_name e = rw e

  -- a column's number
  pub bytes_column : kind_of w ≡ 4 → body_bytes w ≡ little 1 (body_of w)
  unfolding body_bytes
  bytes_column e = rw e

  -- any other kind has no body
  pub bytes_none : (kind_of w ≡ 1 → ⊥) → (kind_of w ≡ 2 → ⊥) → (kind_of w ≡ 3 → ⊥) → (kind_of w ≡ 4 → ⊥) → body_bytes w ≡ []
  unfolding body_bytes
  bytes_none a b c d = rw (ne_eqb _ 1 a, ne_eqb _ 2 b, ne_eqb _ 3 c, ne_eqb _ 4 d)
