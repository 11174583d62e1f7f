-- Bytes, and numbers of two and of four of them: what is written is read back, and what is read is written back. Assumes nothing.
use mathlib.Core.Path.{◌≡◌, ap, ap₂, ◌∙◌}
use mathlib.Core.List.{List, [], ◌∷◌, ◌++◌}
use Prim.Native.Nat.{ℕ, zero, suc, ◌+◌, ◌*◌, ◌^◌, ◌/◌, ◌%◌, ◌≤◌, ◌<◌}
use native.Mathlib.Omega.{arith}
use native.Mathlib.Nat.{add-zero, add_assoc}
use lib.ListN.{length, get_or, take, drop}
use lib.Seq.{get_or-drop}
use Rattle.nodes.specs.Kind.{two, four}
use Rattle.nodes.proofs.Numbers.{Small}
use Rattle.postfix.specs.Postfix.{little}

-- an empty list is one
pub small_nil : Small []
small_nil i = omega arith

-- a byte before bytes
pub small_cons : (x : ℕ) (l : List ℕ) → x < 256 → Small l → Small (x ∷ l)
small_cons x l h k zero = h
small_cons x l h k (suc i) = k i

-- bytes after bytes
pub small_append : (l m : List ℕ) → Small l → Small m → Small (l ++ m)
small_append [] m h k = k
small_append (x ∷ l) m h k = small_cons x (l ++ m) (h 0) (small_append l m (λ i. h (suc i)) k)

-- what is left of bytes after some
pub small_drop : (n : ℕ) (l : List ℕ) → Small l → Small (drop n l)
small_drop n l h i = rw (get_or-drop n l i 0) (h (n + i))

-- a number is written in bytes
pub little_small : (n x : ℕ) → Small (little n x)
unfolding little
little_small zero x = small_nil
little_small (suc n) x = small_cons (x % 256) (little n (x / 256)) (omega arith) (little_small n (x / 256))

-- a byte at an offset is the first of what is left there
pub one_drop : (b : List ℕ) (i : ℕ) → get_or b i 0 ≡ get_or (drop i b) 0 0
one_drop b i = rw (get_or-drop i b 0 0, add-zero)

-- the same of a number of two bytes
pub two_drop : (b : List ℕ) (i : ℕ) → two b i ≡ two (drop i b) 0
two_drop b i = rw (get_or-drop i b 0 0, get_or-drop i b 1 0, add-zero)

-- and of four
pub four_drop : (b : List ℕ) (i : ℕ) → four b i ≡ four (drop i b) 0
four_drop b i = rw (get_or-drop i b 0 0, get_or-drop i b 1 0, get_or-drop i b 2 0, get_or-drop i b 3 0, add-zero, add_assoc i 2 1)

-- what is written is read back: one byte
pub one_little : (x : ℕ) (r : List ℕ) → x < 256 → get_or (little 1 x ++ r) 0 0 ≡ x
unfolding little
one_little x r h = omega arith

-- two bytes
pub two_little : (x : ℕ) (r : List ℕ) → x < 65536 → two (little 2 x ++ r) 0 ≡ x
unfolding little
two_little x r h = omega arith

-- four bytes
pub four_little : (x : ℕ) (r : List ℕ) → x < 2 ^ 32 → four (little 4 x ++ r) 0 ≡ x
unfolding little
four_little x r h = omega arith

-- one byte more, below the others
little_step : (n x v : ℕ) → x < 256 → little (suc n) (x + 256 * v) ≡ x ∷ little n v
unfolding little
little_step n x v h =
    let e : (x + 256 * v) % 256 ≡ x = omega arith in
    let f : (x + 256 * v) / 256 ≡ v = omega arith in
    ap₂ (λ y u. y ∷ little n u) e f

-- what is read is written back: one byte
pub little_one : (l : List ℕ) → Small l → 1 ≤ length l → little 1 (get_or l 0 0) ≡ take 1 l
unfolding little
little_one [] B h = absurd (omega arith)
little_one (x ∷ l) B h = let e : x % 256 ≡ x = omega (arith, B 0) in ap (λ y. y ∷ []) e

-- two bytes
pub little_two : (l : List ℕ) → Small l → 2 ≤ length l → little 2 (two l 0) ≡ take 2 l
unfolding little
little_two [] B h = absurd (omega arith)
little_two (x ∷ l) B h = little_step 1 x (get_or l 0 0) (B 0) ∙ ap (λ m. x ∷ m) (little_one l (λ i. B (suc i)) (omega arith))

-- four bytes
pub little_four : (l : List ℕ) → Small l → 4 ≤ length l → little 4 (four l 0) ≡ take 4 l
little_four [] B h = absurd (omega arith)
little_four (x ∷ []) B h = absurd (omega arith)
little_four (x ∷ (y ∷ l)) B h =
    let e : four (x ∷ (y ∷ l)) 0 ≡ x + 256 * (y + 256 * two l 0) = omega arith in
    ap (little 4) e ∙ little_step 3 x (y + 256 * two l 0) (B 0) ∙ ap (λ m. x ∷ m) (little_step 2 y (two l 0) (B 1))
    ∙ ap (λ m. x ∷ (y ∷ m)) (little_two l (λ i. B (suc (suc i))) (omega arith))
