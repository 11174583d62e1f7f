-- Two results that satisfy a contract of this crate are equal, but for what docs/EXCEPTIONS.md leaves open; that of join_rule is an equation already.
-- A lent slice keeps its length. Assumes nothing.
use mathlib.Core.Path.{◌≡◌, refl, sym, ap, ap₂, ◌∙◌}
use mathlib.Core.Bool.{Bool}
use mathlib.Core.List.{List, [], append-nil}
use Prim.Native.Nat.{ℕ, ◌≤◌}
use native.Mathlib.Omega.{arith}
use lib.ListN.{length, take}
use lib.Seq.{length-take-le}
use Rattle.refusals.specs.Stop.{Stop, never, stop}
use Rattle.refusals.proofs.Unique.{one_refusal}
use Rattle.naming.specs.OneSide.{Head, joined, Named, named, too_long}
use Rattle.naming.specs.Side.{NameAsks, NameIs, SideAsks, SideIs}
use Rattle.std.specs.Prelude.{Result, Ok, Err, Option, Some, None}
use Rattle.refusals.specs.declared.Refusal.{Refusal}

-- two parts from the start, each inside its list, are equal only if they are equally long
one_length : (m m' : ℕ) (x y : List ℕ) → m ≤ length x → m' ≤ length y → take m x ≡ take m' y → m ≡ m'
one_length m m' x y h k e = sym (length-take-le m x h) ∙ ap length e ∙ length-take-le m' y k

-- ---- one name

word_in : Named → ℕ
word_in (named word stored) = word
word_in too_long = 0

text_in : Named → List ℕ
text_in (named word stored) = stored
text_in too_long = []

kind : Named → ℕ
kind (named word stored) = 0
kind too_long = 1

-- the text below the top that is told
abbrev pub SameText : List ℕ → List ℕ → Option (ℕ × ℕ) → Type 0
SameText after after' (Some (word, mark)) = take mark after ≡ take mark after'
SameText after after' None = Unit {0}

module _ (word top : ℕ) (text after after' : List ℕ) (n : Named) (asks : NameAsks word top (length text)) (l : length after ≡ length text) (l' : length after' ≡ length text) where
  one_answer : (a b : Option (ℕ × ℕ)) → NameIs text after top a n → NameIs text after' top b n → (a ≡ b) × SameText after after' a
  unfolding word_in text_in kind
  one_answer (Some (w, m)) (Some (w', m')) h k =
      let e : take m after ≡ take m' after' = ap text_in (sym h.says ∙ k.says) in
      let i : m ≤ length after = let u = (h.rises w m refl).1 in omega (arith, u, asks.room, l) in
      let j : m' ≤ length after' = let u = (k.rises w' m' refl).1 in omega (arith, u, asks.room, l') in
      let q : m ≡ m' = one_length m m' after after' i j e in
      (ap₂ (λ x y. Some (x, y)) (ap word_in (sym h.says ∙ k.says)) q, e ∙ ap (λ v. take v after') (sym q))
  one_answer (Some (w, m)) None h k = absurd (let z : ◌≡◌ {A = ℕ} 0 1 = ap kind (sym h.says ∙ k.says) in omega arith)
  one_answer None (Some (w, m)) h k = absurd (let z : ◌≡◌ {A = ℕ} 1 0 = ap kind (sym h.says ∙ k.says) in omega arith)
  one_answer None None h k = (refl, tt)

  pub one_name : (a b : Option (ℕ × ℕ)) → NameIs text after top a n → NameIs text after' top b n
      → (a ≡ b) × SameText after after' a × (take top after ≡ take top after')
  one_name a b h k = let p = one_answer a b h k in (p.0, p.1, h.kept ∙ sym k.kept)

-- ---- a side

words_of : Head → List ℕ
words_of (joined words stored) = words
words_of (Head.refused number place) = []

stored_of : Head → List ℕ
stored_of (joined words stored) = stored
stored_of (Head.refused number place) = []

stopped : Head → Stop
stopped (joined words stored) = never
stopped (Head.refused number place) = stop number place

which : Head → ℕ
which (joined words stored) = 0
which (Head.refused number place) = 1

-- the words and the text below the top that are told
abbrev pub SameSide : List ℕ → List ℕ → List ℕ → List ℕ → Result (ℕ × ℕ) Refusal → Type 0
SameSide after after' words words' (Ok (count, mark)) = (take count words ≡ take count words') × (take mark after ≡ take mark after')
SameSide after after' words words' (Err r) = Unit {0}

module _ (table columns : List ℕ) (nullable : Bool) (number top : ℕ) (text after after' before words words' : List ℕ)
    (asks : SideAsks columns text before number top) (l : length after ≡ length text) (l' : length after' ≡ length text) where
  -- what is told where nothing follows
  alone : List ℕ → Head
  alone s = joined [] s

  one_told : (a b : Result (ℕ × ℕ) Refusal) → SideIs table columns nullable number top text after before words a
      → SideIs table columns nullable number top text after' before words' b → (a ≡ b) × SameSide after after' words words' a
  unfolding words_of stored_of stopped which alone
  one_told (Ok (c, m)) (Ok (c', m')) h k =
      let x = sym (h.says alone) ∙ k.says alone in
      let e : take m after ≡ take m' after' = ap stored_of x in
      let w : take c words ≡ take c' words' = sym (append-nil (take c words)) ∙ ap words_of x ∙ append-nil (take c' words') in
      let i : m ≤ length after = let u = (h.ends c m refl).2 in omega (arith, u, asks.room, l) in
      let j : m' ≤ length after' = let u = (k.ends c' m' refl).2 in omega (arith, u, asks.room, l') in
      let q : m ≡ m' = one_length m m' after after' i j e in
      let p : c ≡ c' = (h.ends c m refl).0 ∙ sym (k.ends c' m' refl).0 in
      (ap₂ (λ x y. Ok (x, y)) p q, (w ∙ ap (λ v. take v words') (sym p), e ∙ ap (λ v. take v after') (sym q)))
  one_told (Ok (c, m)) (Err s) h k = absurd (let z : ◌≡◌ {A = ℕ} 0 1 = ap which (sym (h.says alone) ∙ k.says alone) in omega arith)
  one_told (Err r) (Ok (c, m)) h k = absurd (let z : ◌≡◌ {A = ℕ} 1 0 = ap which (sym (h.says alone) ∙ k.says alone) in omega arith)
  one_told (Err r) (Err s) h k = (ap Err (one_refusal r s (ap stopped (sym (h.says alone) ∙ k.says alone))), tt)

  pub one_side : (a b : Result (ℕ × ℕ) Refusal) → SideIs table columns nullable number top text after before words a
      → SideIs table columns nullable number top text after' before words' b
      → (a ≡ b) × SameSide after after' words words' a × (take top after ≡ take top after')
  one_side a b h k = let p = one_told a b h k in (p.0, p.1, h.kept ∙ sym k.kept)
