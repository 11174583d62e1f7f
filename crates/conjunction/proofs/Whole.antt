-- The last check of `with` gives 2 or nothing, and where (document 01: "Each is checked alone, the old first, then 2 for the whole;
-- places are offsets in the joined bytes"). Assumes nothing.
use mathlib.Core.Path.{◌≡◌, refl, sym, ap, ap₂, ◌∙◌}
use mathlib.Core.Bool.{Bool, true, false}
use mathlib.Core.List.{List, [], ◌∷◌, ◌++◌}
use Prim.Native.Nat.{ℕ, ◌+◌, ◌≤◌, ◌<◌, max}
use native.Mathlib.Omega.{arith}
use lib.ListN.{length, take, get_or}
use lib.Dec.{leb}
use borrow.Author.Tests.{leb-true, leb-false}
use Rattle.refusals.specs.Stop.{never}
use Rattle.conditions.specs.Ast.{Tree, binary, size, height}
use Rattle.nodes.specs.declared.Allowed.TheVariants.{Mixed}
use Rattle.forms.specs.Form.{Parsed, tree, refusal, parse, parsed, form_stop}
use Rattle.postfix.specs.Postfix.{bytes_of}
use Rattle.postfix.proofs.Reading.{Readable, parsed_readable}
use Rattle.postfix.proofs.Joined.{nodes_of, total, joined_fits, joined_deep, joined_long}
use Rattle.conjunction.specs.With.{conjunction, old_stop, each_stop}
use Rattle.conjunction.proofs.Stopping.{old_sound, new_sound}

-- a tree, or too large
pub data Whole (p : Parsed) : Type 0 where
  sound : (t : Tree ℕ) → p ≡ tree t → Whole p
  large : (place : ℕ) → p ≡ refusal 2 place → Whole p

-- a form that stops nothing is a tree's
form_tree : (p : Parsed) → form_stop p ≡ never → (t : Tree ℕ) × (p ≡ tree t)
form_tree (tree t) e = (t, refl)
form_tree (refusal number place) e = absurd (let z : ◌≡◌ {A = ℕ} 0 1 = cc in omega arith)

-- empty bytes are no condition
empty_none : (used : ℕ) (a : Tree ℕ) → parsed Mixed used [] ≡ tree a → ⊥
unfolding parse
empty_none used a e = let z : ◌≡◌ {A = ℕ} 0 1 = cc in omega arith

module _ (used : ℕ) (old new : List ℕ) (O : (i : ℕ) → get_or old i 0 < 256) (N : (i : ℕ) → get_or new i 0 < 256) where
  -- where both are trees, so that the old one is not empty
  module _ (a b : Tree ℕ) (e : parsed Mixed used old ≡ tree a) (f : parsed Mixed used new ≡ tree b) where
    -- what is known of the old tree and of the new one
    R : Readable Mixed used a × (bytes_of a ≡ old) × (size a ≤ 64) × (height a ≤ 16)
    R = parsed_readable Mixed used old O a e

    Q : Readable Mixed used b × (bytes_of b ≡ new) × (size b ≤ 64) × (height b ≤ 16)
    Q = parsed_readable Mixed used new N b f

    -- the joined bytes are those of AND of the two trees
    joined : conjunction old new ≡ bytes_of (binary 48 a b)
    unfolding bytes_of
    joined = by old e ∙ ap₂ (λ l m. l ++ (m ++ (48 ∷ []))) (sym R.1) (sym Q.1)
      where
        by : (old : List ℕ) → parsed Mixed used old ≡ tree a → conjunction old new ≡ old ++ (new ++ (48 ∷ []))
        by [] e = absurd (empty_none used a e)
        by (x ∷ old) e = refl

    -- within the bounds: AND of the two
    pub whole_fits : size a + size b + 1 ≤ 64 → max (height a) (height b) + 1 ≤ 16 → parsed Mixed used (conjunction old new) ≡ tree (binary 48 a b)
    unfolding size height
    whole_fits n h = ap (parsed Mixed used) joined ∙ joined_fits Mixed used a b R.0 Q.0 n h

    -- too deep only: 2 at AND
    pub whole_deep : size a + size b + 1 ≤ 64 → 16 < max (height a) (height b) + 1 → parsed Mixed used (conjunction old new) ≡ refusal 2 (length old + length new)
    unfolding size height
    whole_deep n h =
        ap (parsed Mixed used) joined ∙ joined_deep Mixed used a b R.0 Q.0 R.3 Q.3 n h ∙ ap₂ (λ l m. refusal 2 (length l + length m)) R.1 Q.1

    -- more than 64 nodes: 2 at the 65th
    pub whole_long : 64 < size a + size b + 1 → parsed Mixed used (conjunction old new) ≡ refusal 2 (total (take 64 (nodes_of (binary 48 a b))))
    unfolding size
    whole_long n = ap (parsed Mixed used) joined ∙ joined_long Mixed used a b R.0 Q.0 R.3 Q.3 n

    -- one of the three
    whole_one : Whole (parsed Mixed used (conjunction old new))
    whole_one = by (leb (size a + size b + 1) 64) (leb (max (height a) (height b) + 1) 16) refl refl
      where
        by : (x y : Bool) → leb (size a + size b + 1) 64 ≡ x → leb (max (height a) (height b) + 1) 16 ≡ y → Whole (parsed Mixed used (conjunction old new))
        by false y p q = large _ (whole_long (leb-false _ _ p))
        by true false p q = large _ (whole_deep (leb-true _ _ p) (leb-false _ _ q))
        by true true p q = sound _ (whole_fits (leb-true _ _ p) (leb-true _ _ q))

  -- the form of the whole is a tree or 2, nothing else, where each condition alone is sound
  pub whole_is : (text output : ℕ) → each_stop text used output old new ≡ never → Whole (parsed Mixed used (conjunction old new))
  whole_is text output n = by old whole_one (old_sound used text output old new n) (form_tree (parsed Mixed used new) (new_sound used text output old new n))
    where
      by : (old : List ℕ) → ((a b : Tree ℕ) → parsed Mixed used old ≡ tree a → parsed Mixed used new ≡ tree b → Whole (parsed Mixed used (conjunction old new)))
          → old_stop used old ≡ never → (b : Tree ℕ) × (parsed Mixed used new ≡ tree b) → Whole (parsed Mixed used (conjunction old new))
      by [] one s b = sound b.0 b.1
      by (x ∷ old) one s b = let a = form_tree (parsed Mixed used (x ∷ old)) s in one a.0 b.0 a.1 b.1
