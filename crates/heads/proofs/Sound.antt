-- The joined columns are well formed under the new mark, and are two words for each column of both sides: a join's condition is bound to them.
-- Assumes nothing.
use mathlib.Core.Path.{◌≡◌, refl, ap, subst}
use mathlib.Core.Bool.{Bool, true, false, not, cond}
use mathlib.Core.List.{List, [], ◌∷◌, ◌++◌}
use Prim.Native.Nat.{ℕ, suc, ◌+◌, ◌*◌, ◌^◌, ◌/◌, ◌%◌, ◌≤◌, ◌<◌}
use native.Mathlib.Omega.{arith}
use native.Mathlib.Nat.{zero-add}
use lib.ListN.{length, take, length-append}
use lib.Seq.{length-take-le}
use lib.Dec.{eqb, ltb, leb}
use borrow.Author.Tests.{eq-eqb, lt-ltb, le-leb, ltb-true, eqb-false, leb-true, not-false}
use Rattle.refusals.specs.Stop.{Stop, never, stop, stop_if, unless_stopped}
use Rattle.refusals.proofs.First.{never_both, not_stopped}
use Rattle.slices.specs.Splice.{piece}
use Rattle.slices.proofs.Extends.{Extends, extends_own, extends_more, extends_then}
use Rattle.cells.specs.Cell.{start_of, length_of, word_of, Inside}
use Rattle.cells.specs.declared.ValueRef.TheVariants.{Str}
use Rattle.cells.proofs.Words.{Sized}
use Rattle.cells.proofs.Stops.{well_word, never_stops}
use Rattle.rules.specs.Rule.{is_nullable, kind_fits, bound_of, is_rule, but_nullable}
use Rattle.rules.proofs.Nullable.{kind_kept, bound_kept}
use Rattle.columns.specs.Column.{name_stop, column_stop, columns_stop}
use Rattle.columns.proofs.Stops.{name_never}
use Rattle.tables.specs.Table.{column_count, is_table}
use Rattle.naming.specs.OneSide.{Head, joined, Named, named, too_long, prefixed, appended, name_of, rule_of, behind, of_name, side_of}
use Rattle.heads.specs.Heads.{head_of, head_stop, head, if_room}
use Rattle.heads.proofs.Rising.{name_rises, columns_rise}
use Rattle.heads.proofs.Stopping.{Passed, passed}

-- ---- rules

-- a set bit 8 leaves the bits above it as they are
nullable_bits : (r : ℕ) → r < 2 ^ 32 → (but_nullable r < 2 ^ 32) × (but_nullable r / 1024 ≡ r / 1024)
unfolding but_nullable
nullable_bits r h = by (is_nullable r) refl
  where
    by : (x : Bool) → is_nullable r ≡ x → (cond x r (r + 256) < 2 ^ 32) × (cond x r (r + 256) / 1024 ≡ r / 1024)
    by true e = (h, refl)
    by false e =
        let n = eqb-false (r / 256 % 2) 1 e in
        let even : r / 256 ≡ 2 * (r / 512) = omega arith in
        let same : (r + 256) / 512 ≡ r / 512 = omega arith in
        (omega arith, omega arith)

-- a rule made nullable is a rule
nullable_rule : (r : ℕ) → is_rule r ≡ true → is_rule (but_nullable r) ≡ true
unfolding is_rule
nullable_rule r h = rw (kind_kept r, bound_kept r) (by (ltb r (2 ^ 32)) refl h)
  where
    by : (x : Bool) → ltb r (2 ^ 32) ≡ x → cond x (cond (eqb (r / 1024 % 64) 0) (kind_fits (r % 256) (bound_of r)) false) false ≡ true
        → cond (ltb (but_nullable r) (2 ^ 32)) (cond (eqb (but_nullable r / 1024 % 64) 0) (kind_fits (r % 256) (bound_of r)) false) false ≡ true
    by true e q = let b = nullable_bits r (ltb-true r (2 ^ 32) e) in rw (lt-ltb (but_nullable r) (2 ^ 32) b.0, b.1) q
    by false e q = absurd (let z : ◌≡◌ {A = ℕ} 0 1 = cc in omega arith)

-- the rule of a joined column is a rule
rule_good : (nullable : Bool) (r : ℕ) → is_rule r ≡ true → is_rule (rule_of nullable r) ≡ true
rule_good true r h = nullable_rule r h
rule_good false r h = h

-- ---- one name

-- a name word that is sound below the new mark
GoodName : List ℕ → Named → Type 0
GoodName stored (named word s) = (name_stop (length s) word 0 ≡ never) × Extends stored s × (length s ≤ length stored + 255)
GoodName stored too_long = Unit {0}

-- the word of an appended name
new_good : (start size used : ℕ) → start ≤ 65536 → 1 ≤ size → size ≤ 255 → start + size ≤ used → name_stop used (word_of (Str start size)) 0 ≡ never
unfolding word_of Sized Inside
new_good start size used a b c d =
    let w = never_stops used (word_of (Str start size)) 0 (well_word used (Str start size) (omega arith, omega arith) d) in
    let k : (2 * 2 ^ 56 + (start * 65536 + size)) / 2 ^ 56 ≡ 2 = omega arith in
    let l : (2 * 2 ^ 56 + (start * 65536 + size)) % 65536 ≡ size = omega arith in
    name_never used (word_of (Str start size)) 0 w.0 k w.1 (rw l b) (rw l c)

-- a name appended, where it isn't too long
appended_good : (stored name : List ℕ) → length stored ≤ 65536 → 1 ≤ length name → GoodName stored (appended name stored)
unfolding GoodName
appended_good stored name h k = by (leb (length name) 255) refl
  where
    by : (x : Bool) → leb (length name) 255 ≡ x → GoodName stored (cond x (named (word_of (Str (length stored) (length name))) (stored ++ name)) too_long)
    by true e =
        let c = leb-true (length name) 255 e in
        (new_good (length stored) (length name) (length (stored ++ name)) h k c (omega (arith, length-append stored name)), extends_more stored name, omega (arith, length-append stored name))
    by false e = tt

-- a column's name in the joined table
name_good : (table stored : List ℕ) (used word p : ℕ) → name_stop used word p ≡ never → used ≤ length stored → length stored ≤ 65536 → GoodName stored (name_of table stored word)
unfolding GoodName
name_good [] stored used word p h u k = (name_rises used (length stored) u word p 0 h, extends_own stored, omega arith)
name_good (b ∷ table) stored used word p h u k = appended_good stored (prefixed (b ∷ table) (piece (start_of word) (length_of word) stored)) k (omega arith)

-- ---- columns

-- two words a column
abbrev column_words : List ℕ → ℕ
column_words columns = 2 * column_count columns

-- words that are sound below the new mark, so many, behind a text that is kept
pub record Good (stored : List ℕ) (count : ℕ) (words s : List ℕ) : Type 0 where
  pub sound : columns_stop (length s) 0 words ≡ never
  pub counted : length words ≡ count
  pub extends : Extends stored s

-- the same of a head that is joined
GoodHead : List ℕ → ℕ → Head → Type 0
GoodHead stored count (joined words s) = Good stored count words s
GoodHead stored count (Head.refused number place) = Unit {0}

-- one column ahead
behind_good : (stored s : List ℕ) (count name rule : ℕ) (h : Head) → GoodName stored (named name s) → is_rule rule ≡ true → GoodHead s count h → GoodHead stored (suc (suc count)) (behind name rule h)
unfolding GoodName GoodHead columns_stop column_stop
behind_good stored s count name rule (joined words t) n r g = record {
  sound = rw (name_rises (length s) (length t) g.extends.longer name 0 0 n.0, r, columns_rise (length t) (length t) (omega arith) words 0 (0 + 2) g.sound);
  counted = ap (λ k. suc (suc k)) g.counted;
  extends = extends_then n.1 g.extends;
}
behind_good stored s count name rule (Head.refused number place) n r g = tt

-- a column, its name being known, and what follows
of_name_good : (stored : List ℕ) (n : Named) (column rule count : ℕ) (rest : List ℕ → Head) → GoodName stored n → is_rule rule ≡ true
    → ((s : List ℕ) → length stored ≤ length s → length s ≤ length stored + 255 → GoodHead s count (rest s)) → GoodHead stored (suc (suc count)) (of_name n column rule rest)
unfolding GoodName GoodHead
of_name_good stored (named word s) column rule count rest n r f = behind_good stored s count word rule (rest s) n r (f s n.1.longer n.2)
of_name_good stored too_long column rule count rest n r f = tt

-- a side's columns and what follows them
side_good : (table : List ℕ) (nullable : Bool) (number : ℕ) (columns : List ℕ) (rest : List ℕ → Head) (stored : List ℕ) (used p count : ℕ)
    → columns_stop used p columns ≡ never → used ≤ length stored → length stored + 255 * column_count columns ≤ 65536
    → ((s : List ℕ) → length stored ≤ length s → length s ≤ length stored + 255 * column_count columns → GoodHead s count (rest s))
    → GoodHead stored (column_words columns + count) (side_of table nullable number columns rest stored)
unfolding side_of columns_stop column_stop
side_good table nullable number [] rest stored used p count h u k f = rw (zero-add count) (f stored (omega arith) (omega arith))
side_good table nullable number (name ∷ []) rest stored used p count h u k f = rw (zero-add count) (f stored (omega arith) (omega arith))
side_good table nullable number (name ∷ rule ∷ columns) rest stored used p count h u k f =
    let a = never_both (column_stop used name rule p) (columns_stop used (p + 2) columns) h in
    let b = never_both (name_stop used name p) (stop_if (not (is_rule rule)) 8 (p + 1)) a.0 in
    let e : suc (suc (column_words columns + count)) ≡ column_words (name ∷ rule ∷ columns) + count = omega arith in
    subst (λ c. GoodHead stored c (side_of table nullable number (name ∷ rule ∷ columns) rest stored)) e
    (of_name_good stored (name_of table stored name) number (rule_of nullable rule) (column_words columns + count) (λ s. side_of table nullable (suc number) columns rest s)
    (name_good table stored used name p b.0 u (omega arith)) (rule_good nullable rule (not-false (is_rule rule) (not_stopped (not (is_rule rule)) 8 (p + 1) b.1)))
    (λ s l m. side_good table nullable (suc number) columns rest s used (p + 2) count a.1 (omega arith) (omega arith) (λ t x y. f t (omega arith) (omega arith))))

-- ---- both sides

-- no word more
none_good : (s : List ℕ) → GoodHead s 0 (joined [] s)
unfolding GoodHead columns_stop
none_good s = record { sound = refl; counted = refl; extends = extends_own s }

module _ (nullable : Bool) (left_name left right_name right text : List ℕ) (used : ℕ) where
  -- all that is joined
  both_good : Passed left right (length text) used → GoodHead (take used text) (column_words left + (column_words right + 0)) (head_of nullable left_name left right_name right (take used text))
  both_good p =
      let long : length (take used text) ≡ used = length-take-le used text (omega (arith, p.room)) in
      let few : column_count left + column_count right ≤ 32 = p.few in
      let there : used + 32768 ≤ length text = p.room in
      let small : length text ≤ 65536 = p.small in
      side_good left_name false 0 left (λ s. side_of right_name nullable (column_count left) right (λ s'. joined [] s') s) (take used text) used 0 (column_words right + 0) p.left_sound (omega arith) (omega arith)
      (λ s l m. side_good right_name nullable (column_count left) right (λ s'. joined [] s') s used (length left) 0 p.right_sound (omega arith) (omega arith) (λ t x y. none_good t))

-- where the whole is joined, nothing stops it
unstopped : (s : Stop) (h : Head) (words t : List ℕ) → unless_stopped Head.refused s h ≡ joined words t → (s ≡ never) × (h ≡ joined words t)
unstopped never h words t e = (refl, e)
unstopped (stop number place) h words t e = absurd (let z : ◌≡◌ {A = ℕ} 0 1 = cc in omega arith)

-- and the output has room
roomy : (output : ℕ) (h : Head) (words s : List ℕ) → if_room output h ≡ joined words s → h ≡ joined words s
roomy output (joined own t) words s e = by (ltb output (length own)) e
  where
    by : (x : Bool) → cond x (Head.refused 9 (length own)) (joined own t) ≡ joined words s → joined own t ≡ joined words s
    by true h = absurd (let z : ◌≡◌ {A = ℕ} 0 1 = cc in omega arith)
    by false h = h
roomy output (Head.refused number place) words s e = absurd (let z : ◌≡◌ {A = ℕ} 0 1 = cc in omega arith)

-- the joined columns are sound, a table of the columns of both sides, and the text below the old mark is as it was
pub record JoinedSound (left right stored words s : List ℕ) : Type 0 where
  pub sound : columns_stop (length s) 0 words ≡ never
  pub counted : length words ≡ 2 * (column_count left + column_count right)
  pub table : is_table words ≡ true
  pub extends : Extends stored s

-- what head joins is so
pub joined_sound : (nullable : Bool) (left_name left right_name right text : List ℕ) (used output : ℕ) (words s : List ℕ)
    → head nullable left_name left right_name right (take used text) (length text) used output ≡ joined words s → JoinedSound left right (take used text) words s
unfolding head GoodHead is_table
joined_sound nullable left_name left right_name right text used output words s e =
    let a = unstopped (head_stop left_name left right_name right (length text) used) _ words s e in
    let p = passed left_name left right_name right (length text) used a.0 in
    let h = roomy output (head_of nullable left_name left right_name right (take used text)) words s a.1 in
    let g : Good (take used text) (column_words left + (column_words right + 0)) words s = subst (GoodHead (take used text) (column_words left + (column_words right + 0))) h (both_good nullable left_name left right_name right text used p) in
    let n : length words ≡ 2 * (column_count left + column_count right) = omega (arith, g.counted) in
    record {
      sound = g.sound;
      counted = n;
      table = rw (eq-eqb (length words % 2) 0 (omega arith), le-leb 1 (length words / 2) (omega (arith, p.left_counted.some)), le-leb (length words / 2) 32 (omega (arith, p.few)));
      extends = g.extends;
    }
