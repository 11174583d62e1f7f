-- One side's columns, one after another: a turn of the loop over them, its refusal and its end. Assumes nothing.
use mathlib.Core.Path.{◌≡◌, refl, sym, ap, subst, ◌∙◌}
use mathlib.Core.Bool.{Bool}
use mathlib.Core.List.{List, [], ◌∷◌, ◌++◌, append_assoc}
use Prim.Native.Nat.{ℕ, suc, ◌+◌, ◌*◌, ◌/◌, ◌≤◌, ◌<◌}
use native.Mathlib.Omega.{arith}
use native.Mathlib.Nat.{add-zero}
use native.Mathlib.Numerals.{add-one}
use lib.ListN.{length, take, drop, set, get_or, length-set, length-drop}
use lib.Seq.{take-take, take-suc-set}
use Rattle.slices.proofs.Pieces.{pair_drop}
use Rattle.refusals.specs.Stop.{never}
use Rattle.refusals.specs.declared.Refusal.TheVariants.{TooLong}
use Rattle.refusals.proofs.First.{never_both}
use Rattle.columns.specs.Column.{column_stop, columns_stop}
use Rattle.columns.proofs.Stops.{name_inside}
use Rattle.columns.proofs.Turns.{columns_turn}
use Rattle.tables.specs.Table.{column_count}
use Rattle.naming.specs.OneSide.{Head, joined, Named, name_of, rule_of, behind, of_name, side_of}
use Rattle.naming.specs.Side.{NameAsks, NameIs, named_by, ahead, SideAsks, SideIs}
use Rattle.std.specs.Prelude.{Ok, Err, Option, Some, None}

-- ---- words ahead

-- none, and two more
pub ahead_none : (h : Head) → ahead [] h ≡ h
ahead_none (joined words stored) = refl
ahead_none (Head.refused number place) = refl

ahead_behind : (l : List ℕ) (name rule : ℕ) (h : Head) → ahead l (behind name rule h) ≡ ahead (l ++ (name ∷ rule ∷ [])) h
ahead_behind l name rule (joined words stored) = ap (λ w. joined w stored) (sym (append_assoc l (name ∷ rule ∷ []) words))
ahead_behind l name rule (Head.refused number place) = refl

-- two words written behind those that are there
two_more : (l : List ℕ) (k n a b : ℕ) → k + 1 < length l → n ≡ suc (k + 1) → take n (set (set l k a) (k + 1) b) ≡ take k l ++ (a ∷ b ∷ [])
two_more l k n a b h e =
    let s : k + 1 ≡ suc k = add-one k in
    ap (λ m. take m (set (set l k a) (k + 1) b)) e
    ∙ take-suc-set (set l k a) (k + 1) b (rw length-set h)
    ∙ ap (λ y. y ++ (b ∷ [])) (ap (λ m. take m (set l k a)) s ∙ take-suc-set l k a (omega arith))
    ∙ append_assoc (take k l) (a ∷ []) (b ∷ [])

-- ---- the columns from one on

module _ (table : List ℕ) (nullable : Bool) where
  -- one column of a side, then the rest
  one_column : (l : List ℕ) (i number : ℕ) (rest : List ℕ → Head) (s : List ℕ) (n : Named) → i < length l / 2 → name_of table s (get_or l (2 * i) 0) ≡ n
      → side_of table nullable number (drop (2 * i) l) rest s
      ≡ of_name n number (rule_of nullable (get_or l (2 * i + 1) 0)) (λ s'. side_of table nullable (suc number) (drop (2 * (i + 1)) l) rest s')
  unfolding side_of
  one_column l i number rest s n h e = rw (pair_drop l i h, e)

  -- no column is left
  no_column : (l : List ℕ) (number : ℕ) (rest : List ℕ → Head) (s : List ℕ) → length l ≤ 1 → side_of table nullable number l rest s ≡ rest s
  unfolding side_of
  no_column [] number rest s h = refl
  no_column (a ∷ []) number rest s h = refl
  no_column (a ∷ b ∷ l) number rest s h = absurd (let z : ⊥ = omega arith in z)

-- ---- the loop

-- partway: the words and the text so far, then what is left of the side
pub record Joining (table columns : List ℕ) (nullable : Bool) (number used : ℕ) (text words text' words' : List ℕ) (top i : ℕ) : Type 0 where
  pub says : (rest : List ℕ → Head) → ahead (take (2 * number) words) (side_of table nullable number columns rest (take used text))
      ≡ ahead (take (2 * (number + i)) words') (side_of table nullable (number + i) (drop (2 * i) columns) rest (take top text'))
  pub kept : take used text' ≡ take used text
  pub long : length text' ≡ length text
  pub space : length words' ≡ length words
  pub passed : i ≤ column_count columns
  pub above : used ≤ top
  pub low : top ≤ used + 255 * i
  pub sound : columns_stop used (2 * i) (drop (2 * i) columns) ≡ never

module _ (table columns : List ℕ) (nullable : Bool) (number used : ℕ) (text words : List ℕ) (asks : SideAsks columns text words number used) where
  -- nothing is joined yet
  pub joining_start : Joining table columns nullable number used text words text words used 0
  joining_start = record {
    says = λ rest. rw (add-zero number);
    kept = refl;
    long = refl;
    space = refl;
    passed = omega arith;
    above = omega arith;
    low = omega arith;
    sound = asks.sound;
  }

  module _ (text' words' : List ℕ) (top i : ℕ) (j : Joining table columns nullable number used text words text' words' top i) where
    -- all columns are joined
    pub joining_end : column_count columns ≤ i → SideIs table columns nullable number used text text' words words' (Ok (2 * (number + i), top))
    joining_end h = record {
      says = λ rest. j.says rest ∙ ap (ahead (take (2 * (number + i)) words')) (no_column table nullable (drop (2 * i) columns) (number + i) rest (take top text') (rw length-drop (omega arith)));
      kept = j.kept;
      ends = λ c m q. let z : ◌≡◌ {A = ℕ × ℕ} (2 * (number + i), top) (c, m) = cc in
          let e : 2 * (number + i) ≡ c = ap (λ p. p.0) z in
          let f : top ≡ m = ap (λ p. p.1) z in
          (omega (arith, j.passed), omega (arith, j.above), omega (arith, j.low, j.passed));
    }

    module _ (more : i < column_count columns) where
      -- this column is sound, and so are those after it
      here : (column_stop used (get_or columns (2 * i) 0) (get_or columns (2 * i + 1) 0) (2 * i) ≡ never) × (columns_stop used (2 * i + 2) (drop (2 * i + 2) columns) ≡ never)
      here = never_both _ _ (sym (columns_turn used (2 * i) columns (2 * i) (omega arith)) ∙ j.sound)

      -- its name lies below the top, and there is room for the new one
      pub joining_asks : NameAsks (get_or columns (2 * i) 0) top (length text')
      unfolding column_stop
      joining_asks = record {
        inside = omega (arith, name_inside used (get_or columns (2 * i) 0) (2 * i) (never_both _ _ here.0).0, j.above);
        room = omega (arith, j.low, j.long, asks.room);
        small = omega (arith, j.long, asks.small);
      }

      module _ (text'' : List ℕ) (answer : Option (ℕ × ℕ)) (n : NameIs text' text'' top answer (name_of table (take top text') (get_or columns (2 * i) 0))) where
        -- the text below the side's mark is kept
        still : take used text'' ≡ take used text
        still = sym (take-take used top text'' j.above) ∙ ap (take used) n.kept ∙ take-take used top text' j.above ∙ j.kept

        -- the side with this column's name known
        step : (rest : List ℕ → Head) (a : Option (ℕ × ℕ)) → answer ≡ a → ahead (take (2 * number) words) (side_of table nullable number columns rest (take used text))
            ≡ ahead (take (2 * (number + i)) words') (of_name (named_by a text'') (number + i) (rule_of nullable (get_or columns (2 * i + 1) 0)) (λ s. side_of table nullable (suc (number + i)) (drop (2 * (i + 1)) columns) rest s))
        step rest a e = j.says rest
            ∙ ap (ahead (take (2 * (number + i)) words')) (one_column table nullable columns i (number + i) rest (take top text') (named_by a text'') more (n.says ∙ ap (λ x. named_by x text'') e))

        -- its name is too long: 7 at its number
        pub joining_refused : answer ≡ None → SideIs table columns nullable number used text text'' words words' (Err (TooLong (number + i)))
        joining_refused e = record {
          says = λ rest. step rest None e;
          kept = still;
          ends = λ c m q. absurd (let z : ◌≡◌ {A = ℕ} 0 1 = cc in omega arith);
        }

        -- one more column is joined
        pub joining_turn : (word mark rule : ℕ) → answer ≡ Some (word, mark) → length text'' ≡ length text' → rule ≡ rule_of nullable (get_or columns (2 * i + 1) 0)
            → Joining table columns nullable number used text words text'' (set (set words' (2 * (number + i)) word) (2 * (number + i) + 1) rule) mark (i + 1)
        joining_turn word mark rule e f g =
            let m = n.rises word mark e in
            let s : suc (number + i) ≡ number + (i + 1) = omega arith in
            let d : 2 * i + 2 ≡ 2 * (i + 1) = omega arith in
            let w : take (2 * (number + (i + 1))) (set (set words' (2 * (number + i)) word) (2 * (number + i) + 1) rule) ≡ take (2 * (number + i)) words' ++ (word ∷ rule ∷ []) =
            two_more words' (2 * (number + i)) (2 * (number + (i + 1))) word rule (omega (arith, j.space, asks.space)) (omega arith) in
            record {
              says = λ rest. step rest (Some (word, mark)) e ∙ ahead_behind (take (2 * (number + i)) words') word (rule_of nullable (get_or columns (2 * i + 1) 0)) (side_of table nullable (suc (number + i)) (drop (2 * (i + 1)) columns) rest (take mark text''))
                  ∙ (rw (w, g, s));
              kept = still;
              long = f ∙ j.long;
              space = rw (length-set, length-set) j.space;
              passed = omega arith;
              above = omega (arith, m.0, j.above);
              low = omega (arith, m.1, j.low);
              sound = subst (λ k. columns_stop used k (drop k columns) ≡ never) d here.1;
            }
