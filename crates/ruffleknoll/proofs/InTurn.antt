-- Calls in turn (document 01: nested `Select`): the joined columns with the rows that a join wrote are a table that `select`, `delete` and `update`
-- take under the new mark, unless there are more than 4,096 rows. Assumes nothing.
use mathlib.Core.Path.{◌≡◌, refl, sym, ap, ap₂, subst, ◌∙◌}
use mathlib.Core.Bool.{Bool, true, false}
use mathlib.Core.List.{List, [], ◌∷◌, ◌++◌, flat_map, Memᴰ}
use Prim.Native.Nat.{ℕ, zero, suc, ◌+◌, ◌*◌, ◌/◌, ◌%◌, ◌≤◌, ◌<◌}
use native.Mathlib.Omega.{arith}
use native.Mathlib.Nat.{zero-mul, suc-mul, mul-mod_left, mul-div_cancel}
use lib.ListN.{length, take, drop, get_or, replicate}
use lib.Seq.{take_at, take-append_seam, drop-append-add}
use borrow.Author.Tests.{eq-eqb, le-leb, lt-leb}
use Rattle.refusals.specs.Stop.{Stop, never, stop, first_of}
use Rattle.refusals.proofs.First.{never_both, nothing_behind}
use Rattle.slices.specs.Splice.{splice}
use Rattle.slices.proofs.Splice.{splice_start}
use Rattle.slices.proofs.Pieces.{piece_length}
use Rattle.cells.specs.Cell.{cell_stop}
use Rattle.cells.proofs.Stops.{never_stops, stop_never, well_formed, inside_more}
use Rattle.checks.specs.Check.{room_stop, cells_stop}
use Rattle.writing.proofs.Reports.{same_count, count_apart, same_wrote, wrote_apart}
use Rattle.operators.specs.Operator.{base}
use Rattle.operators.specs.declared.Rules.{Rules}
use Rattle.tables.specs.Table.{column_count, is_table, are_rows, count_stop, words_stop}
use Rattle.tables.proofs.Words.{table_counted, words_are, no_columns, no_cells}
use Rattle.testing.specs.Test.{room_for}
use Rattle.marking.specs.Marks.{part}
use Rattle.marking.proofs.Lists.{cells_part}
use Rattle.marking.proofs.Marking.{row_inside}
use Rattle.entries.specs.Entries.{Entry, pair, padded, entries_from, entry_words, list_words, Row, row_in, Given, test_in, join_stops, join_stop, Outcome, answered, refused, outcome_of}
use Rattle.entries.specs.Added.{is_pair}
use Rattle.entries.proofs.Keep.{mem_of_keep}
use Rattle.entries.proofs.Inner.{inner_list_lem}
use Rattle.entries.proofs.Words.{words_length, entry_length}
use Rattle.pairs.specs.Sides.{entries_of}
use Rattle.pairs.proofs.Pairing.{cells_both}
use Rattle.seeking.proofs.Keyed.{nulls_sound}
use Rattle.keeping.specs.Table.{table_stop}
use Rattle.naming.specs.OneSide.{Head, joined}
use Rattle.heads.specs.Heads.{head, HeadIs}
use Rattle.heads.proofs.Sound.{joined_sound}
use Rattle.joins.specs.Join.{rows_of, is_whole, given_of, OutcomeIs}
use Rattle.joins.specs.Sides.{sides_stop, join_of}
use Rattle.joins.proofs.Rows.{rows_length, rows_part}
use Rattle.joins.proofs.Bridge.{Passed, sides_passed, stops_are}
use Rattle.answers.specs.Answer.{accepted, of_written}
use Rattle.answers.specs.Tells.{Tells}
use Rattle.answers.specs.declared.Answer.{Answer}
use Rattle.answers.proofs.Apart.{written_apart, joined_apart}
use Rattle.ruffleknoll.specs.Calls.{JoinsColumns, LeftJoins, InnerJoins}
use Rattle.std.specs.Prelude.{Result, Ok}
use Rattle.refusals.specs.declared.Refusal.{Refusal}

-- ---- sound cells

-- cells that are sound below a mark are so below a higher one, at any place
cells_rise : (m n : ℕ) → m ≤ n → (p q : ℕ) (ws : List ℕ) → cells_stop m p ws ≡ never → cells_stop n q ws ≡ never
unfolding cells_stop
cells_rise m n l p q [] h = refl
cells_rise m n l p q (w ∷ ws) h =
    let s = never_both (cell_stop m w p) (cells_stop m (suc p) ws) h in
    let r = never_stops n w 0 (inside_more m n w l (well_formed m w p s.0)) in
    rw (stop_never n w q r.0 r.1) (cells_rise m n l (suc p) (suc q) ws s.1)

-- where all rows of both sides are sound, what a join lists of them is
module _ (used : ℕ) (left right : ℕ → List ℕ) (columns : ℕ) (lefts : (i p : ℕ) → cells_stop used p (left i) ≡ never) (rights : (j p : ℕ) → cells_stop used p (right j) ≡ never) where
  -- one entry's words
  entry_sound : (e : Entry) (p : ℕ) → cells_stop used p (entry_words left right columns e) ≡ never
  entry_sound (pair i j) p = cells_both used p (left i) (right j) (lefts i p) (rights j 0)
  entry_sound (padded i) p = cells_both used p (left i) (replicate columns 0) (lefts i p) (nulls_sound used 0 columns)

  -- a list's words
  list_sound : (es : List Entry) (p : ℕ) → cells_stop used p (list_words left right columns es) ≡ never
  unfolding flat_map
  list_sound [] p = no_cells used p
  list_sound (e ∷ es) p = cells_both used p (entry_words left right columns e) (list_words left right columns es) (entry_sound e p) (list_sound es 0)

-- where every entry takes as many words, the row of a number has the words of the entry of that number
row_of_entry : (left right : ℕ → List ℕ) (columns width : ℕ) (es : List Entry) → ((e : Entry) → Memᴰ e es → length (entry_words left right columns e) ≡ width)
    → (i : ℕ) → i < length es → part (list_words left right columns es) width i ≡ entry_words left right columns (get_or es i (padded 0))
unfolding flat_map
row_of_entry left right columns width [] h i l = absurd (let z : ⊥ = omega arith in z)
row_of_entry left right columns width (e ∷ es) h zero l =
    rw (zero-mul width) (take_at (entry_words left right columns e) (list_words left right columns es) width (h e (Memᴰ.head refl)))
row_of_entry left right columns width (e ∷ es) h (suc i) l =
    let first = entry_words left right columns e in
    let rest = list_words left right columns es in
    let s : suc i * width ≡ length first + i * width = omega (arith, suc-mul i width, h e (Memᴰ.head refl)) in
    ap (take width) (ap (λ k. drop k (first ++ rest)) s ∙ drop-append-add first rest (i * width))
    ∙ row_of_entry left right columns width es (λ d m. h d (Memᴰ.tail m)) i (omega arith)

-- ---- a side's rows

module _ (columns words : List ℕ) (whole : length words ≡ length words / column_count columns * column_count columns) where
  -- the row of a number as a part of the words
  row_part : (i : ℕ) → row_in (rows_of columns words) i ≡ part words (column_count columns) i
  row_part i = rows_part (column_count columns) (length words / column_count columns) words whole i

  -- it has a cell for each column
  row_length : (i : ℕ) → i < length (rows_of columns words) → length (row_in (rows_of columns words) i) ≡ column_count columns
  row_length i h =
      let n = length words / column_count columns in
      let k : i < n = subst (λ x. i < x) (rows_length (column_count columns) n words) h in
      ap length (row_part i) ∙ piece_length (i * column_count columns) (column_count columns) words (omega (arith, row_inside n (column_count columns) i k, whole))

  -- its cells are sound, also under a higher mark
  row_sound : (used used' : ℕ) → used ≤ used' → cells_stop used 0 words ≡ never → (i p : ℕ) → cells_stop used' p (row_in (rows_of columns words) i) ≡ never
  row_sound used used' l h i p =
      let s : cells_stop used 0 (part words (column_count columns) i) ≡ never = cells_part used 0 0 (i * column_count columns) (column_count columns) words h in
      subst (λ r. cells_stop used' p r ≡ never) (sym (row_part i)) (cells_rise used used' l 0 p (part words (column_count columns) i) s)

-- ---- what a join wrote

-- the words of a join's list
abbrev pub join_rows : (left_columns left right_columns right : List ℕ) → List Entry → List ℕ
join_rows left_columns left right_columns right es = list_words (row_in (rows_of left_columns left)) (row_in (rows_of right_columns right)) (column_count right_columns) es

-- an answered call was not stopped, and lists what it would
answered_list : (s : Stop) (fs es : List Entry) → outcome_of s fs ≡ answered es → (s ≡ never) × (fs ≡ es)
answered_list never fs es e = (refl, cc)
answered_list (stop number place) fs es e = absurd (let z : ◌≡◌ {A = ℕ} 0 1 = cc in omega arith)

module _ (pads : Bool) (R : Rules) (left_columns left right_columns right condition stored : List ℕ) (size used output : ℕ) (es : List Entry) where
  -- what the join is given
  abbrev given : Given
  given = given_of R left_columns left right_columns (is_whole right_columns right) condition stored size used

  -- its right rows
  abbrev rights : List Row
  rights = rows_of right_columns right

  -- what either join lists
  abbrev list_of : Bool → List Entry
  list_of p = entries_from (entries_of p) (test_in given rights) 0 (length given.left) (length rights)

  module _ (done : join_of pads given rights output ≡ answered es) where
    -- nothing stopped it, and this is its list
    unstopped : (join_stop given rights output (list_of pads) ≡ never) × (list_of pads ≡ es)
    unstopped = by pads done
      where
        by : (p : Bool) → join_of p given rights output ≡ answered es → (join_stop given rights output (list_of p) ≡ never) × (list_of p ≡ es)
        by true e = answered_list _ _ es e
        by false e = answered_list _ _ es e

    -- so its sides were sound
    sides : Passed left_columns left right_columns right condition size used
    sides =
        let f = never_both (first_of (join_stops given rights)) _ unstopped.0 in
        let s = never_both (sides_stop left_columns left right_columns right condition size used) _
        (sym (stops_are R left_columns left right_columns right condition stored size used) ∙ f.0) in
        sides_passed left_columns left right_columns right condition size used s.0

    -- each entry takes a cell for each column of both sides
    entry_wide : (e : Entry) → Memᴰ e es → length (entry_words (row_in given.left) (row_in rights) (column_count right_columns) e) ≡ column_count left_columns + column_count right_columns
    entry_wide e h = of_left (by pads (subst (Memᴰ e) (sym unstopped.1) h))
      where
        of_left : Memᴰ e (list_of true) → length (entry_words (row_in given.left) (row_in rights) (column_count right_columns) e) ≡ column_count left_columns + column_count right_columns
        of_left =
            entry_length (test_in given rights) (length given.left) (length rights) (column_count left_columns) (column_count right_columns)
            (row_in given.left) (row_in rights) (row_length left_columns left sides.left_whole) (row_length right_columns right sides.right_whole) e

        by : (p : Bool) → Memᴰ e (list_of p) → Memᴰ e (list_of true)
        by true m = m
        by false m = mem_of_keep is_pair (list_of true) (subst (Memᴰ e) (inner_list_lem given rights) m)

    -- so it wrote as many for each entry
    rows_counted : length (join_rows left_columns left right_columns right es) ≡ length es * (column_count left_columns + column_count right_columns)
    rows_counted = words_length (row_in given.left) (row_in rights) (column_count right_columns) (column_count left_columns + column_count right_columns) es entry_wide

    -- and every cell is sound, also under a higher mark
    rows_sound : (used' : ℕ) → used ≤ used' → (p : ℕ) → cells_stop used' p (join_rows left_columns left right_columns right es) ≡ never
    rows_sound used' l p =
        list_sound used' (row_in given.left) (row_in rights) (column_count right_columns)
        (row_sound left_columns left sides.left_whole used used' l (sides.left_cells 0))
        (row_sound right_columns right sides.right_whole used used' l (sides.right_cells 0)) es p

-- ---- a table for the next call

-- a column table and so many whole rows of it, all words of which are sound below a mark
pub record TableOf (columns rows : List ℕ) (used count : ℕ) : Type 0 where
  pub table : is_table columns ≡ true
  pub words : words_stop used (columns ∷ [] ∷ []) (rows ∷ [] ∷ []) ≡ never
  pub whole : length rows ≡ count * column_count columns

module _ (columns rows : List ℕ) (used count : ℕ) (t : TableOf columns rows used count) where
  -- how many rows there are
  row_count_lem : (length rows % column_count columns ≡ 0) × (length rows / column_count columns ≡ count)
  row_count_lem =
      let some : 1 ≤ column_count columns = (table_counted columns t.table).some in
      (ap (λ n. n % column_count columns) t.whole ∙ mul-mod_left count (column_count columns), ap (λ n. n / column_count columns) t.whole ∙ mul-div_cancel count (omega arith))

  -- up to 4,096 are rows that a call takes
  pub rows_taken : count ≤ 4096 → are_rows (column_count columns) rows ≡ true
  unfolding are_rows
  rows_taken h = rw (eq-eqb (length rows % column_count columns) 0 row_count_lem.0, row_count_lem.1, le-leb count 4096 h)

  -- more are not
  pub rows_refused : 4096 < count → are_rows (column_count columns) rows ≡ false
  unfolding are_rows
  rows_refused h = rw (eq-eqb (length rows % column_count columns) 0 row_count_lem.0, row_count_lem.1, lt-leb count 4096 h)

  module _ (condition : List ℕ) (size : ℕ) (room : room_stop (room_for condition) size used ≡ never) where
    -- so a row call with the room for its condition is not refused for its table, only for a count of its own (columns listed, sets)
    pub table_taken : (counts : Bool) → count ≤ 4096 → table_stop counts condition columns rows size used ≡ count_stop counts
    table_taken counts h = rw (room, t.table, rows_taken h, t.words) (nothing_behind (count_stop counts))

    -- and with more rows it is, with 8 at 0
    pub table_refused : (counts : Bool) → 4096 < count → table_stop counts condition columns rows size used ≡ stop 8 0
    table_refused counts h = rw (room, t.table, rows_refused h)

-- where the columns of a join were joined, and the join then answered under a mark up to the new one
module _ (pads : Bool) (left_name left_columns right_name right_columns text : List ℕ) (used room : ℕ) (columns stored : List ℕ)
    (named : head pads left_name left_columns right_name right_columns (take used text) (length text) used room ≡ joined columns stored)
    (R : Rules) (left right condition join_text : List ℕ) (size mark output : ℕ) (es : List Entry) (below : mark ≤ length stored)
    (done : join_of pads (given_of R left_columns left right_columns (is_whole right_columns right) condition join_text size mark) (rows_of right_columns right) output ≡ answered es) where
  -- the joined columns are those of both sides
  width : column_count columns ≡ column_count left_columns + column_count right_columns
  width = omega (arith, (joined_sound pads left_name left_columns right_name right_columns text used room columns stored named).counted)

  -- the joined columns and the words of the join's list are a table below the new mark, with a row for each entry
  pub join_in_turn : TableOf columns (join_rows left_columns left right_columns right es) (length stored) (length es)
  join_in_turn =
      let j = joined_sound pads left_name left_columns right_name right_columns text used room columns stored named in
      let rows = join_rows left_columns left right_columns right es in
      let sound : (p : ℕ) → cells_stop (length stored) p rows ≡ never =
      rows_sound pads R left_columns left right_columns right condition join_text size mark output es done (length stored) below in
      record {
        table = j.table;
        words = words_are (length stored) columns [] rows []
            ∙ rw (j.sound, no_columns (length stored) (length columns), sound (length columns + 0), no_cells (length stored) (length columns + 0 + length rows)) refl;
        whole = rows_counted pads R left_columns left right_columns right condition join_text size mark output es done ∙ ap (λ w. length es * w) (sym width);
      }

  -- and each row of it has its entry's cells: the left row's, then the right row's or Nulls
  pub entry_in_turn : (i : ℕ) → i < length es → part (join_rows left_columns left right_columns right es) (column_count columns) i
      ≡ entry_words (row_in (rows_of left_columns left)) (row_in (rows_of right_columns right)) (column_count right_columns) (get_or es i (padded 0))
  entry_in_turn i h =
      ap (λ w. part (join_rows left_columns left right_columns right es) w i) width
      ∙ row_of_entry (row_in (rows_of left_columns left)) (row_in (rows_of right_columns right)) (column_count right_columns) (column_count left_columns + column_count right_columns) es
      (entry_wide pads R left_columns left right_columns right condition join_text size mark output es done) i h

-- ---- the exported calls

-- what was written stands at the start of the output
front_written : (out words : List ℕ) → take (length words) (splice out 0 words) ≡ words
front_written out words = ap (take (length words)) (splice_start out words) ∙ take-append_seam words (drop (length words) out)

-- joined columns by what the call told: their words stand in the output, and the mark is the end of the stored text
record ColumnsTold (h : Head) (written : List ℕ) (n mark : ℕ) : Type 0 where
  columns : List ℕ
  stored : List ℕ
  comes : h ≡ joined columns stored
  front : take n written ≡ columns
  counted : n ≡ length columns
  marked : mark ≡ length stored

-- a call that told words and a mark joined the columns
columns_told : (h : Head) (stored after out written : List ℕ) (n mark : ℕ) → HeadIs h stored after out written (Ok (n, mark)) → ColumnsTold h written n mark
columns_told (joined columns s) stored after out written n mark h =
    let e = same_wrote n mark (length columns) (length s) h.says in
    record {
      columns = columns;
      stored = s;
      comes = refl;
      front = ap (λ k. take k written) e.0 ∙ ap (take (length columns)) h.output ∙ front_written out columns;
      counted = e.0;
      marked = e.1;
    }
columns_told (Head.refused number place) stored after out written n mark h = absurd (wrote_apart n mark number place h.says)

-- a join's list by what the call told: its words stand in the output
record RowsTold (g : Given) (rights : List Row) (written : List ℕ) (count : ℕ) (o : Outcome) : Type 0 where
  entries : List Entry
  comes : o ≡ answered entries
  counted : count ≡ length entries
  front : take (length (list_words (row_in g.left) (row_in rights) g.columns entries)) written ≡ list_words (row_in g.left) (row_in rights) g.columns entries

-- a call that told a count answered a list
rows_told : (g : Given) (rights : List Row) (out written : List ℕ) (count : ℕ) (o : Outcome) → OutcomeIs g rights out written (Ok count) o → RowsTold g rights written count o
rows_told g right out written count (answered es) h =
    let words = list_words (row_in g.left) (row_in right) g.columns es in
    record { entries = es; comes = refl; counted = same_count count (length es) h.says; front = ap (take (length words)) h.output ∙ front_written out words }
rows_told g right out written count (refused number place) h = absurd (count_apart count number place h.says)

-- `left_join` pads, `inner_join` doesn't
abbrev pub Joins : Bool → (left_columns left right_columns right condition text : List ℕ) (used : ℕ) (out written : List ℕ) → Answer → Type 0
Joins true = LeftJoins
Joins false = InnerJoins

-- what an accepted struct tells of its call
told_count : (used count : ℕ) (Is : Result ℕ Refusal → Type 0) → Tells (Result ℕ Refusal) (of_written used) Is (accepted count used) → Is (Ok count)
told_count used count Is h = subst Is (written_apart used h.answer (Ok count) (sym h.says)) h.is

module _ (pads : Bool) (left_columns left right_columns right condition text : List ℕ) (used : ℕ) (out written : List ℕ) (count : ℕ) where
  -- what the call is given
  abbrev lent : Given
  lent = given_of base left_columns left right_columns (is_whole right_columns right) condition (take used text) (length text) used

  -- an accepted join answered a list
  join_told : Joins pads left_columns left right_columns right condition text used out written (accepted count used)
      → RowsTold lent (rows_of right_columns right) written count (join_of pads lent (rows_of right_columns right) (length out))
  join_told h = rows_told lent (rows_of right_columns right) out written count _ (by pads h)
    where
      by : (p : Bool) → Joins p left_columns left right_columns right condition text used out written (accepted count used)
          → OutcomeIs lent (rows_of right_columns right) out written (Ok count) (join_of p lent (rows_of right_columns right) (length out))
      by true h = told_count used count _ h
      by false h = told_count used count _ h

-- The columns of a join, then the join under a mark up to the one that was told: the words that both calls wrote are a table below that mark
pub calls_in_turn : (pads : Bool) (left_name left_columns right_name right_columns text : List ℕ) (used : ℕ) (out after written : List ℕ) (n mark : ℕ)
    → JoinsColumns pads left_name left_columns right_name right_columns text used out after written (accepted n mark)
    → (left right condition text' : List ℕ) (used' : ℕ) (out' written' : List ℕ) (count : ℕ) → used' ≤ mark
    → Joins pads left_columns left right_columns right condition text' used' out' written' (accepted count used')
    → TableOf (take n written) (take (count * (n / 2)) written') mark count
calls_in_turn pads left_name left_columns right_name right_columns text used out after written n mark h left right condition text' used' out' written' count l k =
    let headed = head pads left_name left_columns right_name right_columns (take used text) (length text) used (length out) in
    let c = columns_told headed (take used text) after out written n mark
    (subst (HeadIs headed (take used text) after out written) (joined_apart used h.answer (Ok (n, mark)) (sym h.says)) h.is) in
    let r = join_told pads left_columns left right_columns right condition text' used' out' written' count k in
    let es = r.entries in
    let rows = join_rows left_columns left right_columns right es in
    let t : TableOf c.columns rows (length c.stored) (length es) =
    join_in_turn pads left_name left_columns right_name right_columns text used (length out) c.columns c.stored c.comes
    base left right condition (take used' text') (length text') used' (length out') es (subst (λ m. used' ≤ m) c.marked l) r.comes in
    let long : count * (n / 2) ≡ length rows = ap₂ (λ x y. x * (y / 2)) r.counted c.counted ∙ sym t.whole in
    let e : take (count * (n / 2)) written' ≡ rows = ap (λ x. take x written') long ∙ r.front in
    subst (λ x. TableOf (take n written) (take (count * (n / 2)) written') mark x) (sym r.counted)
    (subst (λ x. TableOf (take n written) (take (count * (n / 2)) written') x (length es)) (sym c.marked)
    (subst (λ x. TableOf (take n written) x (length c.stored) (length es)) (sym e)
    (subst (λ x. TableOf x rows (length c.stored) (length es)) (sym c.front) t)))
