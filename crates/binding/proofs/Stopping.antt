-- Which check stops `bind`, what is known where none does, and what the walk's answer makes of the whole. Assumes nothing.
use mathlib.Core.Path.{◌≡◌, sym, ap, subst, ◌∙◌}
use mathlib.Core.List.{List, []}
use Prim.Native.Nat.{ℕ, ◌+◌, ◌-◌, ◌≤◌}
use native.Mathlib.Omega.{arith}
use lib.ListN.{length, take}
use lib.Seq.{length-take-le}
use Rattle.refusals.specs.Stop.{Stop, never, stop_of, or_else}
use Rattle.refusals.specs.declared.Refusal.{Refusal}
use Rattle.refusals.proofs.First.{never_both, four_in_a_row}
use Rattle.writing.specs.Writing.{WrittenIs}
use Rattle.columns.specs.Column.{columns_stop}
use Rattle.checks.specs.Check.{room_stop, output_stop}
use Rattle.checks.proofs.Turns
use Rattle.conditions.specs.Ast.{Tree}
use Rattle.nodes.specs.declared.Allowed.TheVariants.{Named}
use Rattle.forms.specs.Form.{tree, parsed, form_stop, of_tree}
use Rattle.forms.specs.Held.{Denotes, ScanIs}
use Rattle.tables.specs.Table.{is_table, count_stop}
use Rattle.tables.proofs.Words.{table_counted, count_right}
use Rattle.numbering.specs.Number.{names_stop}
use Rattle.binding.specs.Bind.{bind_stop, bound_bytes, BindIs}
use Rattle.binding.specs.Asked.{before_stop}
use Rattle.numbering.specs.Walk.{BindAsks, Binds}
use Rattle.binding.proofs.Walking.{bound_width}
use Rattle.std.specs.Prelude.{Result, Ok, Err}

-- a table that is not stopped has 2 to 64 words
table_bounds : (columns : List ℕ) → count_stop (is_table columns) ≡ never → (2 ≤ length columns) × (length columns ≤ 64)
table_bounds columns e =
    let t = table_counted columns (count_right (is_table columns) e) in
    (omega (arith, t.whole, t.some), omega (arith, t.whole, t.few))

module _ (b columns stored : List ℕ) (size used output : ℕ) where
  -- what stops the whole
  abbrev whole : Stop
  whole = bind_stop b columns stored size used output

  -- what is looked at after the columns
  abbrev later : Stop
  later = or_else (form_stop (parsed Named used b)) (or_else (of_tree (names_stop stored columns 0) (λ number place. never) (parsed Named used b)) never)

  -- what stops it before the condition, then the rest
  in_groups : whole ≡ or_else (before_stop columns size used output) later
  in_groups = sym (four_in_a_row (room_stop 32768 size used) (output_stop output) (count_stop (is_table columns)) (columns_stop used 0 columns) later)

  -- nothing is wrong with the text, the output and the columns
  module _ (e : before_stop columns size used output ≡ never) where
    -- after the room
    after_room : or_else (output_stop output) (or_else (count_stop (is_table columns)) (columns_stop used 0 columns)) ≡ never
    after_room = (never_both (room_stop 32768 size used) _ e).1

    -- after the output
    after_output : or_else (count_stop (is_table columns)) (columns_stop used 0 columns) ≡ never
    after_output = (never_both (output_stop output) _ after_room).1

    -- the text is small enough, and there is room above the mark
    pub room_there : (size ≤ 65536) × (used + 32768 ≤ size)
    room_there = Turns.room_there 32768 size used (never_both (room_stop 32768 size used) _ e).0

    -- there are 1 to 32 columns
    pub columns_count : (2 ≤ length columns) × (length columns ≤ 64)
    columns_count = table_bounds columns (never_both (count_stop (is_table columns)) _ after_output).0

    -- the columns' words are sound
    columns_sound : columns_stop used 0 columns ≡ never
    columns_sound = (never_both (count_stop (is_table columns)) _ after_output).1

    -- the rest decides
    left : whole ≡ later
    left = in_groups ∙ rw e

    -- a tree, and then its names
    names_left : (t : Tree ℕ) → parsed Named used b ≡ tree t → whole ≡ or_else (names_stop stored columns 0 t) never
    names_left t f = left ∙ rw f

  -- nothing stops the whole
  module _ (a : bind_stop b columns stored size used output ≡ never) where
    -- nothing is wrong before the condition
    pub accepted_before : before_stop columns size used output ≡ never
    accepted_before = (never_both (before_stop columns size used output) later (sym in_groups ∙ a)).0

    -- no name is missing
    pub accepted_names : (t : Tree ℕ) → parsed Named used b ≡ tree t → names_stop stored columns 0 t ≡ never
    accepted_names t f = (never_both (names_stop stored columns 0 t) never (sym (names_left accepted_before t f) ∙ a)).0

-- a condition's tree stands in the table, and nothing is wrong with the rest
pub record Tabled (b columns text : List ℕ) (used : ℕ) (before nodes : List ℕ) (n : ℕ) : Type 0 where
  pub passed : before_stop columns (length text) used (length before) ≡ never
  pub table : ScanIs used b nodes (Ok n) (parsed Named used b)
  pub long : length nodes ≡ 64

-- the whole condition is bound
pub record Whole (b columns text : List ℕ) (used : ℕ) (before after : List ℕ) (end : ℕ) : Type 0 where
  pub inside : end ≤ length after
  pub accepted : bind_stop b columns (take used text) (length text) used (length before) ≡ never
  pub bytes : take end after ≡ bound_bytes (take used text) columns (parsed Named used b)

module _ {b columns text : List ℕ} {used : ℕ} {before nodes : List ℕ} {n : ℕ} (T : Tabled b columns text used before nodes n) where
  -- the condition's tree
  abbrev t : Tree ℕ
  t = T.table.0

  -- it has a node
  pub some : 1 ≤ n
  some = T.table.2

  -- the stored text ends at the mark
  pub stored_length : used ≡ length (take used text)
  stored_length = sym (length-take-le used text (omega (arith, (room_there b columns [] (length text) used (length before) T.passed).1)))

  -- its names decide
  stops : bind_stop b columns (take used text) (length text) used (length before) ≡ or_else (names_stop (take used text) columns 0 t) never
  stops = names_left b columns (take used text) (length text) used (length before) T.passed t T.table.1

  module _ (space : List ℕ) (wide : length space ≡ 448) where
    -- the walk may begin
    ready : BindAsks (take used text) columns nodes space (n - 1) 16 0 0 t
    ready = record {
      sound = ap (λ u. columns_stop u 0 columns) (sym stored_length) ∙ columns_sound b columns [] (length text) used (length before) T.passed;
      few = (columns_count b columns [] (length text) used (length before) T.passed).1;
      held = subst (λ u. Denotes u nodes (n - 1) t) stored_length T.table.6;
      deep = T.table.5;
      inside = omega (arith, T.long, T.table.2, T.table.4);
      space = omega (arith, T.table.3, T.table.4);
      early = omega (arith, T.table.3, T.table.4);
    }

    -- what the walk asks
    pub tree_asks : (t : Tree ℕ) × BindAsks (take used text) columns nodes space (n - 1) 16 0 0 t
    tree_asks = (t, ready)

    -- the walk's answer
    module _ (after : List ℕ) (r : Result (ℕ × ℕ) Refusal)
        (f : (t : Tree ℕ) → BindAsks (take used text) columns nodes space (n - 1) 16 0 0 t → Binds (take used text) columns space after 0 0 t r) where
      -- a missing name is the whole's refusal
      pub names_stops : (y : Refusal) → r ≡ Err y → bind_stop b columns (take used text) (length text) used (length before) ≡ stop_of y
      names_stops y g =
          let h : names_stop (take used text) columns 0 t ≡ stop_of y = rw g at (f t ready) in
          stops ∙ rw h

      -- else the whole is bound
      pub bound_whole : (end m : ℕ) → r ≡ Ok (end, m) → length after ≡ length space → Whole b columns text used before after end
      bound_whole end m g kept =
          let h : Binds (take used text) columns space after 0 0 t (Ok (end, m)) = rw g at (f t ready) in
          record {
            inside = omega (arith, h.1, bound_width (take used text) columns t, T.table.3, T.table.4);
            accepted = stops ∙ rw h.0;
            bytes = h.2 ∙ rw T.table.1;
          }

module _ {b columns text : List ℕ} {used : ℕ} {before after : List ℕ} {end : ℕ} (W : Whole b columns text used before after end) where
  -- so many bytes are lent
  pub end_is : end ≡ length (take end after)
  end_is = sym (length-take-le end after W.inside)

  -- and written there they are the answer
  pub bind_written : (out : List ℕ) (a : Result ℕ Refusal) → WrittenIs before out a never (length (take end after)) (take end after)
      → BindIs b columns (take used text) (length text) used before out a
  bind_written out a w =
      let v : WrittenIs before out a never (length (bound_bytes (take used text) columns (parsed Named used b))) (bound_bytes (take used text) columns (parsed Named used b)) = rw W.bytes at w in
      rw W.accepted v
