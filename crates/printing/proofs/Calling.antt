-- The call `print`: which check stops it, and what its answer says. Assumes nothing.
use mathlib.Core.Path.{◌≡◌, sym, ap, subst, ◌∙◌}
use mathlib.Core.List.{List}
use Prim.Native.Nat.{ℕ, ◌-◌, ◌≤◌, ◌<◌}
use native.Mathlib.Omega.{arith}
use lib.ListN.{length, take}
use lib.Seq.{length-take-le}
use borrow.Author.Tests.{lt-ltb, le-ltb}
use Rattle.refusals.specs.Stop.{Stop, never, or_else}
use Rattle.refusals.specs.declared.Refusal.TheVariants.{OutputShort}
use Rattle.refusals.proofs.First.{never_both, last_of_four}
use Rattle.writing.specs.Writing.{count}
use Rattle.writing.proofs.Answers.{refused_is}
use Rattle.checks.specs.Check.{room_stop, short_stop}
use Rattle.checks.proofs.Turns.{room_there}
use Rattle.conditions.specs.Ast.{Tree, map_tree}
use Rattle.conditions.specs.Table.{leaf_of}
use Rattle.nodes.specs.declared.Allowed.TheVariants.{Named}
use Rattle.forms.specs.Form.{tree, parsed, form_stop}
use Rattle.forms.specs.Held.{Denotes, ScanIs}
use Rattle.puts.specs.Put.{Puts}
use Rattle.puts.proofs.Putting.{put_splice}
use Rattle.spelling.specs.Spell.{printed}
use Rattle.printing.specs.Print.{texts_stop, printed_all, print_stop, PrintIs}
use Rattle.spelling.specs.Walk.{PrintAsks}
use Rattle.printing.specs.Prepare.{before_stop, PreparedIs}
use Rattle.std.specs.Prelude.{Ok, Err}

-- ---- before the output

module _ (text : List ℕ) (used : ℕ) (h : room_stop 0 (length text) used ≡ never) where
  -- the stored text ends at the mark
  pub mark_long : used ≡ length (take used text)
  mark_long = sym (length-take-le used text (omega (arith, (room_there 0 (length text) used h).1)))

  -- the form is accepted, its texts read below the mark
  pub accepted : (b nodes : List ℕ) (n : ℕ) → ScanIs used b nodes (Ok n) (parsed Named used b) → (t : Tree ℕ) × (parsed Named (length (take used text)) b ≡ tree t)
  accepted b nodes n s = (s.0, ap (λ m. parsed Named m b) (sym mark_long) ∙ s.1)

-- ---- the answer

module _ (b text out : List ℕ) (used : ℕ) where
  -- 9, of the whole text
  abbrev nine : Stop
  nine = short_stop (length out) (length (printed_all (take used text) (parsed Named used b)))

  -- it comes after what is looked at before the output
  then_nine : print_stop b (take used text) (length text) used (length out) ≡ or_else (before_stop b (take used text) (length text) used) nine
  then_nine = last_of_four (room_stop 0 (length text) used) (form_stop (parsed Named used b)) (texts_stop (take used text) b 64 0) nine

-- nothing stops before the output, and a table of 64 words holds the tree
pub record Ready (b text : List ℕ) (used : ℕ) (nodes : List ℕ) (n : ℕ) : Type 0 where
  pub long : length nodes ≡ 64
  pub before : before_stop b (take used text) (length text) used ≡ never
  pub scanned : ScanIs used b nodes (Ok n) (parsed Named used b)

-- what `prepare` answered, as the table that it made
pub ready : {b text : List ℕ} {used : ℕ} {nodes : List ℕ} {n : ℕ} → length nodes ≡ 64 → PreparedIs b (take used text) (length text) used nodes (Ok n) → Ready b text used nodes n
ready l p = record { long = l; before = p.0; scanned = p.1 }

module _ {b text : List ℕ} {used : ℕ} {nodes : List ℕ} {n : ℕ} (R : Ready b text used nodes n) where
  -- the condition's tree
  abbrev t : Tree ℕ
  t = R.scanned.0

  -- its text
  abbrev whole : List ℕ
  whole = printed 0 (map_tree (leaf_of (take used text)) t)

  -- there is a node
  pub some : 1 ≤ n
  some = R.scanned.2

  -- the stored text ends at the mark
  pub stored_long : used ≡ length (take used text)
  stored_long = mark_long text used (never_both (room_stop 0 (length text) used) _ R.before).0

  -- what the walk asks: 64 nodes take no place beyond 2^63
  tree_asks : PrintAsks (take used text) nodes (n - 1) 16 0 t
  tree_asks = record {
    denotes = subst (λ m. Denotes m nodes (n - 1) t) stored_long R.scanned.6;
    deep = R.scanned.5;
    inside = omega (arith, R.long, some, R.scanned.4);
    room = omega (arith, R.scanned.3, R.scanned.4);
  }

  -- as the walk's contract has it
  pub asks : (t : Tree ℕ) × PrintAsks (take used text) nodes (n - 1) 16 0 t
  asks = (t, tree_asks)

  -- the definition's text is this one
  all_is : printed_all (take used text) (parsed Named used b) ≡ whole
  all_is = ap (printed_all (take used text)) R.scanned.1

  -- what the walk says, wherever it puts
  abbrev Walked : List ℕ → ℕ → List ℕ → Type 0
  Walked before r after = (t : Tree ℕ) → PrintAsks (take used text) nodes (n - 1) 16 0 t → Puts before 0 (printed 0 (map_tree (leaf_of (take used text)) t)) r after

  -- it counts the text
  counted : (before after : List ℕ) (r : ℕ) → Walked before r after → r ≡ length whole
  counted before after r w = omega (arith, (w t tree_asks).place)

  module _ {none end : List ℕ} {needed : ℕ} (c : Walked none needed end) (out : List ℕ) where
    -- only 9 is left
    stop_is : print_stop b (take used text) (length text) used (length out) ≡ short_stop (length out) needed
    stop_is = then_nine b text out used ∙ ap (λ s. or_else s (nine b text out used)) R.before ∙ rw (all_is, counted none end needed c)

    -- the output is short
    pub print_short : length out < needed → PrintIs b (take used text) (length text) used out out (Err (OutputShort needed))
    print_short h = refused_is out _ _ _ (OutputShort needed) (stop_is ∙ rw (lt-ltb (length out) needed h))

    -- the text is written
    pub print_written : needed ≤ length out → {after : List ℕ} {r : ℕ} → Walked out r after → PrintIs b (take used text) (length text) used out after (Ok r)
    print_written h {after} {r} w =
        let q : needed ≡ length whole = counted none end needed c in
        let f : print_stop b (take used text) (length text) used (length out) ≡ never = stop_is ∙ rw (le-ltb (length out) needed h) in
        rw (f, all_is) (record {
          says = ap count (counted out after r w);
          output = (w t tree_asks).list ∙ put_splice out 0 whole (omega arith);
          room = λ e. omega arith;
        })
