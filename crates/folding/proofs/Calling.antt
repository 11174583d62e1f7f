-- The call `fold`: that 32,768 bytes above the mark and 448 of output always suffice, and what its answer says. Assumes nothing.
use mathlib.Core.Path.{◌≡◌, refl, sym, ap, ap₂, subst, ◌∙◌}
use mathlib.Core.List.{List}
use Prim.Native.Nat.{ℕ, ◌+◌, ◌-◌, ◌≤◌}
use native.Mathlib.Omega.{arith}
use native.Mathlib.Nat.{zero-add}
use lib.ListN.{length, take}
use lib.Seq.{length-take-le}
use Rattle.refusals.specs.Told.{told}
use Rattle.refusals.specs.Stop.{never, stop_of, or_else}
use Rattle.refusals.specs.declared.Refusal.{Refusal}
use Rattle.refusals.proofs.First.{never_both}
use Rattle.slices.specs.Splice.{splice, Wrote}
use Rattle.slices.proofs.Pieces.{take_own}
use Rattle.writing.specs.Marked.{wrote}
use Rattle.checks.specs.Check.{room_stop, output_stop}
use Rattle.checks.proofs.Turns.{room_there, output_there}
use Rattle.operators.specs.declared.Rules.{Rules}
use Rattle.conditions.specs.Ast.{Tree}
use Rattle.nodes.specs.declared.Allowed.TheVariants.{Mixed}
use Rattle.forms.specs.Form.{parsed, form_stop}
use Rattle.evaluation.proofs.Whole.{joins_size}
use Rattle.postfix.specs.Postfix.{bytes_of, width}
use Rattle.postfix.proofs.Reading.{width_size}
use Rattle.replacing.specs.Fold.{Folding, folded, fold}
use Rattle.replacing.specs.Walk.{FoldAsks, Gives, Says}
use Rattle.folding.specs.Call.{fold_stop, folding, FoldIs, PreparedIs}
use Rattle.shortening.proofs.Growing.{grown}
use Rattle.std.specs.Prelude.{Result, Ok, Err}
use Rattle.replacing.specs.declared.Folded.{Folded}

-- ---- what no stop tells

module _ (b : List ℕ) (size used output : ℕ) (h : fold_stop b size used output ≡ never) where
  room_passed : room_stop 32768 size used ≡ never
  room_passed = (never_both (room_stop 32768 size used) _ h).0

  pub output_passed : 448 ≤ output
  output_passed = output_there output (never_both (output_stop output) (or_else (form_stop (parsed Mixed used b)) never) (never_both (room_stop 32768 size used) _ h).1).0

  pub there : (size ≤ 65536) × (used + 32768 ≤ size)
  there = room_there 32768 size used room_passed

-- ---- refused before folding

-- a call that is stopped before folding is refused so, and its text and output stay
pub denied : (R : Rules) (b text out : List ℕ) (used : ℕ) (r : Refusal) → fold_stop b (length text) used (length out) ≡ stop_of r
    → FoldIs (folding R b (take used text) (length text) used (length out)) (take used text) text out out (Err r)
unfolding folding
denied R b text out used r e = rw e (record { says = refl; text = front; output = refl; room = λ t s q. absurd (let z : ◌≡◌ {A = ℕ} 0 1 = cc in omega arith) })
  where
    front : take (length (take used text)) text ≡ take used text
    front = take_own used text

-- ---- folding

module _ (R : Rules) (limit : R.limit ≤ 1024) (b text out : List ℕ) (used n : ℕ) (nodes : List ℕ) (long : length nodes ≡ 64) (p : PreparedIs b (length text) used (length out) nodes (Ok n)) where
  abbrev pub t : Tree ℕ
  t = p.1.0

  abbrev pub stored : List ℕ
  stored = take used text

  pub some : 1 ≤ n
  some = p.1.2

  enough : (length text ≤ 65536) × (used + 32768 ≤ length text)
  enough = there b (length text) used (length out) p.0

  -- 64 nodes have at most 31 two-sided operators, and each node has at most 7 bytes
  pub asks : (space : List ℕ) → length space ≡ 448 → FoldAsks R used used 16 (n - 1) 0 0 nodes text space t
  asks space s = record {
    marks = omega arith;
    short = limit;
    small = enough.0;
    denotes = p.1.6;
    deep = p.1.5;
    inside = omega (arith, long, some, p.1.4);
    room = omega (arith, joins_size t, p.1.3, p.1.4, enough.1);
    space = omega (arith, p.1.3, p.1.4);
    early = omega (arith, p.1.3, p.1.4);
  }

  whole : folding R b stored (length text) used (length out) ≡ fold R 0 t stored
  unfolding folding
  whole = rw (p.0, p.1.1)

  module _ (space space' after : List ℕ) (r : Result Folded Refusal) (g : Gives (take 0 space) (0 + width t) used text after space' r (fold R 0 t stored)) where
    pub folding_refused : (x : Refusal) → r ≡ Err x → FoldIs (folding R b stored (length text) used (length out)) stored after out out (Err x)
    folding_refused x e =
        let f : fold R 0 t stored ≡ Folding.refused (told x).number (told x).place = subst (λ y. Says (take 0 space) (0 + width t) after space' y (fold R 0 t stored)) e g.says in
        rw (whole, f) (record { says = refl; text = ap (λ m. take m after) (length-take-le used text (omega (arith, enough.1))) ∙ g.kept; output = refl; room = λ t s q. absurd (let z : ◌≡◌ {A = ℕ} 0 1 = cc in omega arith) })

    module _ (word end top next : ℕ) (e : r ≡ Ok (record { word = word; end = end; top = top; next = next })) where
      said : Says (take 0 space) (0 + width t) after space' (Ok (record { word = word; end = end; top = top; next = next })) (fold R 0 t stored)
      said = subst (λ y. Says (take 0 space) (0 + width t) after space' y (fold R 0 t stored)) e g.says

      end_is : end ≡ width said.0
      end_is = said.3.place ∙ zero-add (width said.0)

      small : width said.0 ≤ 448
      small = omega (arith, width_size said.0, (grown R limit 0 t said.0 stored said.1 said.2).small, p.1.3, p.1.4)

      pub end_small : end ≤ 448
      end_small = omega (arith, end_is, small)

      written : take end space' ≡ bytes_of said.0
      written = said.3.bytes

      pub copy_room : 0 + length (take end space') ≤ length out
      copy_room = omega (arith, ap length written, small, output_passed b (length text) used (length out) p.0)

      pub folding_wrote : (q : ℕ) (out' : List ℕ) → Wrote out 0 (take end space') q out' → FoldIs (folding R b stored (length text) used (length out)) stored after out out' (Ok (end, top))
      folding_wrote q out' w =
          rw (whole, said.2) (record {
            says = ap₂ wrote end_is said.4.long;
            text = ap (λ m. take m after) (sym said.4.long) ∙ said.4.below;
            output = w.list ∙ ap (splice out 0) written;
            room = λ x s e. fits x s e;
          })
        where
          tree_of : Folding → Tree ℕ
          tree_of (folded x s) = x
          tree_of (Folding.refused number place) = said.0

          fits : (x : Tree ℕ) (s : List ℕ) → folded said.0 said.1 ≡ folded x s → width x ≤ length out
          fits x s e = subst (λ y. width y ≤ length out) (ap tree_of e) (omega (arith, small, output_passed b (length text) used (length out) p.0))
