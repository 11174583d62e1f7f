-- What a word that was worked out is worth: a value, in a well-formed cell that is no text. Assumes nothing.
use mathlib.Core.Path.{◌≡◌, refl, sym, ap, ◌∙◌}
use mathlib.Core.Bool.{Bool, true, false, cond}
use mathlib.Core.List.{List}
use Prim.Native.Nat.{ℕ, ◌^◌, ◌<◌}
use native.Mathlib.Omega.{arith}
use lib.ListN.{length}
use mir.Syntax.{w32}
use mir.Val.{of_z}
use mir.Facts.{Fits-of_z}
use Rattle.std.specs.Prelude.{Some}
use Rattle.cells.specs.Cell.{WellFormed, kind_of, word_of, ref_of, Inside}
use Rattle.cells.specs.declared.ValueRef.{ValueRef}
use Rattle.cells.specs.declared.ValueRef.TheVariants.{Null, Int, Str, Binary}
use Rattle.cells.proofs.Words.{Sized, ref_back}
use Rattle.cells.proofs.Stops.{well_word}
use Rattle.values.specs.Value.{Value, null, int, str, binary, to_value, value_of, to_bool, from_bool}
use Rattle.integers.specs.Outcome.{Outcome, value, placed}
use Rattle.operators.specs.declared.Rules.{Rules}
use Rattle.operators.proofs.Holding.{Holds, holds_truth, value_int32}
use Rattle.conditions.specs.Ast.{decides, two_sided}
use Rattle.conditions.proofs.Deciding.{holds_two_sided}
use Rattle.wordwise.specs.Settled.{Settled, on_both}

-- an outcome is the value of a word, which is a well-formed cell and no text
pub record Worth (stored : List ℕ) (r : ℕ) (o : Outcome) : Type 0 where
  pub means : o ≡ value (value_of stored r)
  pub within : WellFormed (length stored) r
  pub plain : kind_of r ≡ 2 → ⊥

-- the word of a cell without a text
worth_cell : (stored : List ℕ) (c : ValueRef) (v : Value) → Sized c → Inside (length stored) c → to_value stored c ≡ v → (kind_of (word_of c) ≡ 2 → ⊥)
    → (r : ℕ) → r ≡ word_of c → Worth stored r (value v)
worth_cell stored c v s i e n r q =
    record {
      means = ap value (sym (ap (λ w. to_value stored (ref_of w)) q ∙ ap (to_value stored) (ref_back c s) ∙ e));
      within = rw q (well_word (length stored) c s i);
      plain = λ k. n (sym (ap (λ w. kind_of w) q) ∙ k);
    }

-- a word that settles an outcome which a cell can hold is such a word
pub worth : (stored : List ℕ) (m r : ℕ) (o : Outcome) → Holds m o → Settled (Some r) o → Worth stored r o
unfolding placed Sized Inside to_value word_of
worth stored m r (value null) h t = let e = t.told r refl 0 in let q : r ≡ word_of Null = cc in worth_cell stored Null null tt tt refl (λ k. omega arith) r q
worth stored m r (value (int z)) h t =
    let e = t.told r refl 0 in
    let q : r ≡ word_of (Int z) = cc in
    let b : of_z w32 z < 2 ^ 32 = (Fits-of_z h.held).fits in
    worth_cell stored (Int z) (int z) h.held tt refl (λ k. let x : ⊥ = omega arith in x) r q
worth stored m r (value (str b)) h t =
    let e = t.told r refl 0 in
    let f = t.told r refl 1 in
    let q : r ≡ word_of (Str 0 (length b)) = cc in
    let s : r ≡ word_of (Str 1 (length b)) = cc in
    absurd (let x : ⊥ = omega arith in x)
worth stored m r (value binary) h t = let e = t.told r refl 0 in let q : r ≡ word_of Binary = cc in worth_cell stored Binary binary tt tt refl (λ k. omega arith) r q
worth stored m r (Outcome.refused x) h t = absurd (let e = t.told r refl 0 in let z : ◌≡◌ {A = ℕ} 0 1 = cc in omega arith)

-- an operator both of whose operands have a value holds no number and no text that is too great
pub holds_both : (R : Rules) (op : ℕ) (t : List ℕ) (a b : ℕ) → Holds R.limit (on_both R op (value_of t a) (value_of t b))
unfolding on_both
holds_both R op t a b = go (decides op (value_of t a))
  where
    go : (x : Bool) → Holds R.limit (cond x (value (from_bool (to_bool (value_of t a)))) (two_sided R op (value_of t a) (value_of t b)))
    go true = holds_truth R.limit (to_bool (value_of t a))
    go false = holds_two_sided R op (value_of t a) (value_of t b) (value_int32 t a) (value_int32 t b)
