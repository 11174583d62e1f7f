-- A prepared condition on a row: evaluation may begin, and what its answer says of the test. Assumes nothing.
use mathlib.Core.Path.{◌≡◌, refl, sym, ap, subst, ◌∙◌}
use mathlib.Core.Bool.{Bool, true}
use mathlib.Core.List.{List, [], ◌∷◌}
use Prim.Native.Nat.{ℕ, ◌-◌, ◌≤◌, ◌<◌}
use native.Mathlib.Omega.{arith}
use lib.ListN.{length, take}
use lib.Seq.{length-take-le}
use Rattle.refusals.specs.declared.Refusal.{Refusal}
use Rattle.refusals.proofs.First.{never_both}
use Rattle.cells.specs.Cell.{WellFormed}
use Rattle.values.specs.Value.{value_of, to_bool}
use Rattle.operators.specs.Operator.{base}
use Rattle.conditions.specs.Ast.{eval}
use Rattle.conditions.specs.Table.{row_of, tree_of, Asks, Answers}
use Rattle.nodes.specs.declared.Allowed.TheVariants.{Bound}
use Rattle.forms.specs.Form.{parsed, form_stop}
use Rattle.forms.specs.Number.{numbers_stop}
use Rattle.evaluation.specs.Evaluation.{PreparedIs}
use Rattle.evaluation.proofs.Stopping.{at_none}
use Rattle.evaluation.proofs.Whole.{asks, denotes_tree}
use Rattle.quick.specs.Quick.{Stands, Found}
use Rattle.quick.proofs.Walking.{stored_long, stands}
use Rattle.testing.specs.Test.{is, tested_of, test, TestIs, TestAsks}
use Rattle.std.specs.Prelude.{Ok, Err}
use Rattle.integers.specs.declared.Fault.{Fault}
use Rattle.integers.specs.Outcome.{number_of}
use Rattle.refusals.specs.Stop.{stop, stop_of}
use Rattle.refusals.specs.Told.{told}

module _ (used n : ℕ) (nodes row text : List ℕ) where
  -- no condition
  pub no_condition : (place : ℕ) (b : List ℕ) → TestAsks b used n nodes row text → n ≡ 0 → TestIs used place text text (Ok true) (test base b used (take used text) row)
  unfolding test
  no_condition place [] A e = record { kept = refl; says = refl }
  no_condition place (x ∷ b) A e = absurd (let z : 0 < n = A.ready.1.2 in omega arith)

  -- a condition is there: evaluation is prepared
  pub prepared_for : (b : List ℕ) → TestAsks b used n nodes row text → (n ≡ 0 → ⊥) → PreparedIs b row (length text) used nodes (Ok n)
  prepared_for [] A m = absurd (m A.ready)
  prepared_for (x ∷ b) A m =
      let s = A.ready.1 in
      let h = never_both (form_stop (parsed Bound used (x ∷ b))) (numbers_stop (length row) (x ∷ b) 64 0) A.ready.0 in
      (at_none (x ∷ b) row (length text) used A.room A.width A.cells s.0 s.1 h.1, s)

  module _ (b : List ℕ) (A : TestAsks b used n nodes row text) (m : n ≡ 0 → ⊥) where
    pub test_asks : Asks base used used 16 (n - 1) nodes row text
    test_asks = asks base (omega arith) b row text A.bytes used n nodes A.long (prepared_for b A m)

    -- the test is what evaluation comes to
    pub test_is : test base b used (take used text) row ≡ tested_of (eval base (row_of (take used text) row) (tree_of (take used text) 16 nodes (n - 1)))
    test_is = by b A (prepared_for b A m)
      where
        by : (b : List ℕ) → TestAsks b used n nodes row text → PreparedIs b row (length text) used nodes (Ok n)
            → test base b used (take used text) row ≡ tested_of (eval base (row_of (take used text) row) (tree_of (take used text) 16 nodes (n - 1)))
        by [] A p = absurd (m A.ready)
        by (x ∷ b) A p = unfold test in (rw (p.1.1, denotes_tree used (take used text) nodes 16 (n - 1) p.1.0 p.1.5 p.1.6))

    -- the same by one word
    pub stored_is : length (take used text) ≡ used
    stored_is = stored_long base used used 16 (n - 1) nodes row text test_asks

    pub try_stands : Stands 16 (n - 1) nodes row (take used text)
    try_stands = stands base used used 16 (n - 1) nodes row text test_asks

    pub tried_is : (w : ℕ) (y : Bool) → Found 16 (n - 1) nodes row (take used text) w
        → ((stored : List ℕ) → WellFormed (length stored) w → y ≡ to_bool (value_of stored w)) → test base b used (take used text) row ≡ is y
    tried_is w y f t = test_is ∙ ap tested_of (f.means base) ∙ ap is (sym (t (take used text) f.within))

    -- what evaluation's answer makes of the test
    module _ (place : ℕ) (after : List ℕ) where
      -- a cell's truth
      pub test_value : length after ≡ length text → (w u : ℕ) (y : Bool) → Answers base used used 16 (n - 1) nodes row text after (Ok (w, u))
          → ((stored : List ℕ) → WellFormed (length stored) w → y ≡ to_bool (value_of stored w)) → TestIs used place text after (Ok y) (test base b used (take used text) row)
      test_value same w u y a t =
          let l : u ≤ length after = omega (arith, same, a.says.3, test_asks.room) in
          let h : WellFormed (length (take u after)) w = subst (λ k. WellFormed k w) (sym (length-take-le u after l)) a.says.1 in
          record { kept = a.kept; says = rw (test_is, a.says.0) (ap is (sym (t (take u after) h))) }

      -- a fault, at this place
      pub test_fault : (f : Fault) (r : Refusal) → stop_of r ≡ stop (number_of f) place → Answers base used used 16 (n - 1) nodes row text after (Err f)
          → TestIs used place text after (Err r) (test base b used (take used text) row)
      test_fault f r e a =
          let number : (told r).number ≡ number_of f = cc in
          let there : (told r).place ≡ place = cc in
          record { kept = a.kept; says = (rw (test_is, a.says, number), there) }
