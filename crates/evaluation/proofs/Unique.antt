-- Two answers of `evaluate` to the same question are the same, but for the start of a computed text. Assumes nothing.
use mathlib.Core.Path.{◌≡◌, sym, ap, ◌∙◌}
use mathlib.Core.Bool.{false}
use mathlib.Core.List.{List}
use Prim.Native.Nat.{ℕ}
use native.Mathlib.Omega.{arith}
use lib.ListN.{take}
use Rattle.refusals.specs.Stop.{Stop, never, stop, stop_of}
use Rattle.refusals.proofs.Unique.{one_refusal}
use Rattle.cells.specs.Cell.{ref_of}
use Rattle.cells.proofs.Stops.{never_stops}
use Rattle.values.specs.Value.{Value, null, value_of}
use Rattle.values.proofs.ByWord.{is_str, one_word}
use Rattle.operators.specs.declared.Rules.{Rules}
use Rattle.conditions.specs.Ast.{Tree, size}
use Rattle.nodes.specs.declared.Allowed.TheVariants.{Bound}
use Rattle.forms.specs.Form.{tree, parsed}
use Rattle.evaluation.specs.Evaluation.{Report, gave, EvaluatedIs}
use Rattle.std.specs.Prelude.{Result, Ok, Err}
use Rattle.refusals.specs.declared.Refusal.{Refusal}

-- two returned cells: they mean the same, each in its text; their words differ at most where they are a text that was computed
pub record Alike (b : List ℕ) (used : ℕ) (after after' : List ℕ) (w w' : ℕ) : Type 0 where
  pub content : value_of after w ≡ value_of after' w'
  pub exact : is_str (ref_of w) ≡ false → w ≡ w'
  pub leaf : (t : Tree ℕ) → parsed Bound used b ≡ tree t → size t ≡ 1 → w ≡ w'

-- two answers: alike cells, or the same refusal
abbrev pub Same : List ℕ → ℕ → List ℕ → List ℕ → Result ℕ Refusal → Result ℕ Refusal → Type 0
Same b used after after' (Ok w) (Ok w') = Alike b used after after' w w'
Same b used after after' (Ok w) (Err s) = ⊥
Same b used after after' (Err r) (Ok w') = ⊥
Same b used after after' (Err r) (Err s) = r ≡ s

-- what a result gives or is refused with
given : Report → Value
given (gave v) = v
given (Report.refused number place) = null

stopped : Report → Stop
stopped (gave v) = never
stopped (Report.refused number place) = stop number place

module _ (R : Rules) (b row before after after' : List ℕ) (used : ℕ) where
  pub one_evaluation : (r r' : Result ℕ Refusal) → EvaluatedIs R b row before after used r → EvaluatedIs R b row before after' used r'
      → (take used after ≡ take used after') × Same b used after after' r r'
  unfolding given stopped
  one_evaluation (Ok w) (Ok w') h h' =
      let content : value_of after w ≡ value_of after' w' = ap given (sym h.says.0 ∙ h'.says.0) in (
        h.kept ∙ sym h'.kept,
        record {
          content = content;
          exact = λ n. one_word after after' w w' (never_stops _ w 0 h.says.1).0 (never_stops _ w' 0 h'.says.1).0 n content;
          leaf = λ t e o. (h.says.2 t e).own o ∙ sym ((h'.says.2 t e).own o);
        },
      )
  one_evaluation (Ok w) (Err s) h h' = absurd (let z : ◌≡◌ {A = Stop} never (stop_of s) = ap stopped (sym h.says.0 ∙ h'.says) in let y : ◌≡◌ {A = ℕ} 0 1 = cc in omega arith)
  one_evaluation (Err r) (Ok w') h h' = absurd (let z : ◌≡◌ {A = Stop} (stop_of r) never = ap stopped (sym h.says ∙ h'.says.0) in let y : ◌≡◌ {A = ℕ} 0 1 = cc in omega arith)
  one_evaluation (Err r) (Err s) h h' = (h.kept ∙ sym h'.kept, one_refusal r s (ap stopped (sym h.says ∙ h'.says)))
