-- The call `fold`: its refusals in document 01's order, what it comes to, and what it leaves in text and output. Assumes nothing: these are definitions.
use Rattle.std.specs.Prelude.{ℕ, ◌≤◌, ◌≡◌, List, [], ◌∷◌, length, take}
use Rattle.refusals.specs.Told.{told}
use Rattle.refusals.specs.Stop.{Stop, never, stop_of, first_of, unless_stopped}
use Rattle.slices.specs.Splice.{splice}
use Rattle.writing.specs.Marked.{Report, wrote}
use Rattle.checks.specs.Check.{room_stop, output_stop}
use Rattle.operators.specs.declared.Rules.{Rules}
use Rattle.conditions.specs.Ast.{Tree}
use Rattle.nodes.specs.declared.Allowed.TheVariants.{Mixed}
use Rattle.forms.specs.Form.{parsed, form_stop, of_tree}
use Rattle.forms.specs.Held.{ScanIs}
use Rattle.postfix.specs.Postfix.{bytes_of, width}
use Rattle.replacing.specs.Fold.{Folding, folded, fold}
use Rattle.std.specs.Prelude.{Result, Ok, Err}
use Rattle.refusals.specs.declared.Refusal.{Refusal}

-- all that is looked at before folding; size is the text buffer's
abbrev pub fold_stop : List ℕ → ℕ → ℕ → ℕ → Stop
fold_stop b size used output = first_of (room_stop 32768 size used ∷ output_stop output ∷ form_stop (parsed Mixed used b) ∷ [])

-- a condition's bytes folded, its texts read in the stored text
unfoldable pub folding : Rules → List ℕ → List ℕ → ℕ → ℕ → ℕ → Folding
folding R b stored size used output =
    unless_stopped Folding.refused (fold_stop b size used output) (of_tree (λ t. fold R 0 t stored) Folding.refused (parsed Mixed used b))

-- what an answer tells: bytes written and the new mark, or a refusal's number and place
abbrev pub report_of : Result (ℕ × ℕ) Refusal → Report
report_of (Ok (count, mark)) = wrote count mark
report_of (Err r) = Report.refused (told r).number (told r).place

-- what is to be told of a folding: the folded bytes' length, and the mark after the text that was appended
abbrev pub report : Folding → Report
report (folded t s) = wrote (width t) (length s)
report (Folding.refused number place) = Report.refused number place

-- the stored text after it
abbrev pub stored_after : Folding → List ℕ → List ℕ
stored_after (folded t s) stored = s
stored_after (Folding.refused number place) stored = stored

-- the output after it: the folded tree's bytes at its start
abbrev pub output_after : Folding → List ℕ → List ℕ
output_after (folded t s) before = splice before 0 (bytes_of t)
output_after (Folding.refused number place) before = before

-- an answer with the text and the output after it, where the call comes to this folding
pub record FoldIs (f : Folding) (stored after before-out after-out : List ℕ) (answer : Result (ℕ × ℕ) Refusal) : Type 0 where
  pub says : report_of answer ≡ report f
  pub text : take (length (stored_after f stored)) after ≡ stored_after f stored
  pub output : after-out ≡ output_after f before-out
  pub room : (t : Tree ℕ) (s : List ℕ) → f ≡ folded t s → width t ≤ length before-out

-- what is prepared for folding: nothing stops it and the table holds the tree, or what stops it
abbrev pub PreparedIs : List ℕ → ℕ → ℕ → ℕ → List ℕ → Result ℕ Refusal → Type 0
PreparedIs b size used output nodes (Ok n) = (fold_stop b size used output ≡ never) × ScanIs used b nodes (Ok n) (parsed Mixed used b)
PreparedIs b size used output nodes (Err r) = fold_stop b size used output ≡ stop_of r
