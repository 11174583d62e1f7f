-- The promise of document 01: "If folding is accepted, both conditions evaluate alike on every row that is well formed under the old mark, refusal
-- numbers included but not places, texts compared by content, where neither evaluation gets 10." It is `promise`, at the end. Assumes nothing.
use mathlib.Core.Path.{◌≡◌, refl, sym, ap, ap₂, subst, ◌∙◌}
use mathlib.Core.Bool.{Bool, true, false}
use mathlib.Core.List.{List}
use Prim.Native.Nat.{ℕ, ◌+◌, ◌≤◌, ◌<◌}
use native.Mathlib.Omega.{arith}
use native.Mathlib.Nat.{zero-add}
use lib.ListN.{length, take, get_or}
use lib.Seq.{length-take-le}
use lib.Dec.{ltb}
use Rattle.refusals.specs.Told.{told}
use Rattle.refusals.specs.Stop.{never, stop, stop_if, or_else}
use Rattle.slices.proofs.Splice.{front_splice}
use Rattle.writing.specs.Marked.{wrote}
use Rattle.values.specs.Value.{Value, null, value_of}
use Rattle.checks.specs.Check.{room_stop, cells_stop}
use Rattle.operators.specs.declared.Rules.{Rules}
use Rattle.conditions.specs.Ast.{Tree}
use Rattle.evaluation.specs.Evaluation.{Report, gave, evaluation, Says, EvaluatedIs}
use Rattle.postfix.specs.Postfix.{bytes_of, width}
use Rattle.replacing.specs.Fold.{Folding, folded}
use Rattle.folding.specs.Call.{report, folding, stored_after, output_after, FoldIs}
use Rattle.folding.proofs.Calling.{there}
use Rattle.folding.proofs.ReadBack.{Accepted, accepted}
use Rattle.folding.proofs.Evaluating.{shown, shown_alike}
use Rattle.std.specs.Prelude.{Result, Ok, Err}
use Rattle.refusals.specs.declared.Refusal.{Refusal}

-- ---- what two answers have in common

-- both are cells of one content, each read in its text, or both are refusals of one number, at whatever places
abbrev pub AlikeAnswers : List ℕ → List ℕ → Result ℕ Refusal → Result ℕ Refusal → Type 0
AlikeAnswers text text' (Ok w) (Ok w') = value_of text w ≡ value_of text' w'
AlikeAnswers text text' (Ok w) (Err x) = ⊥
AlikeAnswers text text' (Err x) (Ok w) = ⊥
AlikeAnswers text text' (Err x) (Err y) = (told x).number ≡ (told y).number

-- an answer that is not refusal 10
abbrev pub NotTen : Result ℕ Refusal → Type 0
NotTen (Ok w) = Unit {0}
NotTen (Err x) = (told x).number ≡ 10 → ⊥

-- the value of a result
abbrev given : Report → Value
given (gave v) = v
given (Report.refused number place) = null

-- its number
abbrev numbered : Report → ℕ
numbered (gave v) = 0
numbered (Report.refused number place) = number

-- answers to two results that are the same but for their places
answers_alike : (b b' row text text' : List ℕ) (used mark : ℕ) (o o' : Report) (r r' : Result ℕ Refusal) → shown o ≡ shown o'
    → Says b row text used r o → Says b' row text' mark r' o' → AlikeAnswers text text' r r'
answers_alike b b' row text text' used mark o o' (Ok w) (Ok w') e h k = ap given (sym (ap shown h.0) ∙ e ∙ ap shown k.0)
answers_alike b b' row text text' used mark o o' (Ok w) (Err y) e h k =
    absurd (let q = sym (ap shown h.0) ∙ e ∙ ap shown k in let z : ◌≡◌ {A = ℕ} 0 1 = cc in omega arith)
answers_alike b b' row text text' used mark o o' (Err x) (Ok w') e h k =
    absurd (let q = sym (ap shown h) ∙ e ∙ ap shown k.0 in let z : ◌≡◌ {A = ℕ} 0 1 = cc in omega arith)
answers_alike b b' row text text' used mark o o' (Err x) (Err y) e h k = ap numbered (sym (ap shown h) ∙ e ∙ ap shown k)

-- ---- room

-- the room is there, or it is refused with 10
room_by : {P : Type 0} (needed size used : ℕ) → (room_stop needed size used ≡ never → P) → (room_stop needed size used ≡ stop 10 0 → P) → P
unfolding room_stop
room_by {P} needed size used = by (ltb 65536 size) (ltb size used) (ltb size (used + needed))
  where
    by : (a b c : Bool) → (or_else (stop_if a 10 0) (or_else (stop_if b 10 0) (or_else (stop_if c 10 0) never)) ≡ never → P)
        → (or_else (stop_if a 10 0) (or_else (stop_if b 10 0) (or_else (stop_if c 10 0) never)) ≡ stop 10 0 → P) → P
    by true b c f g = g refl
    by false true c f g = g refl
    by false false true f g = g refl
    by false false false f g = f refl

-- an evaluation that does not get 10 has it
room_is : (R : Rules) (b row stored text : List ℕ) (size used : ℕ) (r : Result ℕ Refusal) → Says b row text used r (evaluation R b row stored size used) → NotTen r
    → room_stop 32768 size used ≡ never
room_is R b row stored text size used r h n = room_by 32768 size used (λ e. e) (λ e. absurd (refused r (tenth e) h n))
  where
    tenth : room_stop 32768 size used ≡ stop 10 0 → evaluation R b row stored size used ≡ Report.refused 10 0
    tenth e = unfold evaluation in (rw e refl)

    refused : (r : Result ℕ Refusal) → evaluation R b row stored size used ≡ Report.refused 10 0 → Says b row text used r (evaluation R b row stored size used) → NotTen r → ⊥
    refused (Ok w) e h n = let z : ◌≡◌ {A = ℕ} 0 1 = cc in omega arith
    refused (Err x) e h n = n (ap numbered (sym h ∙ e))

-- ---- the calls

-- a folding that is told as so many bytes and this mark
record Writes (f : Folding) (count mark : ℕ) : Type 0 where
  folded_tree : Tree ℕ
  stored_text : List ℕ
  is : f ≡ folded folded_tree stored_text
  bytes_told : count ≡ width folded_tree
  mark_told : mark ≡ length stored_text

-- it is accepted
writes : (f : Folding) (count mark : ℕ) → wrote count mark ≡ report f → Writes f count mark
writes (folded t s) count mark e = record { folded_tree = t; stored_text = s; is = refl; bytes_told = cc; mark_told = cc }
writes (Folding.refused n p) count mark e = absurd (let z : ◌≡◌ {A = ℕ} 0 1 = cc in omega arith)

-- folding is accepted: the condition's bytes b, the text and the output before and after, the old mark, the bytes written and the new mark
module _ (R : Rules) (short : R.limit ≤ 1024) (b : List ℕ) (bytes : (i : ℕ) → get_or b i 0 < 256) (text after before-out after-out : List ℕ) (used count mark : ℕ)
    (fold_is : FoldIs (folding R b (take used text) (length text) used (length before-out)) (take used text) after before-out after-out (Ok (count, mark))) where
  -- what it came to
  abbrev W : Writes (folding R b (take used text) (length text) used (length before-out)) count mark
  W = writes (folding R b (take used text) (length text) used (length before-out)) count mark fold_is.says

  -- the folded tree
  abbrev t' : Tree ℕ
  t' = W.folded_tree

  -- the stored text after it
  abbrev s' : List ℕ
  s' = W.stored_text

  -- the tree that the bytes were
  abbrev A : Accepted R b (take used text) (length text) used (length before-out) t' s'
  A = accepted R b (take used text) (length text) used (length before-out) t' s' W.is

  -- the old mark lies within the text
  whole : length (take used text) ≡ used
  whole = length-take-le used text (omega (arith, (there b (length text) used (length before-out) A.passed).1))

  -- the bytes written are the folded tree's
  written : take count after-out ≡ bytes_of t'
  written =
      ap₂ take (W.bytes_told ∙ sym (zero-add (width t'))) (fold_is.output ∙ ap (λ f. output_after f before-out) W.is)
      ∙ front_splice before-out 0 (bytes_of t') (omega arith)

  -- the text below the new mark is the old one with the appended texts
  stored : take mark after ≡ s'
  stored =
      ap (λ n. take n after) W.mark_told
      ∙ subst (λ f. take (length (stored_after f (take used text))) after ≡ stored_after f (take used text)) W.is fold_is.text

  -- on every row that is well formed under the old mark: the condition as it was, in any text that has the old stored text below the old mark, and the
  -- written one, in any that has the new stored text below the new mark, give answers that are alike where neither is 10
  pub promise : (row text₁ text₁' text₂ text₂' : List ℕ) (r r' : Result ℕ Refusal) → cells_stop used 0 row ≡ never
      → take used text₁ ≡ take used text → EvaluatedIs R b row text₁ text₁' used r → NotTen r
      → take mark text₂ ≡ take mark after → EvaluatedIs R (take count after-out) row text₂ text₂' mark r' → NotTen r'
      → AlikeAnswers text₁' text₂' r r'
  promise row text₁ text₁' text₂ text₂' r r' cells same₁ h n same₂ k m =
      let room₁ = room_is R b row (take used text₁) text₁' (length text₁) used r h.says n in
      let room₂ = room_is R (take count after-out) row (take mark text₂) text₂' (length text₂) mark r' k.says m in
      let e : shown (evaluation R b row (take used text₁) (length text₁) used) ≡ shown (evaluation R (take count after-out) row (take mark text₂) (length text₂) mark) =
      ap (λ s. shown (evaluation R b row s (length text₁) used)) same₁
      ∙ shown_alike short bytes whole A row cells (length text₁) (length text₂) room₁ (subst (λ u. room_stop 32768 (length text₂) u ≡ never) W.mark_told room₂)
      ∙ sym (ap₂ (λ c s. shown (evaluation R c row s (length text₂) mark)) written (same₂ ∙ stored) ∙ ap (λ u. shown (evaluation R (bytes_of t') row s' (length text₂) u)) W.mark_told) in
      answers_alike b (take count after-out) row text₁' text₂' used mark _ _ r r' e h.says k.says
