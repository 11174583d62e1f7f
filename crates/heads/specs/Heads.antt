-- The calls `inner_join_columns` and `left_join_columns`: the columns of a join, left and right (document 01, "Joined columns get table name, dot,
-- column name"; Join of query.rs). Assumes nothing: these are definitions.
use Rattle.std.specs.Prelude.{ℕ, ◌≡◌, Bool, false, cond, List, [], ◌∷◌, length, take, ltb}
use Rattle.refusals.specs.Told.{told}
use Rattle.refusals.specs.Stop.{Stop, stop_if, first_of, unless_stopped}
use Rattle.slices.specs.Splice.{splice}
use Rattle.writing.specs.Marked.{Report, wrote}
use Rattle.checks.specs.Check.{room_stop}
use Rattle.tables.specs.Table.{column_count, are_sides, count_stop, column_words_stop}
use Rattle.naming.specs.OneSide.{Head, joined, side_of}
use Rattle.std.specs.Prelude.{Result, Ok, Err}
use Rattle.refusals.specs.declared.Refusal.{Refusal}

-- left columns, then right ones
abbrev pub head_of : Bool → List ℕ → List ℕ → List ℕ → List ℕ → List ℕ → Head
head_of nullable left_name left right_name right stored =
    side_of left_name false 0 left (λ s. side_of right_name nullable (column_count left) right (λ s'. joined [] s') s) stored

-- 10, counts, table names over 255 bytes (3 at 0), 8 and 3 over the columns' words
abbrev pub head_stop : List ℕ → List ℕ → List ℕ → List ℕ → ℕ → ℕ → Stop
head_stop left_name left right_name right size used =
    first_of
    (room_stop 32768 size used
    ∷ count_stop (are_sides left right)
    ∷ stop_if (ltb 255 (length left_name)) 3 0
    ∷ stop_if (ltb 255 (length right_name)) 3 0
    ∷ column_words_stop used 0 (left ∷ right ∷ [])
    ∷ [])

-- 9 with the words that the whole result takes
abbrev pub if_room : ℕ → Head → Head
if_room output (joined words stored) = cond (ltb output (length words)) (Head.refused 9 (length words)) (joined words stored)
if_room output (Head.refused number place) = Head.refused number place

-- what joining two column tables comes to; the right ones become nullable in a left join
unfoldable pub head : Bool → List ℕ → List ℕ → List ℕ → List ℕ → List ℕ → ℕ → ℕ → ℕ → Head
head nullable left_name left right_name right stored size used output =
    unless_stopped Head.refused (head_stop left_name left right_name right size used) (if_room output (head_of nullable left_name left right_name right stored))

-- what an answer tells: words written and the new mark, or a refusal's number and place
abbrev pub report_of : Result (ℕ × ℕ) Refusal → Report
report_of (Ok (count, mark)) = wrote count mark
report_of (Err r) = Report.refused (told r).number (told r).place

-- what is to be told of joined columns: how many words, and the mark after the appended names
abbrev pub report : Head → Report
report (joined words stored) = wrote (length words) (length stored)
report (Head.refused number place) = Report.refused number place

-- the stored text after it
abbrev pub stored_after : Head → List ℕ → List ℕ
stored_after (joined words stored) before = stored
stored_after (Head.refused number place) before = before

-- the output after it
abbrev pub output_after : Head → List ℕ → List ℕ
output_after (joined words stored) before = splice before 0 words
output_after (Head.refused number place) before = before

-- an answer with the text and the output after it, where the call comes to this
pub record HeadIs (h : Head) (stored after before-out after-out : List ℕ) (answer : Result (ℕ × ℕ) Refusal) : Type 0 where
  pub says : report_of answer ≡ report h
  pub text : take (length (stored_after h stored)) after ≡ stored_after h stored
  pub output : after-out ≡ output_after h before-out
