-- One row tested, and a whole table tested by a condition from its bytes on. Assumes nothing: these are definitions.
use Rattle.std.specs.Prelude.{ℕ, ◌≡◌, cond, List, length, take}
use Rattle.refusals.specs.Stop.{Stop, never, stop_of}
use Rattle.testing.specs.Test.{Tested}
use Rattle.marking.specs.RowList.{Test, is_true, stop_at}
use Rattle.marking.specs.Marks.{Says}
use Rattle.std.specs.Prelude.{Result, Ok, Err}
use Rattle.refusals.specs.declared.Refusal.{Refusal}

-- how many rows of one row are true: 1 or 0; or the refusal at its place
abbrev pub MarkIs : ℕ → Result ℕ Refusal → Tested → Type 0
MarkIs place (Ok k) t = (stop_at t place ≡ never) × (k ≡ cond (is_true t) 1 0)
MarkIs place (Err r) t = stop_at t place ≡ stop_of r

-- one row's mark; text below the mark is as it was, and with no condition (no nodes) all of it
pub record RowIs (used place count : ℕ) (before after : List ℕ) (r : Result ℕ Refusal) (t : Tested) : Type 0 where
  pub kept : take used after ≡ take used before
  pub alone : count ≡ 0 → after ≡ before
  pub says : MarkIs place r t

-- a whole table marked, where s is the condition's own refusal; text below the mark is as it was, and with no condition all of it
pub record TableIs (b : List ℕ) (s : Stop) (t : Test) (n used : ℕ) (text text' marks marks' : List ℕ) (r : Result ℕ Refusal) : Type 0 where
  pub kept : take used text' ≡ take used text
  pub alone : length b ≡ 0 → text' ≡ text
  pub says : Says s t n marks marks' r
