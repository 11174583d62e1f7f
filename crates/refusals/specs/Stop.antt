-- Where a call stops, and which of several checks stops it first ("Order"). Assumes nothing: these are definitions.
use Rattle.std.specs.Prelude.{ℕ, ◌+◌, Bool, true, false, List, [], ◌∷◌, Result, Ok, Err, ⊤}
use Rattle.refusals.specs.Told.{told}
use Rattle.refusals.specs.declared.Refusal.{Refusal}

-- nowhere, or with a refusal's number at a place
pub data Stop : Type 0 where
  never : Stop
  stop : ℕ → ℕ → Stop

-- what a refusal tells, as a stop
abbrev pub stop_of : Refusal → Stop
stop_of r = stop (told r).number (told r).place

-- what a check's answer tells
abbrev pub checked_of : Result ⊤ Refusal → Stop
checked_of (Ok u) = never
checked_of (Err r) = stop_of r

-- a stop where a test holds
abbrev pub stop_if : Bool → ℕ → ℕ → Stop
stop_if true number place = stop number place
stop_if false number place = never

-- the first of two stops, and of several, in document 01's order
abbrev pub or_else : Stop → Stop → Stop
or_else never later = later
or_else (stop number place) later = stop number place

-- the first of several that stops
abbrev pub first_of : List Stop → Stop
first_of [] = never
first_of (s ∷ ss) = or_else s (first_of ss)

-- what a call comes to where nothing stops it, and otherwise by the stop's number and place
abbrev pub unless_stopped : {A : Type 0} → (ℕ → ℕ → A) → Stop → A → A
unless_stopped refused never a = a
unless_stopped refused (stop number place) a = refused number place

-- a stop in a part that begins at an offset: its place counts on from there
abbrev pub counted_from : ℕ → Stop → Stop
counted_from from never = never
counted_from from (stop number place) = stop number (from + place)
