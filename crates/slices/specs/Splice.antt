-- A part of a list, and a list with another one written over it, for any element. Assumes nothing: these are definitions.
use Rattle.std.specs.Prelude.{◌≡◌, ℕ, ◌+◌, ◌≤◌, List, ◌++◌, length, take, drop}

-- the part of so many elements from a place on
abbrev pub piece : {A : Type 0} → ℕ → ℕ → List A → List A
piece start size l = take size (drop start l)

-- d with s written over it from the place at on
unfoldable pub splice : {A : Type 0} → List A → ℕ → List A → List A
splice d at s = take at d ++ (s ++ drop (at + length s) d)

-- writing s into d from the place at on leaves e, and p is the place after it
pub record Wrote {A : Type 0} (d : List A) (at : ℕ) (s : List A) (p : ℕ) (e : List A) : Type 0 where
  pub room : at + length s ≤ length d
  pub place : p ≡ at + length s
  pub list : e ≡ splice d at s
