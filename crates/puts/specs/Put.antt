-- Bytes put one after another, as far as there is room: the same steps count and write. Assumes nothing: these are definitions.
use Rattle.std.specs.Prelude.{ℕ, suc, ◌+◌, ◌≡◌, List, [], ◌∷◌, length, set}

-- l with bytes put over it from a place on; what lies beyond its end is dropped
unfoldable pub put : List ℕ → ℕ → List ℕ → List ℕ
put l i [] = l
put l i (b ∷ bytes) = put (set l i b) (suc i) bytes

-- putting bytes at a place leaves e, and p is the place after all of them, those without room too
pub record Puts (l : List ℕ) (at : ℕ) (bytes : List ℕ) (p : ℕ) (e : List ℕ) : Type 0 where
  pub place : p ≡ at + length bytes
  pub list : e ≡ put l at bytes
