-- Two answers of projected_width are equal; the other contracts of this crate are equations already. Assumes nothing.
use mathlib.Core.Path.{◌≡◌, sym, ◌∙◌}
use mathlib.Core.List.{List}
use Prim.Native.Nat.{ℕ}
use lib.ListN.{length, replicate, length-replicate}
use Rattle.projecting.specs.Project.{projected}

-- there is a row of every width
pub one_width : (list : List ℕ) (width r s : ℕ) → ((row : List ℕ) → length row ≡ width → length (projected list row) ≡ r)
    → ((row : List ℕ) → length row ≡ width → length (projected list row) ≡ s) → r ≡ s
one_width list width r s f g = sym (f (replicate width 0) (length-replicate width 0)) ∙ g (replicate width 0) (length-replicate width 0)
