-- Two answers of `earlier` are equal; every contract of this crate is an equation already. Assumes nothing.
use mathlib.Core.Path.{◌≡◌, sym, ◌∙◌}
use mathlib.Core.List.{List}
use Prim.Native.Nat.{ℕ}
use Rattle.keys.specs.Key.{earlier_of}

-- two answers of `earlier` to the same question are the same
pub one_earlier : (columns text : List ℕ) (used : ℕ) (first second r s : List ℕ) → r ≡ earlier_of columns text used first second
    → s ≡ earlier_of columns text used first second → r ≡ s
one_earlier columns text used first second r s e f = e ∙ sym f
