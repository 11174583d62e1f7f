-- Which of two rows `earlier` hands back, as a number. Assumes nothing: these are definitions.
use Rattle.std.specs.Prelude.{ℕ, zero, suc, List, [], length, take}
use Rattle.refusals.specs.Stop.{unless_stopped}
use Rattle.std.specs.declared.cmp.Ordering.{Ordering}
use Rattle.std.specs.declared.cmp.Ordering.TheVariants.{Less, Equal, Greater}
use Rattle.keys.specs.Key.{key_order, rows_stop}

-- the first row is 1, also where the keys are equal; the second is 2
abbrev pub which_of : Ordering → ℕ
which_of Less = 1
which_of Equal = 1
which_of Greater = 2

-- the number of the row that `earlier` hands back
unfoldable pub which_earlier : List ℕ → List ℕ → ℕ → List ℕ → List ℕ → ℕ
which_earlier columns text used first second =
    unless_stopped (λ number place. 0) (rows_stop columns (length text) used first second) (which_of (key_order columns (take used text) first second))

-- the row of such a number
abbrev pub handed : ℕ → List ℕ → List ℕ → List ℕ
handed zero first second = []
handed (suc zero) first second = first
handed (suc (suc n)) first second = second
