-- The number of the earlier row: 0 where a check stops, else by the order of the keys; and the row of that number. Assumes nothing.
use mathlib.Core.Path.{◌≡◌, refl, sym, ap, ◌∙◌}
use mathlib.Core.List.{List, []}
use Prim.Native.Nat.{ℕ}
use lib.ListN.{length, take}
use Rattle.refusals.specs.Stop.{Stop, never, stop, stop_of, unless_stopped}
use Rattle.refusals.specs.declared.Refusal.{Refusal}
use Rattle.std.specs.declared.cmp.Ordering.{Ordering}
use Rattle.std.specs.declared.cmp.Ordering.TheVariants.{Less, Equal, Greater}
use Rattle.keys.specs.Key.{key_order, pick, rows_stop, earlier_of}
use Rattle.answers.specs.Earlier.{which_of, which_earlier, handed}

module _ (columns text : List ℕ) (used : ℕ) (first second : List ℕ) where
  pub none_earlier : (r : Refusal) → rows_stop columns (length text) used first second ≡ stop_of r → 0 ≡ which_earlier columns text used first second
  unfolding which_earlier
  none_earlier r e = rw e

  pub one_earlier : rows_stop columns (length text) used first second ≡ never
      → which_of (key_order columns (take used text) first second) ≡ which_earlier columns text used first second
  unfolding which_earlier
  one_earlier e = rw e

  handed_one : (s : Stop) (o : Ordering) → unless_stopped (λ number place. []) s (pick o first second) ≡ handed (unless_stopped (λ number place. 0) s (which_of o)) first second
  handed_one never Less = refl
  handed_one never Equal = refl
  handed_one never Greater = refl
  handed_one (stop number place) o = refl

  -- the row of a number that is that one is what `earlier` hands back
  handed_which : earlier_of columns text used first second ≡ handed (which_earlier columns text used first second) first second
  unfolding earlier_of which_earlier
  handed_which = handed_one (rows_stop columns (length text) used first second) (key_order columns (take used text) first second)

  pub handed_back : (r : ℕ) → r ≡ which_earlier columns text used first second
      → (r ≡ which_earlier columns text used first second) × (earlier_of columns text used first second ≡ handed r first second)
  handed_back r e = (e, handed_which ∙ ap (λ n. handed n first second) (sym e))
