-- `answers::which_earlier` meets its contract. Assumes nothing.
use mathlib.Core.Path.{sym, ap, ◌∙◌}
use lib.Seq.{length-take-le}
use Rattle.keys.proofs.Stopping.{inside, comparable}
use Rattle.answers.specs.Earlier.{which_of}
use Rattle.answers.proofs.Earlier.{none_earlier, one_earlier, handed_back}
use Rattle.answers.proofs.which_earlier.Goals as goal

pub returns-in_default : goal.returns-in_default
returns-in_default c =
    let both = handed_back _ _ _ _ _ 0 (none_earlier _ _ _ _ _ _ (sym c.in_default.ensures)) in
    record { value = both.0; second_value = both.1 }

pub slice_bounds-compare_keys-end : goal.slice_bounds-compare_keys-end
slice_bounds-compare_keys-end c = sym (length-take-le _ _ (inside _ _ _ _ _ (sym c.in-Ok.ensures)))

pub compare_keys-requires : goal.compare_keys-requires
compare_keys-requires c = comparable _ _ _ _ _ (sym c.in-Ok.ensures)

pub returns : goal.returns
returns c =
    let both = handed_back _ _ _ _ _ _ (c.which_of.ensures ∙ ap which_of c.compare_keys.ensures ∙ one_earlier _ _ _ _ _ (sym c.in-Ok.ensures)) in
    record { value = both.0; second_value = both.1 }
