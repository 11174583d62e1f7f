-- `conjunction::with` meets its contract. Assumes nothing.
use mathlib.Core.Path.{sym}
use native.Mathlib.Omega.{arith}
use Rattle.refusals.proofs.First.{at_err}
use Rattle.writing.proofs.Answers.{refused_is}
use Rattle.conjunction.proofs.Stopping.{each_old, each_new, each_output, whole_short}
use Rattle.conjunction.proofs.Joining.{wrote_whole, whole_stops, with_written}
use Rattle.conjunction.proofs.with.Goals as goal

pub join-end-requires : goal.join-end-requires
join-end-requires c =
    let e = sym c.in_ok-check_each.ensures in
    (each_old _ _ _ _ _ e, each_new _ _ _ c.args.old.now _ e, omega arith)

pub returns-in_err-check_form : goal.returns-in_err-check_form
returns-in_err-check_form c =
    rw (at_err c.from_residual-in_err-check_form.ensures.1)
    (refused_is _ _ _ _ _ (whole_stops _ _ _ _ _ _ (sym c.in_ok-check_each.ensures) (wrote_whole c.join-end.ensures) _ (sym c.in_err-check_form.ensures)))

pub write_bytes-requires : goal.write_bytes-requires
write_bytes-requires c =
    omega (arith, whole_short _ _ (sym c.in_ok-check_form.ensures), each_output _ _ _ _ _ (sym c.in_ok-check_each.ensures))

pub returns : goal.returns
returns c = with_written _ _ _ _ _ _ (sym c.in_ok-check_each.ensures) (wrote_whole c.join-end.ensures) _ _ (sym c.in_ok-check_form.ensures) c.write_bytes.ensures
