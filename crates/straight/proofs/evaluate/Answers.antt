-- `straight::evaluate` meets its contract: the checks before the form, then the pass. Assumes nothing.
use lib.ListN.{length}
use Rattle.std.proofs.lemmas.Option.{IfSome_then}
use Rattle.straight.specs.Straight.{Straight}
use Rattle.straight.proofs.Reading.{room_passed, row_sound}
use Rattle.straight.proofs.evaluate.Goals as goal

pub run-requires : goal.run-requires
run-requires c = row_sound c.args.row.now c.args.text.now c.args.used c.if-text-used.false (c.are_cells.ensures c.if-are_cells.true)

pub returns-then-are_cells : goal.returns-then-are_cells
returns-then-are_cells c = IfSome_then _ {Q = Straight _ _ _ _} c.run.ensures (λ w r. record {
  room = room_passed (length c.args.text.now) c.args.used c.if-text-gt65536.false c.if-text-used.false c.if-text-used-lt32768.false;
  count = (c.if-row-lt1.false, c.if-row-gt32.false);
  cells = c.are_cells.ensures c.if-are_cells.true;
  ran = r;
})
