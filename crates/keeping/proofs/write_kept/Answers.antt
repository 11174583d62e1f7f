-- `keeping::write_kept` meets its contract. Assumes nothing.
use native.Mathlib.Omega.{arith}
use Rattle.keeping.proofs.Keeping.{kept_fits, kept_short, kept_room}
use Rattle.keeping.proofs.write_kept.Goals as goal

pub overflow_mul-needed : goal.overflow_mul-needed
overflow_mul-needed c = omega (arith, kept_fits c.requires _ c.projected_width.ensures)

pub returns-then-out-needed : goal.returns-then-out-needed
returns-then-out-needed c = kept_short c.requires _ c.projected_width.ensures _ c.if-out-needed.true

pub write_rows-requires : goal.write_rows-requires
write_rows-requires c = (c.requires.asked, kept_room c.requires _ c.projected_width.ensures c.args.out.now c.if-out-needed.false)
