-- `postfix::write_text` meets its contract. Assumes nothing.
use native.Mathlib.Omega.{arith}
use Rattle.slices.proofs.Splice.{wrote_then, wrote_length}
use Rattle.cells.specs.Cell.{start_of}
use Rattle.postfix.proofs.Writing.{length_little}
use Rattle.postfix.proofs.write_text.Goals as goal

pub write_little-requires : goal.write_little-requires
write_little-requires c = omega (arith, wrote_length c.write_little-next.ensures, c.write_little-next.ensures.place, length_little 4 (start_of c.args.word), c.requires)

pub returns : goal.returns
returns c = wrote_then c.write_little-next.ensures c.write_little.ensures
