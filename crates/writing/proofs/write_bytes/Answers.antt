-- `writing::write_bytes` meets its contract. Assumes nothing.
use Rattle.writing.proofs.Answers.{wrote_start}
use Rattle.writing.proofs.write_bytes.Goals as goal

pub returns : goal.returns
returns c = wrote_start _ _ _ _ c.copy.ensures
