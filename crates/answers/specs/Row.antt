-- Where `row`'s part lies in the caller's rows. Assumes nothing: these are definitions.
use Rattle.std.specs.Prelude.{ℕ, ◌*◌, ◌≡◌, cond, List, length, eqb}
use Rattle.slices.specs.Splice.{piece}
use Rattle.tables.specs.Table.{row_at}
use Rattle.answers.specs.declared.Part.{Part}

-- start and length in words; both are 0 for the empty part
pub record PartIs (rows : List ℕ) (width number : ℕ) (p : Part) : Type 0 where
  pub long : p.length ≡ length (row_at rows width number)
  pub begins : p.start ≡ cond (eqb (length (row_at rows width number)) 0) 0 (number * width)
  pub words : piece p.start p.length rows ≡ row_at rows width number
