-- The order of values, value.rs's derived Ord: Null < Int < text < Binary. Assumes nothing: these are definitions.
use Rattle.std.specs.Prelude.{ℤ}
use Rattle.std.specs.Int.Signed.{lt_z}
use Rattle.slices.specs.Bytes.{by_tests, by_bytes}
use Rattle.std.specs.declared.cmp.Ordering.{Ordering}
use Rattle.std.specs.declared.cmp.Ordering.TheVariants.{Less, Equal, Greater}
use Rattle.values.specs.Value.{Value, null, int, str, binary}

-- Ints as numbers
abbrev pub by_ints : ℤ → ℤ → Ordering
by_ints a b = by_tests (lt_z a b) (lt_z b a) Equal

-- first by kind, then Ints as numbers and texts byte by byte, a prefix first
unfoldable pub order : Value → Value → Ordering
order null null = Equal
order null (int b) = Less
order null (str b) = Less
order null binary = Less
order (int a) null = Greater
order (int a) (int b) = by_ints a b
order (int a) (str b) = Less
order (int a) binary = Less
order (str a) null = Greater
order (str a) (int b) = Greater
order (str a) (str b) = by_bytes a b
order (str a) binary = Less
order binary null = Greater
order binary (int b) = Greater
order binary (str b) = Greater
order binary binary = Equal
