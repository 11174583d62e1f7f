-- Numbers in a case: little-endian, a missing byte counts as 0 (docs/CASES.md). Assumes nothing: these are definitions.
use Rattle.std.specs.Prelude.{ℕ, ◌+◌, ◌*◌, ◌^◌, ◌<◌, ◌≡◌, List, get_or}
use Rattle.replay.specs.declared.Expected.{Expected}

-- four bytes of a case as a number, the lowest first
abbrev pub four_at : List ℕ → ℕ → ℕ
four_at case at = get_or case at 0 + get_or case (at + 1) 0 * 256 + (get_or case (at + 2) 0 + get_or case (at + 3) 0 * 256) * 65536

-- eight bytes likewise
abbrev pub eight_at : List ℕ → ℕ → ℕ
eight_at case at = four_at case at + four_at case (at + 4) * 2 ^ 32

-- a number of 4 bytes
pub record Four (case : List ℕ) (at r : ℕ) : Type 0 where
  pub is : r ≡ four_at case at
  pub small : r < 2 ^ 32

-- an answer's four numbers, 8 bytes each
pub record Read (case : List ℕ) (at : ℕ) (r : Expected) : Type 0 where
  pub number : r.number ≡ eight_at case at
  pub place : r.place ≡ eight_at case (at + 8)
  pub value : r.value ≡ eight_at case (at + 16)
  pub used : r.used ≡ eight_at case (at + 24)
