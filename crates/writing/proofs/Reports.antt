-- Two equal reports have equal parts, and one of a result is never one of a refusal. Assumes nothing.
use mathlib.Core.Path.{◌≡◌, ap₂}
use Prim.Native.Nat.{ℕ}
use native.Mathlib.Omega.{arith}
use Rattle.refusals.specs.Told.{told}
use Rattle.refusals.specs.Stop.{stop}
use Rattle.refusals.specs.declared.Refusal.{Refusal}
use Rattle.refusals.proofs.Unique.{one_refusal}
use Rattle.writing.specs.Writing as writing
use Rattle.writing.specs.Marked as marked

-- two refusals with one number and one place are the same
same_told : (r s : Refusal) → (told r).number ≡ (told s).number → (told r).place ≡ (told s).place → r ≡ s
same_told r s e f = one_refusal r s (ap₂ stop e f)

-- ---- a count

-- equal reports tell one count
pub same_count : (n n' : ℕ) → writing.count n ≡ writing.count n' → n ≡ n'
same_count n n' e = cc

-- and one refusal
pub same_refused : (r s : Refusal) → writing.Report.refused (told r).number (told r).place ≡ writing.Report.refused (told s).number (told s).place → r ≡ s
same_refused r s e =
    let n : (told r).number ≡ (told s).number = cc in
    let p : (told r).place ≡ (told s).place = cc in
    same_told r s n p

-- a count is no refusal
pub count_apart : (n number place : ℕ) → writing.count n ≡ writing.Report.refused number place → ⊥
count_apart n number place e = let z : ◌≡◌ {A = ℕ} 0 1 = cc in omega arith

-- ---- a count and a mark

-- equal reports tell one count and one mark
pub same_wrote : (n mark n' mark' : ℕ) → marked.wrote n mark ≡ marked.wrote n' mark' → (n ≡ n') × (mark ≡ mark')
same_wrote n mark n' mark' e = (cc, cc)

-- and one refusal
pub same_denied : (r s : Refusal) → marked.Report.refused (told r).number (told r).place ≡ marked.Report.refused (told s).number (told s).place → r ≡ s
same_denied r s e =
    let n : (told r).number ≡ (told s).number = cc in
    let p : (told r).place ≡ (told s).place = cc in
    same_told r s n p

-- what was written is no refusal
pub wrote_apart : (n mark number place : ℕ) → marked.wrote n mark ≡ marked.Report.refused number place → ⊥
wrote_apart n mark number place e = let z : ◌≡◌ {A = ℕ} 0 1 = cc in omega arith
