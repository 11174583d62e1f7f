-- What a refusal and a result written at the start make of the output. Assumes nothing.
use mathlib.Core.Path.{◌≡◌, sym, ap, ◌∙◌}
use mathlib.Core.List.{List}
use Prim.Native.Nat.{ℕ}
use native.Mathlib.Omega.{arith}
use native.Mathlib.Nat.{zero-add}
use lib.ListN.{length}
use Rattle.slices.specs.Splice.{Wrote}
use Rattle.refusals.specs.Stop.{Stop, never, stop_of}
use Rattle.refusals.specs.declared.Refusal.{Refusal}
use Rattle.writing.specs.Writing.{count, WrittenIs}
use Rattle.std.specs.Prelude.{Ok, Err}

-- a refusal leaves the output alone
pub refused_is : (out : List ℕ) (s : Stop) (n : ℕ) (result : List ℕ) (r : Refusal) → s ≡ stop_of r → WrittenIs out out (Err r) s n result
refused_is out s n result r e = record {
  says = rw e;
  output = rw e;
  room = λ h. absurd (let q : stop_of r ≡ never = sym e ∙ h in let z : ◌≡◌ {A = ℕ} 0 1 = cc in omega arith);
}

-- a result that was written at the start
pub wrote_start : (before after result : List ℕ) (p : ℕ) → Wrote before 0 result p after → WrittenIs before after (Ok p) never (length result) result
wrote_start before after result p w = record {
  says = ap (λ n. count n) (w.place ∙ zero-add (length result));
  output = w.list;
  room = λ e. omega (arith, w.room);
}
