-- Two answers of bind_leaf to the same question are the same, and so are the bytes that are told. Assumes nothing.
use mathlib.Core.Path.{◌≡◌, sym, ap, ap₂, ◌∙◌}
use mathlib.Core.List.{List}
use Prim.Native.Nat.{ℕ}
use native.Mathlib.Omega.{arith}
use lib.ListN.{take}
use Rattle.refusals.specs.Stop.{Stop, never, stop_of}
use Rattle.refusals.proofs.Unique.{one_refusal}
use Rattle.conditions.specs.Ast.{Tree}
use Rattle.numbering.specs.Walk.{Binds}
use Rattle.std.specs.Prelude.{Result, Ok, Err}
use Rattle.refusals.specs.declared.Refusal.{Refusal}

-- the written bytes; after a refusal nothing is said of them
abbrev pub SameBytes : List ℕ → List ℕ → Result (ℕ × ℕ) Refusal → Type 0
SameBytes out out' (Ok (end, next)) = take end out ≡ take end out'
SameBytes out out' (Err r) = Unit {0}

module _ (stored columns before out out' : List ℕ) (at end : ℕ) (t : Tree ℕ) where
  pub one_part : (r s : Result (ℕ × ℕ) Refusal) → Binds stored columns before out at end t r → Binds stored columns before out' at end t s
      → (r ≡ s) × SameBytes out out' r
  one_part (Ok (e, n)) (Ok (e', n')) h k =
      let i : e ≡ e' = h.1 ∙ sym k.1 in
      (ap₂ (λ x y. Ok (x, y)) i (h.3 ∙ sym k.3), h.2 ∙ sym k.2 ∙ ap (λ v. take v out') (sym i))
  one_part (Ok (e, n)) (Err q) h k =
      absurd (let z : ◌≡◌ {A = Stop} never (stop_of q) = sym h.0 ∙ k in let y : ◌≡◌ {A = ℕ} 0 1 = cc in omega arith)
  one_part (Err q) (Ok (e, n)) h k =
      absurd (let z : ◌≡◌ {A = Stop} (stop_of q) never = sym h ∙ k.0 in let y : ◌≡◌ {A = ℕ} 0 1 = cc in omega arith)
  one_part (Err q) (Err q') h k = (ap Err (one_refusal q q' (sym h ∙ k)), tt)
