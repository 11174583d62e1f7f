-- Two answers of `scan` to the same question are the same, and the two tables hold the same tree; their words are left open. Assumes nothing.
use mathlib.Core.Path.{◌≡◌, sym, ap, subst, ◌∙◌}
use mathlib.Core.List.{List}
use Prim.Native.Nat.{ℕ, ◌-◌}
use native.Mathlib.Omega.{arith}
use lib.ListN.{get_or}
use Rattle.refusals.specs.Stop as stops
use Rattle.refusals.proofs.Unique.{one_refusal}
use Rattle.conditions.specs.Ast.{Tree, size}
use Rattle.forms.specs.Form.{Parsed, tree, refusal}
use Rattle.forms.specs.Held.{Denotes, ScanIs}
use Rattle.std.specs.Prelude.{Result, Ok, Err}
use Rattle.refusals.specs.declared.Refusal.{Refusal}

-- two tables of n nodes: the last one's tree is the same, and so is the first word
pub record SameTree (used n : ℕ) (nodes nodes' : List ℕ) : Type 0 where
  pub whole : Tree ℕ
  pub here : Denotes used nodes (n - 1) whole
  pub there : Denotes used nodes' (n - 1) whole
  pub first : get_or nodes 0 0 ≡ get_or nodes' 0 0

-- after a refusal nothing is said of them
abbrev pub SameTable : ℕ → List ℕ → List ℕ → Result ℕ Refusal → Type 0
SameTable used nodes nodes' (Ok n) = SameTree used n nodes nodes'
SameTable used nodes nodes' (Err r) = Unit {0}

-- what was parsed has one tree
pub one_tree : {p : Parsed} {t t' : Tree ℕ} → p ≡ tree t → p ≡ tree t' → t ≡ t'
one_tree e e' = cc

-- the refusal of what was parsed, as a stop
stop_in : Parsed → stops.Stop
stop_in (tree t) = stops.never
stop_in (refusal number place) = stops.stop number place

-- two answers, and the tables that they speak of
pub one_scan : (used : ℕ) (b nodes nodes' : List ℕ) (p : Parsed) (r s : Result ℕ Refusal) → ScanIs used b nodes r p → ScanIs used b nodes' s p
    → (r ≡ s) × SameTable used nodes nodes' r
unfolding stop_in
one_scan used b nodes nodes' p (Ok n) (Ok m) (t, e, pos, long, few, low, held, first) (t', e', pos', long', few', low', held', first') =
    let same : t' ≡ t = one_tree e' e in
    let count : m ≡ n = sym long' ∙ ap size same ∙ long in (
      ap Ok (sym count),
      record { whole = t; here = held; there = subst (λ x. Denotes used nodes' (x - 1) t) count (subst (Denotes used nodes' (m - 1)) same held'); first = first ∙ sym first' },
    )
one_scan used b nodes nodes' p (Ok n) (Err q) h k =
    absurd (let z : ◌≡◌ {A = stops.Stop} stops.never (stops.stop_of q) = ap stop_in (sym h.1 ∙ k) in let y : ◌≡◌ {A = ℕ} 0 1 = cc in omega arith)
one_scan used b nodes nodes' p (Err q) (Ok n) h k =
    absurd (let z : ◌≡◌ {A = stops.Stop} (stops.stop_of q) stops.never = ap stop_in (sym h ∙ k.1) in let y : ◌≡◌ {A = ℕ} 0 1 = cc in omega arith)
one_scan used b nodes nodes' p (Err q) (Err q') h k = (ap Err (one_refusal q q' (ap stop_in (sym h ∙ k))), tt)
