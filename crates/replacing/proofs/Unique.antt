-- Two parts that say the same folding are the same, and so are their bytes in the output and the text below the top that is told. Assumes nothing.
use mathlib.Core.Path.{◌≡◌, sym, ap, ◌∙◌}
use mathlib.Core.List.{List, [], ◌++◌}
use Prim.Native.Nat.{ℕ, ◌+◌}
use native.Mathlib.Omega.{arith}
use lib.ListN.{length, take}
use Rattle.refusals.specs.Stop.{Stop, never, stop}
use Rattle.refusals.proofs.Unique.{one_refusal}
use Rattle.conditions.specs.Ast.{Tree, leaf}
use Rattle.postfix.specs.Postfix.{bytes_of, width}
use Rattle.replacing.specs.Fold.{Folding, folded}
use Rattle.replacing.specs.Walk.{root, Says, Gives}
use Rattle.std.specs.Prelude.{Result, Ok, Err}
use Rattle.replacing.specs.declared.Folded.{Folded}
use Rattle.refusals.specs.declared.Refusal.{Refusal}

-- what a folding has: its tree, its stored text, its refusal, and which of the two it is
tree_in : Folding → Tree ℕ
tree_in (folded x s) = x
tree_in (Folding.refused number place) = leaf 0

stored_in : Folding → List ℕ
stored_in (folded x s) = s
stored_in (Folding.refused number place) = []

stopped : Folding → Stop
stopped (folded x s) = never
stopped (Folding.refused number place) = stop number place

kind : Folding → ℕ
kind (folded x s) = 0
kind (Folding.refused number place) = 1

-- two parts with the same fields are the same
same_part : (p p' : Folded) → p.word ≡ p'.word → p.end ≡ p'.end → p.top ≡ p'.top → p.next ≡ p'.next → p ≡ p'
same_part p p' w e t a =
    ap (λ v. record { word = v; end = p.end; top = p.top; next = p.next }) w ∙ ap (λ v. record { word = p'.word; end = v; top = p.top; next = p.next }) e
    ∙ ap (λ v. record { word = p'.word; end = p'.end; top = v; next = p.next }) t ∙ ap (λ v. record { word = p'.word; end = p'.end; top = p'.top; next = v }) a

-- the written bytes and the text below the top; after a refusal nothing is said of them
abbrev pub SameBytes : List ℕ → List ℕ → List ℕ → List ℕ → Result Folded Refusal → Type 0
SameBytes text text' out out' (Ok p) = (take p.end out ≡ take p.end out') × (take p.top text ≡ take p.top text')
SameBytes text text' out out' (Err r) = Unit {0}

-- replace, fold_one
module _ (front : List ℕ) (next : ℕ) (text text' out out' : List ℕ) (f : Folding) where
  pub one_part : (r s : Result Folded Refusal) → Says front next text out r f → Says front next text' out' s f → (r ≡ s) × SameBytes text text' out out' r
  unfolding tree_in stored_in stopped kind
  one_part (Ok p) (Ok p') h k =
      let x : h.0 ≡ k.0 = ap tree_in (sym h.2 ∙ k.2) in
      let s : h.1 ≡ k.1 = ap stored_in (sym h.2 ∙ k.2) in
      let w : p.word ≡ p'.word = h.3.last ∙ ap root x ∙ sym k.3.last in
      let e : p.end ≡ p'.end = h.3.place ∙ ap (λ t. length front + width t) x ∙ sym k.3.place in
      let t : p.top ≡ p'.top = h.4.long ∙ ap length s ∙ sym k.4.long in
      let a : p.next ≡ p'.next = h.5 ∙ sym k.5 in
      let r = ap Ok (same_part p p' w e t a) in
      let b = h.3.bytes ∙ ap (λ t. front ++ bytes_of t) x ∙ sym k.3.bytes ∙ ap (λ v. take v out') (sym e) in
      (r, (b, h.4.below ∙ s ∙ sym k.4.below ∙ ap (λ v. take v text') (sym t)))
  one_part (Ok p) (Err q) h k = absurd (let z : ◌≡◌ {A = ℕ} 0 1 = ap kind (sym h.2 ∙ k) in omega arith)
  one_part (Err q) (Ok p) h k = absurd (let z : ◌≡◌ {A = ℕ} 1 0 = ap kind (sym h ∙ k.2) in omega arith)
  one_part (Err q) (Err q') h k = (ap Err (one_refusal q q' (ap stopped (sym h ∙ k))), tt)

-- fold_two and the walk: the text below the old top, too
pub one_gift : (front : List ℕ) (next top : ℕ) (before after after' out out' : List ℕ) (r s : Result Folded Refusal) (f : Folding)
    → Gives front next top before after out r f → Gives front next top before after' out' s f
    → (r ≡ s) × SameBytes after after' out out' r × (take top after ≡ take top after')
one_gift front next top before after after' out out' r s f h k =
    let p = one_part front next after after' out out' f r s h.says k.says in
    (p.0, p.1, h.kept ∙ sym k.kept)
