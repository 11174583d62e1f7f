-- A list that has another one at its start: a stored text after something was appended to it. Assumes nothing.
use Rattle.std.proofs.Common.{◌≡◌, ◌≤◌, List, ◌++◌, length, take, sym, ap, ◌∙◌, arith, length-append, take-take}
use lib.Seq.{take-length, take-append_seam}

-- l is k, or k with something after it
pub record Extends {A : Type 0} (k l : List A) : Type 0 where
  pub longer : length k ≤ length l
  pub front : take (length k) l ≡ k

module _ {A : Type 0} where
  -- nothing after it
  pub extends_own : (l : List A) → Extends l l
  extends_own l = record { longer = omega arith; front = take-length l }

  -- something after it
  pub extends_more : (k new : List A) → Extends k (k ++ new)
  extends_more k new = record { longer = omega (arith, length-append k new); front = take-append_seam k new }

  -- something after it, then something more
  pub extends_then : {k l m : List A} → Extends k l → Extends l m → Extends k m
  extends_then {k} {l} {m} e f = record {
    longer = omega (arith, e.longer, f.longer);
    front = sym (take-take (length k) (length l) m e.longer) ∙ ap (take (length k)) f.front ∙ e.front;
  }
