-- How long a sign gets, and what stands before an operand; how high a precedence. Assumes nothing.
use mathlib.Core.Bool.{Bool, true, false, cond}
use mathlib.Core.List.{List}
use Prim.Native.Nat.{ℕ, ◌≤◌}
use native.Mathlib.Omega.{arith}
use lib.ListN.{length, length-append}
use lib.Dec.{ltb, eqb}
use Rattle.puts.proofs.Putting.{either}
use Rattle.signs.specs.Sign.{precedence, sign, spaced, prefix}

-- at most 3 bytes
sign_short : (op : ℕ) → length (sign op) ≤ 3
unfolding sign
sign_short op =
    let s : (k : ℕ) (a b : List ℕ) → length a ≤ 3 → length b ≤ 3 → length (cond (eqb op k) a b) ≤ 3 = λ k a b. either (eqb op k) a b 3 in
    s 32 _ _ (omega arith) (s 33 _ _ (omega arith) (s 34 _ _ (omega arith) (s 35 _ _ (omega arith) (s 36 _ _ (omega arith) (s 37 _ _ (omega arith) (s 38 _ _ (omega arith) (s 39 _ _ (omega arith) (s 40 _ _ (omega arith) (s 41 _ _ (omega arith) (s 42 _ _ (omega arith) (s 43 _ _ (omega arith) (s 44 _ _ (omega arith) (s 45 _ _ (omega arith) (s 46 _ _ (omega arith) (s 48 _ _ (omega arith) (omega arith))))))))))))))))

-- with its spaces
pub spaced_short : (op : ℕ) → length (spaced op) ≤ 5
spaced_short op = rw length-append (omega (arith, sign_short op))

-- at most `NOT `
pub prefix_short : (op : ℕ) → length (prefix op) ≤ 4
unfolding prefix
prefix_short op = either (eqb op 16) _ _ 4 (omega arith) (either (eqb op 17) _ _ 4 (omega arith) (omega arith))

-- 9 is the highest, of two-sided operators
pub precedence_small : (op : ℕ) → precedence op ≤ 9
unfolding precedence
precedence_small op = by (ltb op 38) (ltb op 40) (ltb op 42) (eqb op 42) (eqb op 43) (eqb op 44) (ltb op 47) (eqb op 48)
  where
    by : (a b c d e f g h : Bool) → cond a 3 (cond b 8 (cond c 9 (cond d 6 (cond e 4 (cond f 5 (cond g 7 (cond h 2 1))))))) ≤ 9
    by true b c d e f g h = omega arith
    by false true c d e f g h = omega arith
    by false false true d e f g h = omega arith
    by false false false true e f g h = omega arith
    by false false false false true f g h = omega arith
    by false false false false false true g h = omega arith
    by false false false false false false true h = omega arith
    by false false false false false false false true = omega arith
    by false false false false false false false false = omega arith
