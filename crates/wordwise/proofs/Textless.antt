-- Operators whose outcome is no text: what is settled at one top is settled at every. Assumes nothing.
use mathlib.Core.Path.{◌≡◌, refl, sym, ap₂}
use mathlib.Core.Bool.{Bool, true, false, cond}
use mathlib.Core.List.{List}
use Prim.Native.Nat.{ℕ}
use native.Mathlib.Omega.{arith}
use native.Mathlib.Nat.{add-zero}
use lib.IntN.{ℤ, pos}
use lib.Dec.{eqb}
use Rattle.std.specs.Prelude.{Some}
use Rattle.cells.specs.Cell.{word_of}
use Rattle.cells.specs.declared.ValueRef.TheVariants.{Null, Int, Binary}
use Rattle.values.specs.Value.{Value, null, int, str, binary, from_bool}
use Rattle.integers.specs.Outcome.{Outcome, value, gave, placed}
use Rattle.integers.specs.Integer.{fitted, is_int32, is_zero, is_amount, on_ints, negated, inverted}
use Rattle.operators.specs.Operator.{on_int, unary_of}
use Rattle.operators.specs.declared.Rules.{Rules}
use Rattle.wordwise.specs.Settled.{Settled}
use Rattle.wordwise.proofs.Settling.{settled}

-- ---- operators that give no text

-- an outcome that is no text
pub record Textless (o : Outcome) : Type 0 where
  pub no : (b : List ℕ) → o ≡ value (str b) → ⊥

less_cond : (t : Bool) {o p : Outcome} → Textless o → Textless p → Textless (cond t o p)
less_cond true h k = h
less_cond false h k = k

less_int : (z : ℤ) → Textless (value (int z))
less_int z = record { no = λ b e. let q : ◌≡◌ {A = ℕ} 0 1 = cc in omega arith }

less_null : Textless (value null)
less_null = record { no = λ b e. let q : ◌≡◌ {A = ℕ} 0 1 = cc in omega arith }

less_refused : (n : ℕ) → Textless (Outcome.refused n)
less_refused n = record { no = λ b e. let q : ◌≡◌ {A = ℕ} 0 1 = cc in omega arith }

less_fitted : (z : ℤ) → Textless (fitted z)
unfolding fitted
less_fitted z = less_cond (is_int32 z) (less_int z) (less_refused 5)

-- no operator on two Ints gives a text
pub less_ints : (op : ℕ) (x y : ℤ) → Textless (on_ints op x y)
unfolding on_ints
less_ints op x y =
    less_cond (eqb op 38) (less_fitted _)
    (less_cond (eqb op 39) (less_fitted _)
    (less_cond (eqb op 40) (less_fitted _)
    (less_cond (eqb op 41) (less_cond (is_zero y) less_null (less_fitted _))
    (less_cond (eqb op 42) (less_int _)
    (less_cond (eqb op 43) (less_int _)
    (less_cond (eqb op 44) (less_int _)
    (less_cond (eqb op 45) (less_cond (is_amount y) (less_int _) (less_refused 6))
    (less_cond (eqb op 46) (less_cond (is_amount y) (less_int _) (less_refused 6)) less_null))))))))

less_flag : (b : Bool) → Textless (value (from_bool b))
unfolding from_bool
less_flag true = less_int (pos 1)
less_flag false = less_int (pos 0)

less_on_int : (f : ℤ → Outcome) → ((z : ℤ) → Textless (f z)) → (v : Value) → Textless (on_int f v)
less_on_int f g null = less_null
less_on_int f g (int x) = g x
less_on_int f g (str a) = less_null
less_on_int f g binary = less_null

-- no unary operator gives a text
pub less_unary : (R : Rules) (op : ℕ) (v : Value) → Textless (unary_of R op v)
unfolding unary_of
less_unary R op v = less_cond (eqb op 16) (less_on_int negated (λ z. less_fitted _) v) (less_cond (eqb op 17) (less_on_int inverted (λ z. less_int _) v) (less_flag _))

-- no unary operator looks at the rules
pub any_rules : (R S : Rules) (op : ℕ) (v : Value) → unary_of R op v ≡ unary_of S op v
unfolding unary_of
any_rules R S op v = refl

-- ---- settled at one top, settled at every

-- an outcome without a text is settled by the word that it gives at top 0
pub settled_anywhere : (o : Outcome) → Textless o → (w u : ℕ) → gave w u ≡ placed 0 o → Settled (Some w) o
unfolding placed
settled_anywhere (value null) h w u e = let q : w ≡ word_of Null = cc in settled w _ (λ top. ap₂ gave q (sym (add-zero top)))
settled_anywhere (value (int z)) h w u e = let q : w ≡ word_of (Int z) = cc in settled w _ (λ top. ap₂ gave q (sym (add-zero top)))
settled_anywhere (value (str b)) h w u e = absurd (h.no b refl)
settled_anywhere (value binary) h w u e = let q : w ≡ word_of Binary = cc in settled w _ (λ top. ap₂ gave q (sym (add-zero top)))
settled_anywhere (Outcome.refused n) h w u e = absurd (let z : ◌≡◌ {A = ℕ} 0 1 = cc in omega arith)
