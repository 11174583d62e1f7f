-- The operators over values: UnOp::eval and BinOp::eval of expr.rs, with document 01's refusals. Assumes nothing: these are definitions.
use Rattle.std.specs.Prelude.{ℕ, ◌+◌, ◌≤◌, ◌≡◌, Bool, false, not, cond, List, ◌++◌, length, ltb, leb, eqb, ℤ}
use Rattle.slices.specs.Splice.{splice}
use Rattle.slices.specs.Bytes.{both, is_equal, is_less, is_greater}
use Rattle.std.specs.declared.cmp.Ordering.{Ordering}
use Rattle.values.specs.Value.{Value, null, int, str, binary, to_bool, from_bool}
use Rattle.values.specs.Order.{order}
use Rattle.integers.specs.Outcome.{Outcome, value, reply_of, placed}
use Rattle.integers.specs.Integer.{is_zero, on_ints, negated, inverted}
use Rattle.operators.specs.declared.Rules.{Rules}
use Rattle.std.specs.Prelude.{Result}
use Rattle.integers.specs.declared.Fault.{Fault}

-- 32 to 37, in this order: = != < <= > >=
unfoldable pub holds : ℕ → Ordering → Bool
holds op o =
    cond (eqb op 32) (is_equal o)
    (cond (eqb op 33) (not (is_equal o))
    (cond (eqb op 34) (is_less o) (cond (eqb op 35) (not (is_greater o)) (cond (eqb op 36) (is_greater o) (not (is_less o))))))

-- comparisons give Int 1 or 0 for any kinds
unfoldable pub compared : Rules → ℕ → Value → Value → Outcome
compared R op v w = value (from_bool (holds op (order v w)))

-- the rules of the base: a joined text has at most 1,024 bytes
abbrev pub base : Rules
base = record { limit = 1024 }

-- one text after the other, or 7 over the limit
unfoldable pub joined : ℕ → List ℕ → List ℕ → Outcome
joined limit a b = cond (leb (length a + length b) limit) (value (str (a ++ b))) (Outcome.refused 7)

-- two Ints; `+` joins two texts; other kinds give Null
unfoldable pub on_kinds : Rules → ℕ → Value → Value → Outcome
on_kinds R op null w = value null
on_kinds R op (int x) null = value null
on_kinds R op (int x) (int y) = on_ints op x y
on_kinds R op (int x) (str b) = value null
on_kinds R op (int x) binary = value null
on_kinds R op (str a) null = value null
on_kinds R op (str a) (int y) = value null
on_kinds R op (str a) (str b) = cond (eqb op 38) (joined R.limit a b) (value null)
on_kinds R op (str a) binary = value null
on_kinds R op binary w = value null

-- Int 0, by which nothing is divided
abbrev pub is_int_zero : Value → Bool
is_int_zero null = false
is_int_zero (int y) = is_zero y
is_int_zero (str b) = false
is_int_zero binary = false

-- BinOp::eval: 32 to 37 compare, 38 to 46 compute; anything `/` Int 0 is Null before kinds are looked at
unfoldable pub binary_of : Rules → ℕ → Value → Value → Outcome
binary_of R op v w = cond (ltb op 38) (compared R op v w) (cond (both (eqb op 41) (is_int_zero w)) (value null) (on_kinds R op v w))

-- `-` and `~` take an Int; other kinds give Null
abbrev pub on_int : (ℤ → Outcome) → Value → Outcome
on_int f null = value null
on_int f (int x) = f x
on_int f (str a) = value null
on_int f binary = value null

-- UnOp::eval: 16 `-`, 17 `~`, 18 NOT, which gives Int 1 or 0 for any kind
unfoldable pub unary_of : Rules → ℕ → Value → Outcome
unary_of R op v =
    cond (eqb op 16) (on_int negated v) (cond (eqb op 17) (on_int inverted v) (value (from_bool (not (to_bool v)))))

-- what an operator leaves in the text: a joined text stands at the old top, and nothing else changes
abbrev pub text_after : List ℕ → ℕ → Outcome → List ℕ
text_after text top (value null) = text
text_after text top (value (int number)) = text
text_after text top (value (str bytes)) = splice text top bytes
text_after text top (value binary) = text
text_after text top (Outcome.refused number) = text

-- the whole of what an operator gives: its answer, and the text after it
pub record Applied (before after : List ℕ) (top : ℕ) (answer : Result (ℕ × ℕ) Fault) (outcome : Outcome) : Type 0 where
  pub reply : reply_of answer ≡ placed top outcome
  pub text : after ≡ text_after before top outcome

-- there is room at the top for one joined text, whose start and length a cell can hold
pub record Room (R : Rules) (top size : ℕ) : Type 0 where
  pub above : top + R.limit ≤ size
  pub short : R.limit ≤ 1024
  pub small : size ≤ 65536
