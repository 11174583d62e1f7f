-- Refusal 4 of a bound condition: a column's number that is no column's (document 01, "Order"). Assumes nothing: these are definitions.
use Rattle.std.specs.Prelude.{ℕ, zero, suc, ◌+◌, Bool, cond, List, length, get_or, ltb, leb, eqb}
use Rattle.refusals.specs.Stop.{Stop, never, stop_if, or_else}
use Rattle.slices.specs.Bytes.{both}
use Rattle.nodes.specs.Kind.{body_of}

-- a column node whose number is no column's
abbrev pub is_missing : ℕ → List ℕ → ℕ → Bool
is_missing width b at = both (eqb (get_or b at 0) 4) (leb width (get_or b (at + 1) 0))

-- 4 over the columns, in byte order, from an offset on, where so many nodes are left at most
unfoldable pub numbers_stop : ℕ → List ℕ → ℕ → ℕ → Stop
numbers_stop width b zero at = never
numbers_stop width b (suc f) at =
    cond (ltb at (length b)) (or_else (stop_if (is_missing width b at) 4 at) (numbers_stop width b f (at + 1 + body_of (get_or b at 0)))) never
