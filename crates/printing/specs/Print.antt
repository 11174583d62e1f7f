-- The call `print`: a named condition by precedence (document 01, "Printing"). Assumes nothing: these are definitions.
use Rattle.std.specs.Prelude.{ℕ, zero, suc, ◌+◌, Bool, cond, List, [], ◌∷◌, length, get_or, ltb, eqb}
use Rattle.refusals.specs.Stop.{Stop, never, stop_if, or_else, first_of}
use Rattle.slices.specs.Splice.{piece}
use Rattle.slices.specs.Bytes.{both}
use Rattle.writing.specs.Writing.{WrittenIs}
use Rattle.checks.specs.Check.{room_stop, short_stop}
use Rattle.conditions.specs.Ast.{map_tree}
use Rattle.conditions.specs.Table.{leaf_of}
use Rattle.nodes.specs.Kind.{body_of, two, four}
use Rattle.nodes.specs.declared.Allowed.TheVariants.{Named}
use Rattle.forms.specs.Form.{Parsed, tree, refusal, parsed, form_stop}
use Rattle.quoting.specs.Quote.{has_high}
use Rattle.spelling.specs.Spell.{printed}
use Rattle.std.specs.Prelude.{Result}
use Rattle.refusals.specs.declared.Refusal.{Refusal}

-- a text literal with a byte of 128 or more, at an offset of the condition's bytes
abbrev pub is_unprintable : List ℕ → List ℕ → ℕ → Bool
is_unprintable stored b at = both (eqb (get_or b at 0) 2) (has_high (piece (four b (at + 1)) (two b (at + 5)) stored))

-- 15 over the literals in byte order, from an offset on, where so many nodes are left at most
unfoldable pub texts_stop : List ℕ → List ℕ → ℕ → ℕ → Stop
texts_stop stored b zero at = never
texts_stop stored b (suc f) at =
    cond (ltb at (length b)) (or_else (stop_if (is_unprintable stored b at) 15 at) (texts_stop stored b f (at + 1 + body_of (get_or b at 0)))) never

-- the whole condition, of which nothing is asked
abbrev pub printed_all : List ℕ → Parsed → List ℕ
printed_all stored (tree t) = printed 0 (map_tree (leaf_of stored) t)
printed_all stored (refusal number place) = []

-- all that stops `print`, in document 01's order: 10, the form, 15, then 9 with the bytes that the whole text takes
abbrev pub print_stop : List ℕ → List ℕ → ℕ → ℕ → ℕ → Stop
print_stop b stored size used output =
    first_of
    (room_stop 0 size used
    ∷ form_stop (parsed Named used b)
    ∷ texts_stop stored b 64 0
    ∷ short_stop output (length (printed_all stored (parsed Named used b)))
    ∷ [])

-- what `print` answers and writes
abbrev pub PrintIs : List ℕ → List ℕ → ℕ → ℕ → List ℕ → List ℕ → Result ℕ Refusal → Type 0
PrintIs b stored size used before after answer =
    WrittenIs before after answer (print_stop b stored size used (length before)) (length (printed_all stored (parsed Named used b)))
    (printed_all stored (parsed Named used b))
