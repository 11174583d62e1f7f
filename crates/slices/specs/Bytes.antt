-- Texts: their order and their equality (document 01, "Values and operators"). Assumes nothing: these are definitions.
use Rattle.std.specs.Prelude.{ℕ, Bool, true, false, List, [], ◌∷◌, ◌==◌, nat_lt}
use Rattle.std.specs.declared.cmp.Ordering.{Ordering}
use Rattle.std.specs.declared.cmp.Ordering.TheVariants.{Less, Equal, Greater}

-- the order that two tests tell, "the first is less" and "the second is less", and what decides where neither holds
abbrev pub by_tests : Bool → Bool → Ordering → Ordering
by_tests true b later = Less
by_tests false true later = Greater
by_tests false false later = later

-- texts byte by byte, a prefix first
unfoldable pub by_bytes : List ℕ → List ℕ → Ordering
by_bytes [] [] = Equal
by_bytes [] (b ∷ t) = Less
by_bytes (a ∷ s) [] = Greater
by_bytes (a ∷ s) (b ∷ t) = by_tests (nat_lt a b) (nat_lt b a) (by_bytes s t)

-- both hold
abbrev pub both : Bool → Bool → Bool
both true b = b
both false b = false

-- the same bytes
unfoldable pub same_bytes : List ℕ → List ℕ → Bool
same_bytes [] [] = true
same_bytes [] (b ∷ t) = false
same_bytes (a ∷ s) [] = false
same_bytes (a ∷ s) (b ∷ t) = both (a == b) (same_bytes s t)

-- the test that an order is Less
abbrev pub is_less : Ordering → Bool
is_less Less = true
is_less Equal = false
is_less Greater = false

-- that it is Greater
abbrev pub is_greater : Ordering → Bool
is_greater Less = false
is_greater Equal = false
is_greater Greater = true

-- that it is Equal
abbrev pub is_equal : Ordering → Bool
is_equal Less = false
is_equal Equal = true
is_equal Greater = false
