-- How an operator is printed, and how tightly it binds: BinOp of expr.rs (document 01, "Printing"). Assumes nothing: these are definitions.
use Rattle.std.specs.Prelude.{ℕ, cond, List, [], ◌∷◌, ◌++◌, ltb, eqb}

-- BinOp::precedence, and Ast::And and Ast::Or: OR 1, AND 2, comparisons 3, `|` 4, `^` 5, `&` 6, shifts 7, `+ -` 8, `* /` 9
unfoldable pub precedence : ℕ → ℕ
precedence op =
    cond (ltb op 38) 3
    (cond (ltb op 40) 8
    (cond (ltb op 42) 9 (cond (eqb op 42) 6 (cond (eqb op 43) 4 (cond (eqb op 44) 5 (cond (ltb op 47) 7 (cond (eqb op 48) 2 1)))))))

-- the sign of a two-sided operator, in the order of the kinds: = != < <= > >= + - * / & | ^ << >>, then AND and OR
unfoldable pub sign : ℕ → List ℕ
sign op =
    cond (eqb op 32) (61 ∷ [])
    (cond (eqb op 33) (33 ∷ 61 ∷ [])
    (cond (eqb op 34) (60 ∷ [])
    (cond (eqb op 35) (60 ∷ 61 ∷ [])
    (cond (eqb op 36) (62 ∷ [])
    (cond (eqb op 37) (62 ∷ 61 ∷ [])
    (cond (eqb op 38) (43 ∷ [])
    (cond (eqb op 39) (45 ∷ [])
    (cond (eqb op 40) (42 ∷ [])
    (cond (eqb op 41) (47 ∷ [])
    (cond (eqb op 42) (38 ∷ [])
    (cond (eqb op 43) (124 ∷ [])
    (cond (eqb op 44) (94 ∷ [])
    (cond (eqb op 45) (60 ∷ 60 ∷ [])
    (cond (eqb op 46) (62 ∷ 62 ∷ []) (cond (eqb op 48) (65 ∷ 78 ∷ 68 ∷ []) (79 ∷ 82 ∷ []))))))))))))))))

-- one space (32) each side
abbrev pub spaced : ℕ → List ℕ
spaced op = 32 ∷ (sign op ++ (32 ∷ []))

-- unary `-`, `~`, `NOT `
unfoldable pub prefix : ℕ → List ℕ
prefix op = cond (eqb op 16) (45 ∷ []) (cond (eqb op 17) (126 ∷ []) (78 ∷ 79 ∷ 84 ∷ 32 ∷ []))

-- every sign between spaces, in the order of the kinds: ` = != < <= > >= + - * / & | ^ << >> AND OR `
unfoldable pub signs : List ℕ
signs = 32 ∷ 61 ∷ 32 ∷ 33 ∷ 61 ∷ 32 ∷ 60 ∷ 32 ∷ 60 ∷ 61 ∷ 32 ∷ 62 ∷ 32 ∷ 62 ∷ 61 ∷ 32 ∷ 43 ∷ 32 ∷ 45 ∷ 32 ∷ 42 ∷ 32 ∷ 47 ∷ 32 ∷ 38 ∷ 32 ∷ 124 ∷ 32 ∷ 94 ∷ 32 ∷ 60 ∷ 60 ∷ 32 ∷ 62 ∷ 62 ∷ 32 ∷ 65 ∷ 78 ∷ 68 ∷ 32 ∷ 79 ∷ 82 ∷ 32 ∷ []
