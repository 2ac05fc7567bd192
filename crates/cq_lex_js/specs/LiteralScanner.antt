-- The row of literals, which a table of its own scans, and a text that leads to each of its states but the first.
use Rattle.std.specs.Prelude.{ℕ, List, [], ◌∷◌, codes}
use Rattle.cq_munch.specs.Patterned.{Patterned}
use Rattle.cq_lex_js.specs.Literals.{literals}

abbrev pub scanned : Patterned
scanned = literals

-- written by bench/tables
abbrev pub texts : List (List ℕ)
texts =
    codes "0" ∷ codes "1" ∷ codes "\"" ∷ codes "'" ∷ codes "." ∷ codes "/" ∷ codes "`" ∷ codes "00" ∷ codes "08" ∷ codes "0b" ∷ codes "0e" ∷ codes "0n"
    ∷ codes "0o" ∷ codes "0x" ∷ codes "0." ∷ codes "10" ∷ codes "1_" ∷ codes "\"\\" ∷ codes "'\\" ∷ codes ".0" ∷ codes "/0" ∷ codes "/[" ∷ codes "/\\" ∷ codes "`$"
    ∷ codes "`\\" ∷ codes "0b0" ∷ codes "0e0" ∷ codes "0e+" ∷ codes "0o0" ∷ codes "0x0" ∷ (34 ∷ 92 ∷ 13 ∷ []) ∷ (39 ∷ 92 ∷ 13 ∷ []) ∷ codes "/0/" ∷ codes "/0[" ∷ codes "/0\\" ∷ codes "/[\\"
    ∷ codes "/0[\\" ∷ []
