-- The rows that one table scans, before keywords are told from other names. And a text that leads to each of its states but the
-- first.
use Rattle.std.specs.Prelude.{ℕ, List, [], ◌∷◌, codes}
use Rattle.cq_base.specs.declared.token.Class.TheVariants.{Ident}
use Rattle.cq_munch.specs.Patterned.{Patterned}
use Rattle.cq_munch.specs.declared.element.Spell.TheVariants.{Token}
use Rattle.cq_lex_go.specs.Go.{others}
use Rattle.cq_lex_go.specs.Words.{name}

abbrev pub scanned : Patterned
scanned = (Token Ident, name) ∷ others

-- written by bench/tables
abbrev pub texts : List (List ℕ)
texts =
    codes "0" ∷ codes "1" ∷ codes "a" ∷ codes "!" ∷ codes "\"" ∷ codes "&" ∷ codes "'" ∷ codes "(" ∷ codes "+" ∷ codes "-" ∷ codes "." ∷ codes "<"
    ∷ codes ">" ∷ codes "`" ∷ codes "|" ∷ codes "00" ∷ codes "08" ∷ codes "0b" ∷ codes "0e" ∷ codes "0i" ∷ codes "0o" ∷ codes "0x" ∷ codes "0." ∷ codes "0_"
    ∷ codes "10" ∷ codes "1_" ∷ codes "\"\"" ∷ codes "\"\\" ∷ codes "'0" ∷ codes "'\\" ∷ codes ".0" ∷ codes ".." ∷ codes "``" ∷ codes "08_" ∷ codes "0b0" ∷ codes "0b_"
    ∷ codes "0e0" ∷ codes "0e+" ∷ codes "0o0" ∷ codes "0o_" ∷ codes "0x0" ∷ codes "0x." ∷ codes "0x_" ∷ codes "'0'" ∷ codes ".0_" ∷ codes "0x0." ∷ codes "0x.0" ∷ []
