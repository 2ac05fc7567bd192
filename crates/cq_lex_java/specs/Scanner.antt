-- The rows that one table scans, before keywords are told from other names. And a text that leads to each of its states but the
-- first.
use Rattle.std.specs.Prelude.{ℕ, List, [], ◌∷◌, codes}
use Rattle.cq_base.specs.declared.token.Class.TheVariants.{Ident}
use Rattle.cq_munch.specs.Patterned.{Patterned}
use Rattle.cq_munch.specs.declared.element.Spell.TheVariants.{Token}
use Rattle.cq_lex_java.specs.Java.{others}
use Rattle.cq_lex_java.specs.Words.{identifier}

abbrev pub scanned : Patterned
scanned = (Token Ident, identifier) ∷ others

-- written by bench/tables
abbrev pub texts : List (List ℕ)
texts =
    codes "0" ∷ codes "1" ∷ codes "a" ∷ codes "!" ∷ codes "\"" ∷ codes "&" ∷ codes "'" ∷ codes "(" ∷ codes "+" ∷ codes "-" ∷ codes "." ∷ codes ":"
    ∷ codes "<" ∷ codes ">" ∷ codes "|" ∷ codes "00" ∷ codes "08" ∷ codes "0b" ∷ codes "0d" ∷ codes "0e" ∷ codes "0x" ∷ codes "0." ∷ codes "0_" ∷ codes "10"
    ∷ codes "1_" ∷ codes "\"\"" ∷ codes "\"\\" ∷ codes "'0" ∷ codes "'\\" ∷ codes ".0" ∷ codes ".." ∷ codes ">>" ∷ codes "00_" ∷ codes "08_" ∷ codes "0b0" ∷ codes "0e0"
    ∷ codes "0e+" ∷ codes "0x0" ∷ codes "0x." ∷ codes "10_" ∷ codes "'0'" ∷ codes ".0_" ∷ codes ">>>" ∷ codes "0b0_" ∷ codes "0e0_" ∷ codes "0x0p" ∷ codes "0x0." ∷ codes "0x0_"
    ∷ codes "0x.0" ∷ codes "0x.0_" ∷ []
