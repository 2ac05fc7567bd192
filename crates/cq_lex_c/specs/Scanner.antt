-- The rows that one table scans: all without quotes, before keywords are told from identifiers. And a text that leads to each
-- of its states but the first.
use Rattle.std.specs.Prelude.{ℕ, List, [], ◌∷◌, codes}
use Rattle.cq_base.specs.declared.token.Class.TheVariants.{Ident}
use Rattle.cq_munch.specs.Patterned.{Patterned}
use Rattle.cq_munch.specs.declared.element.Spell.TheVariants.{Token}
use Rattle.cq_lex_c.specs.C.{no_names}
use Rattle.cq_lex_c.specs.Identifiers.{identifier}

abbrev pub scanned : Patterned
scanned = (Token Ident, identifier) ∷ no_names

-- written by bench/tables
abbrev pub texts : List (List ℕ)
texts =
    codes "0" ∷ codes "a" ∷ codes "!" ∷ codes "\"" ∷ codes "#" ∷ codes "%" ∷ codes "&" ∷ codes "+" ∷ codes "-" ∷ codes "." ∷ codes ":" ∷ codes "<"
    ∷ codes ">" ∷ codes "\\" ∷ codes "|" ∷ codes "0e" ∷ codes "0\\" ∷ codes "a\\" ∷ codes "%:" ∷ codes ".." ∷ codes "\\u" ∷ codes "\\U" ∷ codes "0\\u" ∷ codes "0\\U"
    ∷ codes "%:%" ∷ codes "\\u0" ∷ codes "\\U0" ∷ codes "0\\u0" ∷ codes "0\\U0" ∷ codes "\\u00" ∷ codes "\\U00" ∷ codes "0\\u00" ∷ codes "0\\U00" ∷ codes "\\u000" ∷ codes "\\U000" ∷ codes "0\\u000"
    ∷ codes "0\\U000" ∷ []
