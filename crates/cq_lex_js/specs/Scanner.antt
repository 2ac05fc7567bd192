-- The rows that one table scans, before reserved words are separated from other names. And a text that leads to each of its states but the
-- first.
use Rattle.std.specs.Prelude.{ℕ, List, [], ◌∷◌, codes}
use Rattle.cq_base.specs.declared.token.Class.TheVariants.{Ident}
use Rattle.cq_munch.specs.Patterned.{Patterned}
use Rattle.cq_munch.specs.declared.element.Spell.TheVariants.{Token}
use Rattle.cq_lex_js.specs.JavaScript.{others}
use Rattle.cq_lex_js.specs.Names.{name}

abbrev pub scanned : Patterned
scanned = (Token Ident, name) ∷ others

-- written by bench/tables
abbrev pub texts : List (List ℕ)
texts =
    codes "a" ∷ codes "!" ∷ codes "#" ∷ codes "%" ∷ codes "&" ∷ codes "(" ∷ codes "*" ∷ codes "+" ∷ codes "-" ∷ codes "." ∷ codes "<" ∷ codes "="
    ∷ codes ">" ∷ codes "?" ∷ codes "\\" ∷ codes "|" ∷ codes " " ∷ codes "#!" ∷ codes ".." ∷ codes ">>" ∷ codes "\\u" ∷ codes "\\u0" ∷ codes "\\u{" ∷ codes "\\u00"
    ∷ codes "\\u{0" ∷ codes "\\u000" ∷ []
