-- The row of strings without a prefix, which a table of its own scans, and a text that leads to each of its states but the first.
use Rattle.std.specs.Prelude.{ℕ, List, [], ◌∷◌, codes}
use Rattle.cq_base.specs.declared.token.Class.TheVariants.{Literal}
use Rattle.cq_munch.specs.Patterned.{Patterned}
use Rattle.cq_munch.specs.declared.element.Spell.TheVariants.{Token}
use Rattle.cq_lex_c.specs.Texts.{string}

abbrev pub scanned : Patterned
scanned = (Token Literal, string) ∷ []

-- written by bench/tables
abbrev pub texts : List (List ℕ)
texts =
    codes "\"" ∷ codes "\"\"" ∷ codes "\"\\" ∷ []
