-- The table of Go's elements.
use Rattle.std.specs.Prelude.{ℕ, Bool, ◌||◌, ◌==◌, List, [], ◌∷◌, codes}
use Rattle.cq_base.specs.declared.token.Class.TheVariants.{Literal, Punct}
use Rattle.cq_munch.specs.Comments.{blocks, lines}
use Rattle.cq_munch.specs.Language.{Language}
use Rattle.cq_munch.specs.Patterned.{any_word, Patterned, with_reserved}
use Rattle.cq_munch.specs.Quotes.{quoted}
use Rattle.cq_munch.specs.Table.{Row, begins}
use Rattle.cq_munch.specs.Tabled.{language_of, stays, tried}
use Rattle.cq_munch.specs.declared.element.Spell.TheVariants.{Token}
use Rattle.cq_munch.specs.declared.ends.LineEnds.TheVariants.{Feed}
use Rattle.cq_munch.specs.declared.quoted.Quote.TheVariants.{Double, Single}
use Rattle.cq_lex_go.specs.Numbers.{number}
use Rattle.cq_lex_go.specs.RawStrings.{raw_string}
use Rattle.cq_lex_go.specs.Words.{keywords, name, punctuation, stood}

-- space, tab, carriage return and line feed
abbrev pub is_blank : ℕ → ℕ → Bool
is_blank mode c = (c == 32) || ((c == 9) || ((c == 13) || (c == 10)))

-- Numbers, strings, runes, raw strings, operators and punctuation. What an escape means is not checked.
abbrev pub others : Patterned
others =
    (Token Literal, number) ∷ (Token Literal, quoted Double Feed) ∷ (Token Literal, quoted Single Feed) ∷ (Token Literal, raw_string)
    ∷ (Token Punct, any_word punctuation) ∷ []

-- names, of which the keywords are words, and the others
abbrev pub rows : List Row
rows = with_reserved stood name keywords others

-- If a comment is opened, only its own row is tried.
abbrev pub tests : List ℕ → List (Bool × List Row)
tests text = (begins (codes "/*") text, blocks) ∷ (begins (codes "//") text, lines Feed) ∷ []

abbrev pub rows_at : ℕ → List ℕ → List Row
rows_at mode text = tried (tests text) rows

abbrev pub go : Language
go = language_of is_blank rows_at stays
