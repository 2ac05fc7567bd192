-- The table of Java's elements.
use Rattle.std.specs.Prelude.{ℕ, Bool, ◌||◌, ◌==◌, List, [], ◌∷◌, codes}
use Rattle.cq_base.specs.declared.token.Class.TheVariants.{Literal, Punct}
use Rattle.cq_munch.specs.Comments.{blocks, lines}
use Rattle.cq_munch.specs.Language.{Language}
use Rattle.cq_munch.specs.Patterned.{any_word, Patterned, rows_of, with_reserved}
use Rattle.cq_munch.specs.Quotes.{quoted}
use Rattle.cq_munch.specs.Table.{Row, begins}
use Rattle.cq_munch.specs.Tabled.{language_of, sign, stays, tried}
use Rattle.cq_munch.specs.declared.element.Spell.TheVariants.{Blank, Token}
use Rattle.cq_munch.specs.declared.ends.LineEnds.TheVariants.{ReturnOrFeed}
use Rattle.cq_munch.specs.declared.quoted.Quote.TheVariants.{Double, Single}
use Rattle.cq_lex_java.specs.Blocks.{opens, text_blocks}
use Rattle.cq_lex_java.specs.Numbers.{number}
use Rattle.cq_lex_java.specs.Openers.{is_end}
use Rattle.cq_lex_java.specs.Operators.{operators}
use Rattle.cq_lex_java.specs.Words.{identifier, keywords, stood}

-- JLS 3.6: space, tab, form feed, carriage return and line feed
abbrev pub is_blank : ℕ → ℕ → Bool
is_blank mode c = (c == 32) || ((c == 9) || ((c == 12) || ((c == 13) || (c == 10))))

-- Integers and floating-point numbers (JLS 3.10.1, 3.10.2), characters and strings (JLS 3.10.4, 3.10.5), separators and operators (JLS 3.11, 3.12). What an escape means is not checked.
abbrev pub others : Patterned
others =
    (Token Literal, number) ∷ (Token Literal, quoted Single ReturnOrFeed) ∷ (Token Literal, quoted Double ReturnOrFeed)
    ∷ (Token Punct, any_word operators) ∷ []

-- Identifiers (JLS 3.8), of which the keywords (JLS 3.9) and the literals true, false and null (JLS 3.10.3, 3.10.8) are
-- words, and the others.
abbrev pub rows : List Row
rows = with_reserved stood identifier keywords others

-- If a comment (JLS 3.7) or a text block (JLS 3.10.6) is opened, only its own row is tried. The character U+001A is a blank if nothing
-- follows (JLS 3.5).
abbrev pub tests : List ℕ → List (Bool × List Row)
tests text =
    (begins (codes "/*") text, blocks)
    ∷ (begins (codes "//") text, lines ReturnOrFeed)
    ∷ (opens text, rows_of text_blocks)
    ∷ (is_end text, sign Blank 26 ∷ []) ∷ []

abbrev pub rows_at : ℕ → List ℕ → List Row
rows_at mode text = tried (tests text) rows

abbrev pub java : Language
java = language_of is_blank rows_at stays
