-- Elements of JSX: tags, attributes and texts (JSX specification, 2022). What an entity stands for is not checked.
use Rattle.std.specs.Prelude.{[], ◌∷◌, codes}
use Rattle.cq_base.specs.declared.token.Class.TheVariants.{Ident, Literal, Punct}
use Rattle.cq_munch.specs.Pattern.{Pattern, among, except, only, one_of, optional, many, ◌▸◌, ◌∣◌}
use Rattle.cq_munch.specs.Patterned.{any_word, Patterned}
use Rattle.cq_munch.specs.declared.element.Spell.TheVariants.{Blank, Token}
use Rattle.cq_lex_js.specs.Names.{letter, continuing}

-- tab, line feed, vertical tab, form feed, carriage return and space
abbrev pub blank : Pattern
blank = among ((9, 13) ∷ (32, 32) ∷ [])

-- JSXIdentifier: a name, which may have hyphens
abbrev pub tag_name : Pattern
tag_name = letter ▸ many (continuing ∣ only 45)

-- JSXString: there are no escapes, and lines may end
abbrev pub tag_string : Pattern
tag_string = only 34 ▸ many (except ((34, 34) ∷ [])) ▸ only 34 ∣ only 39 ▸ many (except ((39, 39) ∷ [])) ▸ only 39

-- JSXClosingElement, JSXClosingFragment: a name after a slash, or none; points and colons join its parts
unfoldable pub closing_tag : Pattern
closing_tag =
    only 60 ▸ many blank ▸ only 47 ▸ many blank
    ▸ optional (tag_name ▸ many blank ▸ many (one_of 46 58 ▸ many blank ▸ tag_name ▸ many blank)) ▸ only 62

-- JSXTextCharacter: none of the two brackets and the two braces
abbrev pub visible : Pattern
visible = except ((9, 13) ∷ (32, 32) ∷ (60, 60) ∷ (62, 62) ∷ (123, 123) ∷ (125, 125) ∷ [])

-- JSXText without the blanks around it
unfoldable pub text : Pattern
text = visible ▸ many (many blank ▸ visible)

-- among an element's children
abbrev pub children : Patterned
children = (Blank, blank) ∷ (Token Literal, text) ∷ (Token Punct, any_word (codes "<" ∷ codes "{" ∷ []) ∣ closing_tag) ∷ []

unfoldable pub tag_words : Pattern
tag_words = any_word (codes "." ∷ codes ":" ∷ codes "=" ∷ codes "/" ∷ codes ">" ∷ codes "<" ∷ codes "{" ∷ [])

-- in a tag
abbrev pub tag : Patterned
tag = (Blank, blank) ∷ (Token Ident, tag_name) ∷ (Token Literal, tag_string) ∷ (Token Punct, tag_words) ∷ []
