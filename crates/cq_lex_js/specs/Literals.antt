-- Strings, regular expressions and templates (ECMA-262 12.9.4, 12.9.5, 12.9.6). What an escape means is not checked. A line or
-- paragraph separator stands here as 128.
use Rattle.std.specs.Prelude.{ℕ, List, [], ◌∷◌}
use Rattle.cq_base.specs.declared.token.Class.TheVariants.{Literal}
use Rattle.cq_munch.specs.Pattern.{Range, Pattern, among, except, ◌▸◌, ◌∣◌, many, optional, only, one_of}
use Rattle.cq_munch.specs.Patterned.{Patterned}
use Rattle.cq_munch.specs.declared.element.Spell.TheVariants.{Token}
use Rattle.cq_lex_js.specs.Numbers.{number}

-- a line feed and a carriage return
abbrev pub feeds : List Range
feeds = (10, 10) ∷ (13, 13) ∷ []

abbrev pub terminators : List Range
terminators = (10, 10) ∷ (13, 13) ∷ (128, 128) ∷ []

abbrev pub backslash : Pattern
backslash = only 92

-- a backslash and the next character; a carriage return and a line feed are one line continuation
abbrev pub escaped : Pattern
escaped = backslash ▸ (except ((13, 13) ∷ []) ∣ only 13 ▸ optional (only 10))

-- in one kind of quotes
abbrev pub in_quotes : ℕ → Pattern
in_quotes quote = only quote ▸ many (except ((quote, quote) ∷ (92, 92) ∷ feeds) ∣ escaped) ▸ only quote

abbrev pub string : Pattern
string = in_quotes 34 ∣ in_quotes 39

-- RegularExpressionBackslashSequence
abbrev pub sequence : Pattern
sequence = backslash ▸ except terminators

-- in square brackets, where a slash ends nothing
abbrev pub class : Pattern
class = only 91 ▸ many (except ((93, 93) ∷ (92, 92) ∷ terminators) ∣ sequence) ▸ only 93

-- anything but a slash, a backslash and an opening bracket by itself
abbrev pub piece : Pattern
piece = except ((47, 47) ∷ (92, 92) ∷ (91, 91) ∷ terminators) ∣ sequence ∣ class

-- letters, digits, a dollar sign and an underscore
abbrev pub flag : Pattern
flag = among ((65, 90) ∷ (97, 122) ∷ (48, 57) ∷ (36, 36) ∷ (95, 95) ∷ [])

-- a regular expression; two slashes, or a slash and a star, begin a comment, and this is not tried there
abbrev pub regex : Pattern
regex = only 47 ▸ piece ▸ many piece ▸ only 47 ▸ many flag

abbrev pub dollar : Pattern
dollar = only 36

-- a character of a template, with the dollar signs before it; an opening brace has none
abbrev pub part : Pattern
part = many dollar ▸ (except ((96, 96) ∷ (92, 92) ∷ (36, 36) ∷ (123, 123) ∷ []) ∣ backslash ▸ except []) ∣ only 123

-- From a backquote, or from the brace that ends a substitution, up to a backquote, or to what begins the next substitution.
abbrev pub template : Pattern
template = one_of 96 125 ▸ many part ▸ many dollar ▸ (only 96 ∣ dollar ▸ only 123)

unfoldable pub literal : Pattern
literal = number ∣ string ∣ regex ∣ template

abbrev pub literals : Patterned
literals = (Token Literal, literal) ∷ []
