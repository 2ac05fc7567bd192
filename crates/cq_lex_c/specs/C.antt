-- The table of C's elements, and its modes. Mode 0 is at the beginning of a line, mode 1 after a hash that begins one,
-- mode 2 after the word include that follows it, and mode 3 anywhere else.
use Rattle.std.specs.Prelude.{ℕ, Bool, not, ◌&&◌, ◌||◌, ◌==◌, if◌then◌else◌, List, [], ◌∷◌, codes}
use Rattle.std.specs.Str.{bytes_eq}
use Rattle.cq_base.specs.declared.token.Class.TheVariants.{Word, Literal, Punct}
use Rattle.cq_munch.specs.Comments.{blocks, lines}
use Rattle.cq_munch.specs.Language.{Language}
use Rattle.cq_munch.specs.Pattern.{Pattern, except, ◌∣◌}
use Rattle.cq_munch.specs.Patterned.{any_word, Patterned, with_reserved}
use Rattle.cq_munch.specs.Table.{Row, begins}
use Rattle.cq_munch.specs.Tabled.{language_of, tried}
use Rattle.cq_munch.specs.declared.element.Spell.{Spell}
use Rattle.cq_munch.specs.declared.element.Spell.TheVariants.{Blank, Comment, Token}
use Rattle.cq_munch.specs.declared.ends.LineEnds.TheVariants.{Feed}
use Rattle.cq_lex_c.specs.Characters.{stood}
use Rattle.cq_lex_c.specs.Headers.{IsHeader, has_header}
use Rattle.cq_lex_c.specs.Identifiers.{identifier, keywords}
use Rattle.cq_lex_c.specs.Numbers.{number}
use Rattle.cq_lex_c.specs.Punctuators.{punctuators}
use Rattle.cq_lex_c.specs.Texts.{IsText, IsPrefixed}

-- space, tab, vertical tab, form feed, carriage return and line feed
abbrev pub is_blank : ℕ → ℕ → Bool
is_blank mode c = (c == 32) || ((c == 9) || ((c == 11) || ((c == 12) || ((c == 13) || (c == 10)))))

-- a character that begins no text in quotes, no prefix of one, no comment and no header name
abbrev pub is_unquoted : ℕ → Bool
is_unquoted c = not ((c == 34) || ((c == 39) || ((c == 47) || ((c == 60) || ((c == 76) || ((c == 85) || (c == 117)))))))

abbrev pub texts : Row
texts = record { spell = Token Literal; set = IsText }

abbrev pub prefixed : Row
prefixed = record { spell = Token Literal; set = IsPrefixed }

-- any other one character: no blank, and none that begins an identifier or a number
unfoldable pub other : Pattern
other = except ((32, 32) ∷ (9, 13) ∷ (48, 57) ∷ (65, 90) ∷ (97, 122) ∷ (95, 95) ∷ (36, 36) ∷ (128, 128) ∷ [])

-- numbers and punctuators
abbrev pub no_names : Patterned
no_names = (Token Literal, number) ∷ (Token Punct, any_word punctuators ∣ other) ∷ []

-- identifiers, of which the keywords are words, and all other rows without quotes
abbrev pub unquoted : List Row
unquoted = with_reserved stood identifier keywords no_names

abbrev pub rows : List Row
rows = texts ∷ prefixed ∷ unquoted

abbrev pub headers : Row
headers = record { spell = Token Word; set = IsHeader }

-- there is a header name here, which only mode 2 allows
abbrev pub opens_header : ℕ → List ℕ → Bool
opens_header mode text = (mode == 2) && has_header text

-- At a header name, or if a comment is opened, only its own row is tried.
abbrev pub tests : ℕ → List ℕ → List (Bool × List Row)
tests mode text = (opens_header mode text, headers ∷ []) ∷ (begins (codes "/*") text, blocks) ∷ (begins (codes "//") text, lines Feed) ∷ []

abbrev pub rows_at : ℕ → List ℕ → List Row
rows_at mode text = tried (tests mode text) rows

-- the hash, spelled in one of two ways
abbrev pub is_hash : List ℕ → Bool
is_hash s = bytes_eq s (codes "#") || bytes_eq s (codes "%:")

-- the mode after an element
abbrev pub mode_of_token : ℕ → List ℕ → ℕ
mode_of_token mode s =
    if (mode == 0) && is_hash s then 1 else if (mode == 1) && bytes_eq s (codes "include") then 2 else 3

abbrev pub mode_behind : ℕ → Spell → List ℕ → ℕ
mode_behind mode Blank s = if bytes_eq s (10 ∷ []) then 0 else mode
mode_behind mode Comment s = mode
mode_behind mode (Token class) s = mode_of_token mode s

abbrev pub c : Language
c = language_of is_blank rows_at mode_behind
