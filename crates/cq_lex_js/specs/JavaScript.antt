-- The table of JavaScript's elements (ECMA-262, 16th edition, clause 12).
use Rattle.std.specs.Prelude.{ℕ, Bool, not, ◌&&◌, ◌||◌, ◌==◌, false, List, [], ◌∷◌, codes}
use Rattle.std.specs.Char.{is_ascii_digit}
use Rattle.cq_base.specs.declared.token.Class.TheVariants.{Punct}
use Rattle.cq_munch.specs.Comments.{blocks, lines}
use Rattle.cq_munch.specs.Language.{Language}
use Rattle.cq_munch.specs.Pattern.{Pattern, except, only, many, ◌▸◌}
use Rattle.cq_munch.specs.Patterned.{any_word, Patterned, rows_seen, with_reserved}
use Rattle.cq_munch.specs.Table.{Row, begins, starts}
use Rattle.cq_munch.specs.Tabled.{language_of, sign, tried}
use Rattle.cq_munch.specs.declared.element.Spell.TheVariants.{Blank, Comment, Token}
use Rattle.cq_munch.specs.declared.ends.LineEnds.TheVariants.{Separator}
use Rattle.cq_lex_js.specs.Characters.{stood, lined}
use Rattle.cq_lex_js.specs.Jsx.{children, tag}
use Rattle.cq_lex_js.specs.Literals.{feeds, literals}
use Rattle.cq_lex_js.specs.Modes.{is_full, ends_substitution, expects_operand, is_after_point, is_among_children, is_in_element, is_in_tag, mode_behind}
use Rattle.cq_lex_js.specs.Names.{name, keywords}
use Rattle.cq_lex_js.specs.Punctuators.{punctuators, is_choice}

-- 12.2, 12.3: tab, vertical tab, form feed and space; line feed and carriage return
abbrev pub blank_characters : List (List ℕ)
blank_characters = (9 ∷ []) ∷ (11 ∷ []) ∷ (12 ∷ []) ∷ (32 ∷ []) ∷ (10 ∷ []) ∷ (13 ∷ []) ∷ []

abbrev pub is_blank : ℕ → Bool
is_blank c = (c == 32) || ((c == 10) || ((c == 9) || ((c == 13) || ((c == 11) || (c == 12)))))

-- they are blanks where neither a child nor a tag of JSX is read
abbrev pub is_plain_blank : ℕ → ℕ → Bool
is_plain_blank mode c = is_blank c && not (is_in_element mode)

-- 12.5: a hash, an exclamation mark and the rest of the line
unfoldable pub hashbang : Pattern
hashbang = only 35 ▸ only 33 ▸ many (except feeds)

abbrev pub others : Patterned
others = (Blank, any_word blank_characters) ∷ (Comment, hashbang) ∷ (Token Punct, any_word punctuators) ∷ []

-- 12.7, 12.8: names, of which the reserved words are words, and the others
abbrev pub rows : List Row
rows = with_reserved stood name keywords others

-- after a point no word is reserved (13.3, MemberExpression)
abbrev pub properties : List Row
properties = with_reserved stood name [] others

abbrev pub is_quote : ℕ → Bool
is_quote c = (c == 34) || ((c == 39) || (c == 96))

abbrev pub is_fraction : List ℕ → Bool
is_fraction (a ∷ b ∷ s) = (a == 46) && is_ascii_digit b
is_fraction _ = false

-- A digit or a quote begins a literal, and so does a point before a digit; a slash does if an operand is expected, and a closing
-- brace if it ends a substitution.
abbrev pub opens_literal : ℕ → List ℕ → Bool
opens_literal mode text =
    starts (λ c. is_ascii_digit c || (is_quote c || (((c == 47) && expects_operand mode) || ((c == 125) && ends_substitution mode)))) text
    || is_fraction text

-- if 29 substitutions, tags, children and braces inside them are open, nothing more is opened
abbrev pub opens_deeper : ℕ → List ℕ → Bool
opens_deeper mode text = is_full mode && starts (λ c. (c == 123) || ((c == 96) || ((c == 60) && expects_operand mode))) text

-- What is tried: children and tags of JSX have rows of their own, and so do comments (12.4) and literals (12.9). No `?.` is before a
-- digit (12.8, OptionalChainingPunctuator).
abbrev pub tests : ℕ → List ℕ → List (Bool × List Row)
tests mode text =
    (opens_deeper mode text, [])
    ∷ (is_among_children mode, rows_seen stood children)
    ∷ (begins (codes "/*") text, blocks)
    ∷ (begins (codes "//") text, lines Separator)
    ∷ (is_in_tag mode, rows_seen stood tag)
    ∷ (opens_literal mode text, rows_seen lined literals)
    ∷ (is_choice text, sign (Token Punct) 63 ∷ [])
    ∷ (is_after_point mode, properties) ∷ []

abbrev pub rows_at : ℕ → List ℕ → List Row
rows_at mode text = tried (tests mode text) rows

abbrev pub javascript : Language
javascript = language_of is_plain_blank rows_at mode_behind
