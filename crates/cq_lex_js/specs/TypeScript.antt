-- The table of TypeScript's elements: that of JavaScript, without elements of JSX. No standard has its grammar, so its compiler's scanner
-- is what is followed.
use Rattle.std.specs.Prelude.{ℕ, Bool, not, ◌&&◌, ◌||◌, ◌==◌, false, List, [], ◌∷◌, codes, if◌then◌else◌}
use Rattle.cq_base.specs.declared.token.Class.{Class}
use Rattle.cq_base.specs.declared.token.Class.TheVariants.{Ident, Word, Literal, Punct}
use Rattle.cq_munch.specs.Language.{Language}
use Rattle.cq_munch.specs.Table.{Row}
use Rattle.cq_munch.specs.Tabled.{language_of, sign, tried}
use Rattle.cq_munch.specs.declared.element.Spell.{Spell}
use Rattle.cq_munch.specs.declared.element.Spell.TheVariants.{Blank, Comment, Token}
use Rattle.cq_lex_js.specs.JavaScript.{is_plain_blank, rows_at}
use Rattle.cq_lex_js.specs.Modes.{is, after_punctuator, after_token, expects_operand, with_token}

-- Of several greater-than signs each closes a list of types, unless an equals sign follows two or three of them.
abbrev pub is_closing : List ℕ → Bool
is_closing (a ∷ b ∷ c ∷ d ∷ s) = (a == 62) && ((b == 62) && not ((c == 61) || ((c == 62) && (d == 61))))
is_closing (a ∷ b ∷ c ∷ []) = (a == 62) && ((b == 62) && not (c == 61))
is_closing (a ∷ b ∷ []) = (a == 62) && (b == 62)
is_closing _ = false

abbrev pub typed_at : ℕ → List ℕ → List Row
typed_at mode text = tried ((is_closing text, sign (Token Punct) 62 ∷ []) ∷ []) (rows_at mode text)

-- A less-than sign opens nothing, so that no element of JSX is ever open. An exclamation mark after an operand asserts that it is there,
-- and is part of it.
abbrev pub after_sign : ℕ → List ℕ → ℕ
after_sign mode s =
    if is (codes "<") s then with_token mode 0
    else if is (codes "!") s && not (expects_operand mode) then with_token mode 1
    else after_punctuator mode s

abbrev pub after_typed : ℕ → Class → List ℕ → ℕ
after_typed mode Ident s = after_token mode Ident s
after_typed mode Word s = after_token mode Word s
after_typed mode Literal s = after_token mode Literal s
after_typed mode Punct s = after_sign mode s

abbrev pub typed_behind : ℕ → Spell → List ℕ → ℕ
typed_behind mode Blank s = mode
typed_behind mode Comment s = mode
typed_behind mode (Token class) s = after_typed mode class s

abbrev pub typescript : Language
typescript = language_of is_plain_blank typed_at typed_behind
