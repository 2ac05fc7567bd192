-- Text blocks (JLS 3.10.6). What an escape means is not checked.
use Rattle.std.specs.Prelude.{ℕ, Bool, false, ◌==◌, ◌||◌, ◌&&◌, List, [], ◌∷◌, drop}
use Rattle.cq_base.specs.declared.token.Class.TheVariants.{Literal}
use Rattle.cq_munch.specs.Pattern.{Pattern, among, except, ◌▸◌, ◌∣◌, many, optional, only, one_of}
use Rattle.cq_munch.specs.Patterned.{Patterned}
use Rattle.cq_munch.specs.Table.{begins}
use Rattle.cq_munch.specs.declared.element.Spell.TheVariants.{Token}

abbrev pub quote : Pattern
quote = only 34

abbrev pub quotes : Pattern
quotes = quote ▸ quote ▸ quote

abbrev pub backslash : Pattern
backslash = only 92

-- space, tab and form feed
abbrev pub space : Pattern
space = among ((32, 32) ∷ (9, 9) ∷ (12, 12) ∷ [])

abbrev pub line_end : Pattern
line_end = one_of 13 10

abbrev pub any : Pattern
any = except []

-- any character but a quote and a backslash, or a backslash and the character after it
abbrev pub character : Pattern
character = except ((34, 34) ∷ (92, 92) ∷ []) ∣ backslash ▸ any

-- at most two quotes, and a character after them
abbrev pub part : Pattern
part = optional (quote ▸ optional quote) ▸ character

-- three quotes, blanks, a line end, the content, and three quotes
unfoldable pub text_block : Pattern
text_block = quotes ▸ many space ▸ line_end ▸ many part ▸ quotes

abbrev pub text_blocks : Patterned
text_blocks = (Token Literal, text_block) ∷ []

-- ---- whether one is opened: three quotes, and blanks up to the end of their line

abbrev pub is_line_end : ℕ → Bool
is_line_end c = (c == 13) || (c == 10)

abbrev pub is_space : ℕ → Bool
is_space c = ((c == 32) || (c == 9)) || (c == 12)

abbrev pub opening : List ℕ → Bool
opening [] = false
opening (c ∷ s) = is_line_end c || (is_space c && opening s)

abbrev pub opens : List ℕ → Bool
opens text = begins (34 ∷ 34 ∷ 34 ∷ []) text && opening (drop 3 text)
