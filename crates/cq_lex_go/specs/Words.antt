-- Names, keywords and punctuation (Go specification, "Identifiers", "Keywords", "Operators and
-- punctuation", "Letters and digits").
use Rattle.std.specs.Prelude.{ℕ, Bool, true, false, ◌||◌, ◌==◌, List, [], ◌∷◌, map, codes}
use Rattle.cq_munch.specs.Pattern.{Pattern, Spells, among, many, ◌▸◌, ◌∣◌}
use Rattle.cq_munch.specs.Characters.{seen_as}
use Rattle.ucd_category.specs.GeneralCategory.{general_category}
use Rattle.ucd_category.specs.declared.GeneralCategory.{GeneralCategory}
use Rattle.ucd_category.specs.declared.GeneralCategory.TheVariants.{UppercaseLetter, LowercaseLetter, TitlecaseLetter, ModifierLetter, OtherLetter, DecimalNumber}

abbrev pub keywords : List (List ℕ)
keywords = codes "break" ∷ codes "case" ∷ codes "chan" ∷ codes "const" ∷ codes "continue" ∷ codes "default" ∷ codes "defer" ∷ codes "else" ∷ codes "fallthrough" ∷ codes "for" ∷ codes "func" ∷ codes "go" ∷ codes "goto" ∷ codes "if" ∷ codes "import" ∷ codes "interface" ∷ codes "map" ∷ codes "package" ∷ codes "range" ∷ codes "return" ∷ codes "select" ∷ codes "struct" ∷ codes "switch" ∷ codes "type" ∷ codes "var" ∷ []

abbrev pub punctuation : List (List ℕ)
punctuation = codes "+" ∷ codes "&" ∷ codes "+=" ∷ codes "&=" ∷ codes "&&" ∷ codes "==" ∷ codes "!=" ∷ codes "(" ∷ codes ")" ∷ codes "-" ∷ codes "|" ∷ codes "-=" ∷ codes "|=" ∷ codes "||" ∷ codes "<" ∷ codes "<=" ∷ codes "[" ∷ codes "]" ∷ codes "*" ∷ codes "^" ∷ codes "*=" ∷ codes "^=" ∷ codes "<-" ∷ codes ">" ∷ codes ">=" ∷ codes "{" ∷ codes "}" ∷ codes "/" ∷ codes "<<" ∷ codes "/=" ∷ codes "<<=" ∷ codes "++" ∷ codes "=" ∷ codes ":=" ∷ codes "," ∷ codes ";" ∷ codes "%" ∷ codes ">>" ∷ codes "%=" ∷ codes ">>=" ∷ codes "--" ∷ codes "!" ∷ codes "..." ∷ codes "." ∷ codes ":" ∷ codes "&^" ∷ codes "&^=" ∷ codes "~" ∷ []

abbrev pub is_letter_category : GeneralCategory → Bool
is_letter_category UppercaseLetter = true
is_letter_category LowercaseLetter = true
is_letter_category TitlecaseLetter = true
is_letter_category ModifierLetter = true
is_letter_category OtherLetter = true
is_letter_category _ = false

abbrev pub is_digit_category : GeneralCategory → Bool
is_digit_category DecimalNumber = true
is_digit_category _ = false

unfoldable pub is_letter : ℕ → Bool
is_letter c = (c == 95) || is_letter_category (general_category c)

unfoldable pub is_digit : ℕ → Bool
is_digit c = is_digit_category (general_category c)

-- how patterns see a character
abbrev pub stood : ℕ → ℕ
stood c = seen_as is_letter is_digit c

-- letters and the underscore, and digits, past ASCII too
abbrev pub letter : Pattern
letter = among ((65, 90) ∷ (97, 122) ∷ (95, 95) ∷ (128, 128) ∷ [])

abbrev pub unicode_digit : Pattern
unicode_digit = among ((48, 57) ∷ (129, 129) ∷ [])

-- a letter, then letters and digits
unfoldable pub name : Pattern
name = letter ▸ many (letter ∣ unicode_digit)

abbrev pub IsName : List ℕ → Type 0
IsName s = Spells name (map stood s)
