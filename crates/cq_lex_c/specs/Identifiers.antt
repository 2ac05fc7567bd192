-- Identifiers and keywords (C11 6.4.1, 6.4.2, 6.4.3). What a universal character name stands for is not checked.
use Rattle.std.specs.Prelude.{ℕ, List, [], ◌∷◌, map, codes}
use Rattle.cq_munch.specs.Digits.{hex_digit}
use Rattle.cq_munch.specs.Pattern.{Pattern, Spells, among, only, many, ◌▸◌, ◌∣◌}
use Rattle.cq_lex_c.specs.Characters.{stood}

-- letters, an underscore and a dollar sign; past ASCII what begins an identifier
abbrev pub letter : Pattern
letter = among ((65, 90) ∷ (97, 122) ∷ (95, 95) ∷ (36, 36) ∷ (128, 128) ∷ [])

-- and digits; past ASCII what continues an identifier
abbrev pub continuing : Pattern
continuing = among ((65, 90) ∷ (97, 122) ∷ (48, 57) ∷ (95, 95) ∷ (36, 36) ∷ (128, 129) ∷ [])

abbrev pub hex_quad : Pattern
hex_quad = hex_digit ▸ hex_digit ▸ hex_digit ▸ hex_digit

-- a backslash, a small u and four hexadecimal digits, or a backslash, a capital U and eight of them
abbrev pub universal_name : Pattern
universal_name = only 92 ▸ (only 117 ▸ hex_quad ∣ only 85 ▸ hex_quad ▸ hex_quad)

unfoldable pub identifier : Pattern
identifier = (letter ∣ universal_name) ▸ many (continuing ∣ universal_name)

abbrev pub IsIdentifier : List ℕ → Type 0
IsIdentifier s = Spells identifier (map stood s)

abbrev pub keywords : List (List ℕ)
keywords = codes "auto" ∷ codes "break" ∷ codes "case" ∷ codes "char" ∷ codes "const" ∷ codes "continue" ∷ codes "default" ∷ codes "do" ∷ codes "double" ∷ codes "else" ∷ codes "enum" ∷ codes "extern" ∷ codes "float" ∷ codes "for" ∷ codes "goto" ∷ codes "if" ∷ codes "inline" ∷ codes "int" ∷ codes "long" ∷ codes "register" ∷ codes "restrict" ∷ codes "return" ∷ codes "short" ∷ codes "signed" ∷ codes "sizeof" ∷ codes "static" ∷ codes "struct" ∷ codes "switch" ∷ codes "typedef" ∷ codes "union" ∷ codes "unsigned" ∷ codes "void" ∷ codes "volatile" ∷ codes "while" ∷ codes "_Alignas" ∷ codes "_Alignof" ∷ codes "_Atomic" ∷ codes "_Bool" ∷ codes "_Complex" ∷ codes "_Generic" ∷ codes "_Imaginary" ∷ codes "_Noreturn" ∷ codes "_Static_assert" ∷ codes "_Thread_local" ∷ []
