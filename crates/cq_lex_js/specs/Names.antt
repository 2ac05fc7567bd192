-- Names and reserved words (ECMA-262 12.7). What an escape in a name stands for is not checked.
use Rattle.std.specs.Prelude.{ℕ, List, [], ◌∷◌, codes}
use Rattle.cq_munch.specs.Digits.{hex_digit}
use Rattle.cq_munch.specs.Pattern.{Pattern, among, only, optional, many, ◌▸◌, ◌∣◌}

-- letters, a dollar sign and an underscore; past ASCII what begins a name
abbrev pub letter : Pattern
letter = among ((65, 90) ∷ (97, 122) ∷ (36, 36) ∷ (95, 95) ∷ (128, 128) ∷ [])

-- and digits; past ASCII what continues a name
abbrev pub continuing : Pattern
continuing = among ((65, 90) ∷ (97, 122) ∷ (48, 57) ∷ (36, 36) ∷ (95, 95) ∷ (128, 129) ∷ [])

-- a backslash, a u, and four hexadecimal digits, or one or more of them in braces (12.9.4, UnicodeEscapeSequence)
abbrev pub escape : Pattern
escape = only 92 ▸ only 117 ▸ (hex_digit ▸ hex_digit ▸ hex_digit ▸ hex_digit ∣ only 123 ▸ hex_digit ▸ many hex_digit ▸ only 125)

-- a name, or a private name, which has a hash before it
unfoldable pub name : Pattern
name = optional (only 35) ▸ (letter ∣ escape) ▸ many (continuing ∣ escape)

-- 12.7.2, ReservedWord
abbrev pub keywords : List (List ℕ)
keywords = codes "await" ∷ codes "break" ∷ codes "case" ∷ codes "catch" ∷ codes "class" ∷ codes "const" ∷ codes "continue" ∷ codes "debugger" ∷ codes "default" ∷ codes "delete" ∷ codes "do" ∷ codes "else" ∷ codes "enum" ∷ codes "export" ∷ codes "extends" ∷ codes "false" ∷ codes "finally" ∷ codes "for" ∷ codes "function" ∷ codes "if" ∷ codes "import" ∷ codes "in" ∷ codes "instanceof" ∷ codes "new" ∷ codes "null" ∷ codes "return" ∷ codes "super" ∷ codes "switch" ∷ codes "this" ∷ codes "throw" ∷ codes "true" ∷ codes "try" ∷ codes "typeof" ∷ codes "var" ∷ codes "void" ∷ codes "while" ∷ codes "with" ∷ codes "yield" ∷ []
