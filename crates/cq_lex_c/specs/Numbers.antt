-- Preprocessing numbers (C11 6.4.8).
use Rattle.std.specs.Prelude.{ℕ, List, [], ◌∷◌, map}
use Rattle.cq_munch.specs.Digits.{decimal_digit, hex_digit, point, sign}
use Rattle.cq_munch.specs.Pattern.{Pattern, Spells, among, only, one_of, many, optional, ◌▸◌, ◌∣◌}
use Rattle.cq_lex_c.specs.Characters.{stood}
use Rattle.cq_lex_c.specs.Identifiers.{continuing, hex_quad, universal_name}

abbrev pub hex_three : Pattern
hex_three = hex_digit ▸ hex_digit ▸ hex_digit

-- e, E, p or P, or a universal character name that ends with e or E
abbrev pub exponent : Pattern
exponent =
    among ((101, 101) ∷ (69, 69) ∷ (112, 112) ∷ (80, 80) ∷ [])
    ∣ only 92 ▸ (only 117 ▸ hex_three ▸ one_of 101 69 ∣ only 85 ▸ hex_quad ▸ hex_three ▸ one_of 101 69)

-- A digit, or a point and a digit, and then points, characters that continue an identifier, universal character names, and
-- signs directly after an exponent.
unfoldable pub number : Pattern
number = optional point ▸ decimal_digit ▸ many (continuing ∣ point ∣ universal_name ∣ exponent ▸ sign)

abbrev pub IsNumber : List ℕ → Type 0
IsNumber s = Spells number (map stood s)
