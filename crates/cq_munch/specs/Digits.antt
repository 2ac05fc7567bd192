-- Digits, and the marks between them.
use Rattle.std.specs.Prelude.{[], ◌∷◌}
use Rattle.cq_munch.specs.Pattern.{Pattern, among, only, one_of}

-- the digits of each base
abbrev pub decimal_digit : Pattern
decimal_digit = among ((48, 57) ∷ [])

abbrev pub octal_digit : Pattern
octal_digit = among ((48, 55) ∷ [])

abbrev pub binary_digit : Pattern
binary_digit = among ((48, 49) ∷ [])

abbrev pub hex_digit : Pattern
hex_digit = among ((48, 57) ∷ (65, 70) ∷ (97, 102) ∷ [])

abbrev pub zero_digit : Pattern
zero_digit = only 48

abbrev pub underscore : Pattern
underscore = only 95

abbrev pub point : Pattern
point = only 46

abbrev pub sign : Pattern
sign = one_of 43 45
