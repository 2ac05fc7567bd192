-- How numbers are spelled (JLS 3.10.1, 3.10.2).
use Rattle.std.specs.Prelude.{[], ◌∷◌}
use Rattle.cq_munch.specs.Digits.{decimal_digit, octal_digit, binary_digit, hex_digit, zero_digit, underscore, point, sign}
use Rattle.cq_munch.specs.Pattern.{Pattern, among, ◌▸◌, ◌∣◌, many, optional, one_of}

-- digits of one base, with underscores between them
abbrev pub digits : Pattern → Pattern
digits digit = digit ∣ digit ▸ many (digit ∣ underscore) ▸ digit

-- integers, with or without an L after them
abbrev pub long_suffix : Pattern
long_suffix = optional (one_of 108 76)

abbrev pub decimal : Pattern
decimal = (zero_digit ∣ among ((49, 57) ∷ []) ▸ optional (many underscore ▸ digits decimal_digit)) ▸ long_suffix

abbrev pub hexadecimal : Pattern
hexadecimal = zero_digit ▸ one_of 120 88 ▸ digits hex_digit ▸ long_suffix

abbrev pub octal : Pattern
octal = zero_digit ▸ many underscore ▸ digits octal_digit ▸ long_suffix

abbrev pub binary : Pattern
binary = zero_digit ▸ one_of 98 66 ▸ digits binary_digit ▸ long_suffix

-- floating-point numbers, with or without a suffix f, F, d or D
abbrev pub float_suffix : Pattern
float_suffix = among ((102, 102) ∷ (70, 70) ∷ (100, 100) ∷ (68, 68) ∷ [])

abbrev pub exponent : Pattern
exponent = one_of 101 69 ▸ optional sign ▸ digits decimal_digit

abbrev pub decimal_float : Pattern
decimal_float = digits decimal_digit ▸ point ▸ optional (digits decimal_digit) ▸ optional exponent ▸ optional float_suffix
    ∣ point ▸ digits decimal_digit ▸ optional exponent ▸ optional float_suffix
    ∣ digits decimal_digit ▸ exponent ▸ optional float_suffix
    ∣ digits decimal_digit ▸ float_suffix

abbrev pub hex_significand : Pattern
hex_significand = zero_digit ▸ one_of 120 88 ▸ digits hex_digit ▸ optional point
    ∣ zero_digit ▸ one_of 120 88 ▸ optional (digits hex_digit) ▸ point ▸ digits hex_digit

abbrev pub hex_float : Pattern
hex_float = hex_significand ▸ one_of 112 80 ▸ optional sign ▸ digits decimal_digit ▸ optional float_suffix

unfoldable pub number : Pattern
number = decimal ∣ hexadecimal ∣ octal ∣ binary ∣ decimal_float ∣ hex_float
