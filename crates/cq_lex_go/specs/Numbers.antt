-- How numbers are spelled (Go specification, "Integer literals", "Floating-point literals", "Imaginary literals").
use Rattle.std.specs.Prelude.{[], ◌∷◌}
use Rattle.cq_munch.specs.Digits.{decimal_digit, octal_digit, binary_digit, hex_digit, zero_digit, underscore, point, sign}
use Rattle.cq_munch.specs.Pattern.{Pattern, among, ◌▸◌, ◌∣◌, many, optional, only, one_of}

-- digits of one base, with single underscores between them
abbrev pub digits : Pattern → Pattern
digits digit = digit ▸ many (optional underscore ▸ digit)

-- 0, or a digit from 1 to 9 and perhaps more
abbrev pub decimal : Pattern
decimal = zero_digit ∣ among ((49, 57) ∷ []) ▸ optional (optional underscore ▸ digits decimal_digit)

-- 0b or 0B
abbrev pub binary : Pattern
binary = zero_digit ▸ one_of 98 66 ▸ optional underscore ▸ digits binary_digit

-- 0, perhaps o or O
abbrev pub octal : Pattern
octal = zero_digit ▸ optional (one_of 111 79) ▸ optional underscore ▸ digits octal_digit

-- 0x or 0X
abbrev pub hex : Pattern
hex = zero_digit ▸ one_of 120 88 ▸ optional underscore ▸ digits hex_digit

-- e or E
abbrev pub exponent : Pattern
exponent = one_of 101 69 ▸ optional sign ▸ digits decimal_digit

abbrev pub decimal_float : Pattern
decimal_float =
    digits decimal_digit ▸ point ▸ optional (digits decimal_digit) ▸ optional exponent
    ∣ digits decimal_digit ▸ exponent
    ∣ point ▸ digits decimal_digit ▸ optional exponent

abbrev pub mantissa : Pattern
mantissa =
    optional underscore ▸ digits hex_digit ▸ point ▸ optional (digits hex_digit)
    ∣ optional underscore ▸ digits hex_digit
    ∣ point ▸ digits hex_digit

-- p or P
abbrev pub hex_float : Pattern
hex_float = zero_digit ▸ one_of 120 88 ▸ mantissa ▸ one_of 112 80 ▸ optional sign ▸ digits decimal_digit

abbrev pub real : Pattern
real = decimal ∣ binary ∣ octal ∣ hex ∣ decimal_float ∣ hex_float

-- a number, or one followed by an i
unfoldable pub number : Pattern
number = real ∣ (real ∣ digits decimal_digit) ▸ only 105
