-- Numbers (ECMA-262 12.9.3), with those that only scripts may have: 010 and 08.
use Rattle.std.specs.Prelude.{[], ◌∷◌}
use Rattle.cq_munch.specs.Digits.{decimal_digit, octal_digit, binary_digit, hex_digit, zero_digit, underscore, point, sign}
use Rattle.cq_munch.specs.Pattern.{Pattern, among, ◌▸◌, ◌∣◌, many, optional, only, one_of}

-- digits of one base, with single underscores between them
abbrev pub digits : Pattern → Pattern
digits digit = digit ▸ many (optional underscore ▸ digit)

-- 0, or a digit from 1 to 9 and perhaps more
abbrev pub whole : Pattern
whole = zero_digit ∣ among ((49, 57) ∷ []) ▸ optional (optional underscore ▸ digits decimal_digit)

-- NonOctalDecimalIntegerLiteral: digits without underscores, of which the first is 0 and another 8 or 9
abbrev pub not_octal : Pattern
not_octal = zero_digit ▸ many octal_digit ▸ among ((56, 57) ∷ []) ▸ many decimal_digit

-- e or E
abbrev pub exponent : Pattern
exponent = one_of 101 69 ▸ optional sign ▸ digits decimal_digit

abbrev pub decimal : Pattern
decimal =
    (whole ∣ not_octal) ▸ optional (point ▸ optional (digits decimal_digit)) ▸ optional exponent
    ∣ point ▸ digits decimal_digit ▸ optional exponent

-- 0b or 0B, 0o or 0O, 0x or 0X
abbrev pub based : Pattern
based = zero_digit ▸ (one_of 98 66 ▸ digits binary_digit ∣ one_of 111 79 ▸ digits octal_digit ∣ one_of 120 88 ▸ digits hex_digit)

abbrev pub legacy_octal : Pattern
legacy_octal = zero_digit ▸ octal_digit ▸ many octal_digit

-- a BigInt has an n after it
abbrev pub number : Pattern
number = decimal ∣ legacy_octal ∣ (whole ∣ based) ▸ optional (only 110)
