-- Raw strings (Go specification, "String literals").
use Rattle.std.specs.Prelude.{[], ◌∷◌}
use Rattle.cq_munch.specs.Pattern.{Pattern, except, ◌▸◌, many, only}

-- any characters but backquotes between two of them
unfoldable pub raw_string : Pattern
raw_string = only 96 ▸ many (except ((96, 96) ∷ [])) ▸ only 96
