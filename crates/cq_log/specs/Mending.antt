-- What has to be written at the end of a log before another line.
use Rattle.std.specs.Prelude.{ℕ, Bool, true, false, List, [], ◌∷◌, ◌++◌, nat_lt, length}
use Rattle.cq_lines.specs.Pieces.{split}

-- the last line has no line feed
abbrev pub is_unclosed : List ℕ → Bool
is_unclosed bytes = nat_lt 0 (length (split bytes).1)

abbrev pub feed_if : Bool → List ℕ
feed_if true = 10 ∷ []
feed_if false = []

-- the line feed that the last line lacks, and an empty line after a line that was cut off
abbrev pub mending : Bool → Bool → List ℕ
mending unclosed torn = feed_if unclosed ++ feed_if torn
