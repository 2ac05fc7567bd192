-- How long the text of a file may be.
use Rattle.std.specs.Prelude.{ℕ, List, length, Bool, nat_le}

-- a text of at most 1,048,576 bytes
abbrev pub is_short : List ℕ → Bool
is_short text = nat_le (length text) 1048576
