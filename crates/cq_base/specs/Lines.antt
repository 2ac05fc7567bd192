-- The lines of a text, as an editor counts them.
use Rattle.std.specs.Prelude.{ℕ, ◌+◌, ◌-◌, ◌==◌, List, length, slice_get, Bool, false, not, take, count_by, if◌then◌else◌, option_map, unwrap_or}

abbrev pub line_feed : ℕ
line_feed = 10

-- the line, from 1, that a byte is on: 1 plus the line feeds before it
abbrev pub line_at : List ℕ → ℕ → ℕ
line_at text at = 1 + count_by (λ b. b == line_feed) (take at text)

-- whether there is a last byte that is no line feed
abbrev pub is_open : List ℕ → Bool
is_open text = unwrap_or (option_map (λ b. not (b == line_feed)) (slice_get text (length text - 1))) false

-- how many lines a text has: its line feeds, and one more if there are bytes after the last of them
abbrev pub lines_of : List ℕ → ℕ
lines_of text = count_by (λ b. b == line_feed) text + (if is_open text then 1 else 0)
