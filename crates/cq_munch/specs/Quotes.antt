-- Texts in quotes. What an escape means is not checked.
use Rattle.std.specs.Prelude.{ℕ, List, [], ◌∷◌}
use Rattle.cq_munch.specs.Pattern.{Range, Pattern, except, ◌▸◌, ◌∣◌, many, only}
use Rattle.cq_munch.specs.declared.ends.LineEnds.{LineEnds}
use Rattle.cq_munch.specs.declared.ends.LineEnds.TheVariants as ends
use Rattle.cq_munch.specs.declared.quoted.Quote.{Quote}
use Rattle.cq_munch.specs.declared.quoted.Quote.TheVariants as quotes

abbrev pub line_ends : LineEnds → List Range
line_ends ends.Feed = (10, 10) ∷ []
line_ends ends.ReturnOrFeed = (13, 13) ∷ (10, 10) ∷ []
line_ends ends.Separator = (13, 13) ∷ (10, 10) ∷ (8232, 8233) ∷ []

-- one character but the quote, a backslash and a line end, or a backslash with any next one but a line end
abbrev pub item : ℕ → LineEnds → Pattern
item quote ends = except ((quote, quote) ∷ (92, 92) ∷ line_ends ends) ∣ only 92 ▸ except (line_ends ends)

-- any number of items in double quotes, or at least one in single quotes
unfoldable pub quoted : Quote → LineEnds → Pattern
quoted quotes.Double ends = only 34 ▸ many (item 34 ends) ▸ only 34
quoted quotes.Single ends = only 39 ▸ (item 39 ends ▸ many (item 39 ends)) ▸ only 39
