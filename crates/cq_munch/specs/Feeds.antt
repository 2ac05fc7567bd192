-- Line feeds, and the lines that are counted by them.
use Rattle.std.specs.Prelude.{◌≡◌, ℕ, ◌<◌, ◌≤◌, List, length}
use Rattle.memchr.specs.Find.{Nowhere, Passes, is_byte}
use Rattle.cq_base.specs.Lines.{line_at, line_feed}
use Rattle.cq_munch.specs.declared.lines.Feed.{Feed}

-- the first line feed from a byte on, or the end of the text
pub record IsFeed (text : List ℕ) (from feed : ℕ) : Type 0 where
  pub ahead : from ≤ feed
  pub within : feed ≤ length text
  pub none : Nowhere (Passes (is_byte line_feed) text) from feed
  pub feeds : feed < length text → Passes (is_byte line_feed) text feed

-- and its line
abbrev pub IsCounted : List ℕ → ℕ → Feed → Type 0
IsCounted text from feed = IsFeed text from feed.at × (feed.line ≡ line_at text feed.at)
