-- What the words in a comment come to: the last one counts.
use Rattle.std.specs.Prelude.{◌≡◌, ◌↔◌, ℕ, ◌<◌, Bool, Some, None, List, drop}
use Rattle.cq_munch.specs.ListingMarks.{said, said_at}

-- one of the words is at a place and says so, and none comes after it
pub record SaysLast (text : List ℕ) (on : Bool) : Type 0 where
  pub at : ℕ
  pub says : said_at (drop at text) ≡ Some on
  pub last : (later : ℕ) → at < later → said_at (drop later text) ≡ None

-- what is said of any characters is what the last of the words there says
abbrev pub TheLastWordCounts : Type 0
TheLastWordCounts = (text : List ℕ) (on : Bool) → (said text ≡ Some on) ↔ SaysLast text on
