-- String literals and character constants (C11 6.4.4.4, 6.4.5). What an escape means is not checked.
use Rattle.std.specs.Prelude.{ℕ, List, ◌⊎◌}
use Rattle.cq_munch.specs.Comments.{IsAfter}
use Rattle.cq_munch.specs.Pattern.{Pattern, Spells}
use Rattle.cq_munch.specs.Quotes.{quoted}
use Rattle.cq_munch.specs.declared.ends.LineEnds.TheVariants.{ReturnOrFeed}
use Rattle.cq_munch.specs.declared.quoted.Quote.TheVariants.{Double, Single}

abbrev pub string : Pattern
string = quoted Double ReturnOrFeed

abbrev pub constant : Pattern
constant = quoted Single ReturnOrFeed

abbrev pub IsString : List ℕ → Type 0
IsString s = Spells string s

-- without a prefix
abbrev pub IsText : List ℕ → Type 0
IsText s = IsString s ⊎ Spells constant s

-- after a small u: a text, or an 8 and a string
abbrev pub IsSmall : List ℕ → Type 0
IsSmall s = IsText s ⊎ IsAfter 56 IsString s

-- after u, u8, U or L
abbrev pub IsPrefixed : List ℕ → Type 0
IsPrefixed s = IsAfter 117 IsSmall s ⊎ (IsAfter 85 IsText s ⊎ IsAfter 76 IsText s)
