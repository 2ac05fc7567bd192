-- The characters that end a line.
use Rattle.std.specs.Prelude.{ℕ, Bool, ◌==◌, ◌||◌}
use Rattle.cq_munch.specs.declared.ends.LineEnds.{LineEnds}
use Rattle.cq_munch.specs.declared.ends.LineEnds.TheVariants as ends

abbrev pub ends_line : LineEnds → ℕ → Bool
ends_line ends.Feed c = c == 10
ends_line ends.ReturnOrFeed c = (c == 13) || (c == 10)
ends_line ends.Separator c = (c == 13) || ((c == 10) || ((c == 8232) || (c == 8233)))
