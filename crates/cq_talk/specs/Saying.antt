-- Which line is kept for a change.
use Rattle.std.specs.Prelude.{◌≡◌, ℕ, ◌≤◌, List, length, Ok}
use Rattle.cq_base.specs.declared.change.Change.{Change}
use Rattle.cq_lines.specs.Pieces.{HasNoFeed, line_limit}
use Rattle.cq_request.specs.Reading.{line_says}
use Rattle.cq_request.specs.declared.request.Request.TheVariants as request

-- the line says the change, to whoever reads lines of this chunk
pub record Says (chunk : ℕ) (line : List ℕ) (change : Change) : Type 0 where
  pub says : line_says chunk line ≡ Ok (request.Change change)
  pub no_feed : HasNoFeed line
  pub short : length line ≤ line_limit
