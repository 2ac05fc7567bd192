-- What a line says.
use Rattle.std.specs.Prelude.{ℕ, List, length, nat_lt, if◌then◌else◌, Result}
use Rattle.cq_lines.specs.Pieces.{line_limit}
use Rattle.cq_request.specs.declared.request.Request.{Request}
use Rattle.cq_base.specs.declared.refusal.Refusal.{Refusal}
use Rattle.cq_request.specs.Reading.{line_says}

-- the line is too long to be read; or it was read, and is a request, or is refused
pub data Said : Type 0 where
  TooLong : Said
  Read : (says : Result Request Refusal) → Said

-- what a line says, if a window has this many tokens
abbrev pub said : ℕ → List ℕ → Said
said chunk line = if nat_lt line_limit (length line) then TooLong else Read (line_says chunk line)

-- the line is not too long
abbrev pub WasRead : Said → Type 0
WasRead TooLong = ⊥
WasRead (Read says) = Unit {0}
