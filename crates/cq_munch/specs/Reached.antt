-- How far the tokens of a text have come with one.
use Rattle.std.specs.Prelude.{ℕ, ◌+◌}
use Rattle.cq_base.specs.declared.token.Spelled.{Spelled}

-- the byte after it
abbrev pub end_behind : Spelled → ℕ
end_behind s = s.token.start + s.token.len
