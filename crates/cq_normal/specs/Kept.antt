-- Which tokens of a text are listed, by the marks in its comments.
use Rattle.std.specs.Prelude.{ℕ, Bool, true, nat_lt, if◌then◌else◌, List, [], ◌∷◌, filter, map}
use Rattle.cq_base.specs.declared.token.Mark.{Mark}
use Rattle.cq_base.specs.declared.token.Spelled.{Spelled}
use Rattle.cq_base.specs.declared.token.Token.{Token}

-- whether the last of the marks that begin before a byte is on; the flag, if none begins before it
abbrev pub is_on : Bool → List Mark → ℕ → Bool
is_on on [] byte = on
is_on on (m ∷ marks) byte = is_on (if nat_lt m.at byte then m.on else on) marks byte

-- A token is skipped if the last mark that begins before its first byte is off. The others keep their order.
abbrev pub kept : List Mark → List Spelled → List Spelled
kept marks tokens = filter (λ s. is_on true marks s.token.start) tokens

-- where tokens are
abbrev pub spans_of : List Spelled → List Token
spans_of tokens = map (λ s. s.token) tokens
