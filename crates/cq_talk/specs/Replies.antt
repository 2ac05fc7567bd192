-- What a reply names.
use Rattle.std.specs.Prelude.{ℕ, max, List, [], ◌∷◌}
use Rattle.cq_reply.specs.declared.reply.Reply.{Reply}
use Rattle.cq_reply.specs.declared.reply.Reply.TheVariants as reply

-- the version or the published number that a reply names
abbrev pub version_in : Reply → ℕ
version_in (reply.Files rows version) = version
version_in (reply.Groups rows version) = version
version_in (reply.Measures measures version) = version
version_in (reply.Verdict verdict version) = version
version_in (reply.Functions functions version worst) = version
version_in (reply.State accepted done published) = published
version_in _ = 0

-- the version that a query's reply names
abbrev pub answered_in : Reply → ℕ
answered_in (reply.Files rows version) = version
answered_in (reply.Groups rows version) = version
answered_in (reply.Measures measures version) = version
answered_in (reply.Verdict verdict version) = version
answered_in (reply.Functions functions version worst) = version
answered_in _ = 0

-- the number that a reply names as change, version or published
abbrev pub named : Reply → ℕ
named (reply.Change n) = n
named (reply.Files rows version) = version
named (reply.Groups rows version) = version
named (reply.Measures measures version) = version
named (reply.Verdict verdict version) = version
named (reply.Functions functions version worst) = version
named (reply.State accepted done published) = published
named _ = 0

-- the greatest number that these replies name, and the one before
abbrev pub seen_after : ℕ → List Reply → ℕ
seen_after seen [] = seen
seen_after seen (r ∷ replies) = seen_after (max seen (named r)) replies
