-- Whether a line was read.
use Rattle.std.proofs.Common.{◌≡◌, ℕ, ◌<◌, ◌≤◌, cond, List, length, ap, subst, ⊎_elim, lt-ltb, le-ltb}
use Rattle.std.proofs.lemmas.Bool.{cases_lt}
use Rattle.cq_lines.specs.Pieces.{line_limit}
use Rattle.cq_request.specs.Reading.{line_says}
use Rattle.cq_talk.specs.Said.{TooLong, Read, said, WasRead}

module _ (chunk : ℕ) (line : List ℕ) where
  pub said_long : line_limit < length line → said chunk line ≡ TooLong
  said_long long = ap (λ b. cond b TooLong (Read (line_says chunk line))) (lt-ltb line_limit (length line) long)

  pub said_short : length line ≤ line_limit → said chunk line ≡ Read (line_says chunk line)
  said_short short = ap (λ b. cond b TooLong (Read (line_says chunk line))) (le-ltb line_limit (length line) short)

  pub read_short : WasRead (said chunk line) → length line ≤ line_limit
  read_short read = ⊎_elim (λ (long : line_limit < length line). absurd (subst WasRead (said_long long) read)) (λ (short : length line ≤ line_limit). short) (cases_lt line_limit (length line))
