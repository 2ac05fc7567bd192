-- What calls of the cutter and of its parts promise, beside what they find.
use Rattle.std.specs.Prelude.{ℕ, List, [], length, take, drop, false, Option, Result}
use Rattle.std.specs.Io.KnownBytes.{ReadConsumes}
use Rattle.cq_lines.specs.Held.{Held}
use Rattle.cq_lines.specs.Pieces.{HasNoFeedBetween}

-- nothing was taken yet, and this many bytes may be
abbrev pub fresh_held : ℕ → Held
fresh_held limit = record { pending = []; taken = 0; limit = limit; over = false }

-- there is no line feed from this place on
abbrev pub HasNoFeedFrom : ℕ → List ℕ → Type 0
HasNoFeedFrom from bytes = HasNoFeedBetween from (length bytes) bytes

-- a read of up to this many bytes gave those that are in a buffer from this place on
abbrev pub ReadsAt : {E : Type 0} → ℕ → ℕ → Option (List ℕ) → Option (List ℕ) → List ℕ → Result ℕ E → Type 0
ReadsAt at want before after buffer result = ReadConsumes before after result (take want (drop at buffer))
