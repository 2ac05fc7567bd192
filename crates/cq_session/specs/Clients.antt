-- Whom a session talks to, by its first line.
use Rattle.std.specs.Prelude.{◌≡◌, ◌&&◌, not, ℕ, Bool, true, false, if◌then◌else◌, List, [], ◌∷◌, Option, Some, None, Ok, Err}
use Rattle.cq_reply.specs.declared.reply.Reply.{Reply}
use Rattle.cq_reply.specs.declared.reply.Reply.TheVariants as reply
use Rattle.cq_base.specs.declared.refusal.Refusal.{Refusal}
use Rattle.cq_base.specs.declared.refusal.Refusal.TheVariants as refusal
use Rattle.cq_talk.specs.Said.{Said, said, TooLong, Read}
use Rattle.cq_session.specs.declared.met.Met.{Met}
use Rattle.cq_session.specs.declared.met.Met.TheVariants as met
use Rattle.cq_session.specs.declared.stop.Stop.{Stop}
use Rattle.cq_session.specs.declared.stop.Stop.TheVariants as stop

-- a line that is refused for this is a JSON object
abbrev pub is_object : Refusal → Bool
is_object refusal.Json = false
is_object _ = true

-- the line was read, and is a JSON object
abbrev pub IsObject : Said → Type 0
IsObject TooLong = ⊥
IsObject (Read (Ok says)) = Unit {0}
IsObject (Read (Err why)) = is_object why ≡ true

-- the reply shows that the line was read, and is a JSON object
abbrev pub is_known : Reply → Bool
is_known (reply.Refused why) = is_object why
is_known reply.Long = false
is_known reply.Memory = false
is_known _ = true

-- the first of these lines is a JSON object
abbrev pub IsGreeted : ℕ → List (List ℕ) → Type 0
IsGreeted chunk [] = ⊥
IsGreeted chunk (line ∷ lines) = IsObject (said chunk line)

-- a second line is taken only after a first one that is a JSON object
abbrev pub AreOfClient : ℕ → List (List ℕ) → Type 0
AreOfClient chunk [] = Unit {0}
AreOfClient chunk (line ∷ []) = Unit {0}
AreOfClient chunk (line ∷ (next ∷ lines)) = IsObject (said chunk line)

-- ---- between two lines

-- by whom it met: no line was answered yet; or only a first one; or the first one is a JSON object
abbrev pub HasMet : ℕ → Met → List (List ℕ) → Type 0
HasMet chunk met.Nobody lines = lines ≡ []
HasMet chunk met.Stranger lines = (line : List ℕ) × (lines ≡ line ∷ [])
HasMet chunk met.Client lines = IsGreeted chunk lines

-- another line may be answered
abbrev pub MayGoOn : Met → Type 0
MayGoOn met.Nobody = Unit {0}
MayGoOn met.Stranger = ⊥
MayGoOn met.Client = Unit {0}

-- the next line is the first one
abbrev pub is_nobody : Met → Bool
is_nobody met.Nobody = true
is_nobody met.Stranger = false
is_nobody met.Client = false

-- a line is being answered: if it is the first one, it may be a stranger's
abbrev pub met_at_line : Met → Met
met_at_line met.Nobody = met.Stranger
met_at_line met.Stranger = met.Stranger
met_at_line met.Client = met.Client

-- whether it stops after a line: only if it is strict, and the line is the first one, and is not known to be a JSON object
abbrev pub stop_after : Bool → Bool → Bool → Option Stop
stop_after strict first known = if strict && (first && not known) then Some stop.Stranger else None
