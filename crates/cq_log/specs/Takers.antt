-- Who takes the changes of a log, and what was taken of a source.
use Rattle.std.specs.Prelude.{◌≡◌, ◌<◌, ◌≤◌, ℕ, Bool, true, false, List, [], ◌∷◌, ◌++◌, length, Option, Some, None, Result, Ok, Err}
use Rattle.std.specs.Io.KnownBytes.{Consumes, IsAtEnd}
use Rattle.cq_base.specs.Changes.{IsSoundChange}
use Rattle.cq_base.specs.declared.change.Change.{Change}
use Rattle.cq_base.specs.declared.settings.Settings.{Settings}
use Rattle.cq_io.specs.Causes.{Rose}
use Rattle.cq_lines.specs.Held.{Held}
use Rattle.cq_lines.specs.Pieces.{all_lines, closed_lines}
use Rattle.cq_lines.specs.Runs.{CutTo, AreWhole}
use Rattle.cq_log.specs.Logs.{held_in, front_of, is_accepted, is_torn}
use Rattle.cq_log.specs.Mending.{is_unclosed}
use Rattle.cq_log.specs.declared.reading.LogLine.{LogLine}
use Rattle.cq_log.specs.declared.reading.LogLine.TheVariants as said_by
use Rattle.cq_log.specs.declared.taking.Taken.{Taken}
use Rattle.cq_log.specs.declared.taking.Taken.TheVariants as taken
use Rattle.cq_base.specs.declared.refusal.Refusal.{Refusal}
use Rattle.cq_request.specs.declared.request.Request.{Request}
use Rattle.cq_request.specs.declared.request.Request.TheVariants as request

-- `Has`: under these settings it has taken just these changes, each by the line beside it, in this order
module _ {T : Type 0} (Has : T → Settings → List (List ℕ) → List Change → Type 0) where
  -- after whatever it had taken, it has taken the change too, which is accepted; or the change is not accepted
  abbrev pub TakesAfter : T → Settings → List (List ℕ) → List Change → List ℕ → Change → Bool → Type 0
  TakesAfter new set lines changes line change true = (is_accepted set changes change ≡ true) × Has new set (lines ++ line ∷ []) (changes ++ change ∷ [])
  TakesAfter new set lines changes line change false = is_accepted set changes change ≡ false

  abbrev pub TakesOne : Settings → T → T → List ℕ → Change → Bool → Type 0
  TakesOne set old new line change result = (lines : List (List ℕ)) (changes : List Change) → Has old set lines changes → TakesAfter new set lines changes line change result

  -- what it has taken is what these lines hold, each change by its line
  pub record HasHeld (set : Settings) (lines : List (List ℕ)) (torn : Bool) (t : T) : Type 0 where
    pub own : List (List ℕ)
    pub changes : List Change
    pub held : held_in set lines ≡ Some (front_of own changes torn)
    pub has : Has t set own changes

  -- after a line: what the lines before it hold goes on in what is said of it
  abbrev pub TakesLineAfter : Settings → List (List ℕ) → List ℕ → T → Option Bool → Type 0
  TakesLineAfter set lines line new (Some torn) = HasHeld set (lines ++ line ∷ []) torn new
  TakesLineAfter set lines line new None = held_in set (lines ++ line ∷ []) ≡ None

  abbrev pub TakesLine : Settings → Bool → List ℕ → T → T → Option Bool → Type 0
  TakesLine set torn line old new result = (lines : List (List ℕ)) → HasHeld set lines torn old → TakesLineAfter set lines line new result

  module _ (set : Settings) (rest rest_now : Option (List ℕ)) (t : T) where
    -- all of the source: it has what the lines hold, and these are the marks of its end
    pub record TakesAll (unclosed torn : Bool) : Type 0 where
      pub got : List ℕ
      pub bytes : Consumes rest rest_now got
      pub at_end : IsAtEnd rest_now
      pub fewer : length got < set.byte_limit
      pub has : HasHeld set (all_lines got) torn t
      pub unclosed_is : unclosed ≡ is_unclosed got

    -- some of it: it has what the lines hold that a line feed closes
    pub record TakesClosed : Type 0 where
      pub got : List ℕ
      pub bytes : Consumes rest rest_now got
      pub torn : Bool
      pub has : HasHeld set (closed_lines got) torn t

    -- the limit on the bytes was reached
    abbrev pub TakesMost : Type 0
    TakesMost = (closed : TakesClosed) × (length closed.got ≡ set.byte_limit)

    -- the lines up to one, which is whole as they are, hold nothing: that one is refused
    pub record TakesRefused : Type 0 where
      pub got : List ℕ
      pub bytes : Consumes rest rest_now got
      pub within : length got ≤ set.byte_limit
      pub lines : List (List ℕ)
      pub whole : AreWhole set.byte_limit rest_now got lines
      pub refused : held_in set lines ≡ None

  -- by how it ended
  abbrev pub Takes : Settings → Option (List ℕ) → Option (List ℕ) → T → Taken → Type 0
  Takes set rest rest_now t (taken.All unclosed torn) = TakesAll set rest rest_now t unclosed torn
  Takes set rest rest_now t taken.Spent = TakesMost set rest rest_now t
  Takes set rest rest_now t taken.Failed = TakesClosed set rest rest_now t
  Takes set rest rest_now t taken.Refused = TakesRefused set rest rest_now t

  -- between two lines
  pub record TakenSoFar (set : Settings) (rest rest_now : Option (List ℕ)) (held : Held) (torn : Bool) (t : T) : Type 0 where
    pub lines : List (List ℕ)
    pub cut : CutTo set.byte_limit rest rest_now held lines
    pub has : HasHeld set lines torn t

-- the source's count of faults
abbrev pub HasCauseOfTaking : ℕ → ℕ → Taken → Type 0
HasCauseOfTaking faults faults_now (taken.All unclosed torn) = faults_now ≡ faults
HasCauseOfTaking faults faults_now taken.Spent = faults_now ≡ faults
HasCauseOfTaking faults faults_now taken.Failed = Rose faults faults_now
HasCauseOfTaking faults faults_now taken.Refused = faults_now ≡ faults

-- ---- for private clauses

-- after a line that was cut off, whether this one mends it
abbrev pub mended_by : List ℕ → Option Bool
mended_by [] = Some false
mended_by (b ∷ line) = None

-- no change, and no line that was cut off
abbrev pub IsOther : Result Request Refusal → Type 0
IsOther (Ok (request.Change change)) = ⊥
IsOther (Ok (request.Query query)) = Unit {0}
IsOther (Ok request.State) = Unit {0}
IsOther (Err why) = is_torn why ≡ false

-- it was cut off
abbrev pub IsCutOff : Result Request Refusal → Type 0
IsCutOff (Ok request) = ⊥
IsCutOff (Err why) = is_torn why ≡ true

-- the change of a line is sound
abbrev pub IsSoundLine : LogLine → Type 0
IsSoundLine (said_by.Change change) = IsSoundChange change
IsSoundLine said_by.Torn = Unit {0}
IsSoundLine said_by.Other = Unit {0}

-- what a line of a log is
abbrev pub IsLogLine : Result Request Refusal → LogLine → Type 0
IsLogLine says (said_by.Change change) = says ≡ Ok (request.Change change)
IsLogLine says said_by.Torn = IsCutOff says
IsLogLine says said_by.Other = IsOther says
