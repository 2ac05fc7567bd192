-- The lines of a source as changes, each accepted after those before it.
use Rattle.std.specs.Prelude.{All, ◌≡◌, ◌<◌, ◌≤◌, ℕ, Bool, true, false, List, ◌∷◌, [], ◌++◌, length, map, Option, Some, None, IsSome, Result, Ok, Err}
use Rattle.std.specs.Io.KnownBytes.{Consumes, IsAtEnd}
use Rattle.std.specs.List.{AllZip}
use Rattle.cq_base.specs.declared.change.Change.{Change}
use Rattle.cq_base.specs.declared.settings.Settings.{Settings}
use Rattle.cq_board.specs.Stands.{BoardState, StandsFor}
use Rattle.cq_export.specs.declared.taking.Taken.{Taken}
use Rattle.cq_export.specs.declared.taking.Taken.TheVariants as taken
use Rattle.cq_history.specs.declared.event.Event.{Event}
use Rattle.cq_history.specs.declared.event.Event.TheVariants.{Accept}
use Rattle.cq_io.specs.Causes.{Rose}
use Rattle.cq_lines.specs.Held.{Held}
use Rattle.cq_lines.specs.Pieces.{closed_lines, all_lines}
use Rattle.cq_lines.specs.Runs.{CutTo, AreWhole}
use Rattle.cq_request.specs.Named.{IsNamed}
use Rattle.cq_base.specs.declared.refusal.Refusal.{Refusal}
use Rattle.cq_request.specs.declared.request.Request.{Request}
use Rattle.cq_request.specs.declared.request.Request.TheVariants as request
use Rattle.cq_talk.specs.Causes.{cause}
use Rattle.cq_talk.specs.Said.{Said, TooLong, Read, said}

-- the line says this change
abbrev pub Says : ℕ → List ℕ → Change → Type 0
Says chunk line change = said chunk line ≡ Read (Ok (request.Change change))

-- each line says the change at its place
abbrev pub SayChanges : ℕ → List (List ℕ) → List Change → Type 0
SayChanges chunk lines changes = AllZip (Says chunk) lines changes

-- after these changes, of which no floor forgets any, there is no cause against the first, nor against any other after it
-- and those before
abbrev pub AreAcceptedBehind : Settings → List Change → List Change → Type 0
AreAcceptedBehind set before [] = Unit {0}
AreAcceptedBehind set before (change ∷ changes) = (cause set before 0 change ≡ None) × AreAcceptedBehind set (before ++ change ∷ []) changes

-- each is accepted after those before it, if nothing was accepted before
abbrev pub AreAccepted : Settings → List Change → Type 0
AreAccepted set changes = AreAcceptedBehind set [] changes

-- it is too long, refused, no change, or one that there is a cause against after these
abbrev pub IsRefused : Settings → List Change → Said → Type 0
IsRefused set changes TooLong = Unit {0}
IsRefused set changes (Read (Ok (request.Change change))) = IsSome (cause set changes 0 change)
IsRefused set changes (Read (Ok (request.Query query))) = Unit {0}
IsRefused set changes (Read (Ok request.State)) = Unit {0}
IsRefused set changes (Read (Err why)) = Unit {0}

-- ---- what was taken of a source

module _ (set : Settings) (rest rest_now : Option (List ℕ)) (changes : List Change) where
  -- all of it: its lines say these changes, and each of them was accepted
  pub record TakesAll : Type 0 where
    pub got : List ℕ
    pub bytes : Consumes rest rest_now got
    pub at_end : IsAtEnd rest_now
    pub fewer : length got < set.byte_limit
    pub say : SayChanges set.chunk (all_lines got) changes
    pub accepted : AreAccepted set changes

  -- some of it: the lines that a line feed closes say these changes, and each of them was accepted
  pub record TakesClosed : Type 0 where
    pub got : List ℕ
    pub bytes : Consumes rest rest_now got
    pub say : SayChanges set.chunk (closed_lines got) changes
    pub accepted : AreAccepted set changes

  -- the limit on the bytes was reached
  abbrev pub TakesMost : Type 0
  TakesMost = (closed : TakesClosed) × (length closed.got ≡ set.byte_limit)

  -- the lines up to one say these changes, each of them was accepted, and that one is no change that is accepted; it is whole, as
  -- they are
  pub record TakesRefused : Type 0 where
    pub got : List ℕ
    pub bytes : Consumes rest rest_now got
    pub within : length got ≤ set.byte_limit
    pub lines : List (List ℕ)
    pub line : List ℕ
    pub whole : AreWhole set.byte_limit rest_now got (lines ++ line ∷ [])
    pub say : SayChanges set.chunk lines changes
    pub accepted : AreAccepted set changes
    pub refused : IsRefused set changes (said set.chunk line)

-- ---- for private clauses

-- a request that is no change, or a refusal
abbrev pub IsNoChange : Result Request Refusal → Type 0
IsNoChange (Ok (request.Change change)) = ⊥
IsNoChange (Ok (request.Query query)) = Unit {0}
IsNoChange (Ok request.State) = Unit {0}
IsNoChange (Err why) = Unit {0}

abbrev pub SaysOrNot : Result Request Refusal → Option Change → Type 0
SaysOrNot says (Some change) = says ≡ Ok (request.Change change)
SaysOrNot says None = IsNoChange says

-- one caller's changes, and nothing else
abbrev pub accepts : List Change → List Event
accepts changes = map (λ (change : Change). Accept 0 change) changes

-- the board of one caller which has accepted these, each said by a line, and nothing else happened
pub record HasAccepted (set : Settings) (changes : List Change) (b : BoardState) : Type 0 where
  pub stands : StandsFor (accepts changes) b
  pub settings_are : b.settings ≡ set
  pub one_caller : length b.state.views ≡ 1
  pub accepted : AreAccepted set changes
  pub named : All IsNamed changes

-- after these changes, the line's was accepted, or the line is refused
abbrev pub TakesBehind : Settings → List Change → List ℕ → BoardState → Bool → Type 0
TakesBehind set changes line new true = (change : Change) × Says set.chunk line change × HasAccepted set (changes ++ change ∷ []) new
TakesBehind set changes line new false = IsRefused set changes (said set.chunk line)

abbrev pub TakesLine : Settings → List ℕ → BoardState → BoardState → Bool → Type 0
TakesLine set line old new result = (changes : List Change) → HasAccepted set changes old → TakesBehind set changes line new result

-- between two lines
pub record TakenSoFar (set : Settings) (rest rest_now : Option (List ℕ)) (held : Held) (b : BoardState) : Type 0 where
  pub lines : List (List ℕ)
  pub changes : List Change
  pub cut : CutTo set.byte_limit rest rest_now held lines
  pub say : SayChanges set.chunk lines changes
  pub accepted : HasAccepted set changes b

-- by how it ended: if all lines were taken, the board has accepted their changes
abbrev pub Takes : Settings → Option (List ℕ) → Option (List ℕ) → BoardState → Taken → Type 0
Takes set rest rest_now b taken.All = (changes : List Change) × TakesAll set rest rest_now changes × HasAccepted set changes b
Takes set rest rest_now b taken.Spent = (changes : List Change) × TakesMost set rest rest_now changes
Takes set rest rest_now b taken.Failed = (changes : List Change) × TakesClosed set rest rest_now changes
Takes set rest rest_now b taken.Refused = (changes : List Change) × TakesRefused set rest rest_now changes

-- the source's count of faults
abbrev pub HasCauseOfTaking : ℕ → ℕ → Taken → Type 0
HasCauseOfTaking faults faults_now taken.All = faults_now ≡ faults
HasCauseOfTaking faults faults_now taken.Spent = faults_now ≡ faults
HasCauseOfTaking faults faults_now taken.Failed = Rose faults faults_now
HasCauseOfTaking faults faults_now taken.Refused = faults_now ≡ faults
