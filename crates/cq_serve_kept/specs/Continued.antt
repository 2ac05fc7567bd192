-- What a server writes that took a log.
use Rattle.std.specs.Prelude.{◌≡◌, ℕ, Bool, true, false, List, [], ◌++◌, flat_map, Some}
use Rattle.std.specs.Io.KnownBytes.{Appends, Consumes, IsAtEnd}
use Rattle.cq_base.specs.declared.change.Change.{Change}
use Rattle.cq_base.specs.declared.settings.Settings.{Settings}
use Rattle.cq_history.specs.declared.event.Event.{Event}
use Rattle.cq_history.specs.Lawful.{Lawful}
use Rattle.cq_history.specs.State.{accepted}
use Rattle.cq_io.specs.Causes.{Rose}
use Rattle.cq_io.specs.declared.sink.Sink as sink
use Rattle.cq_io.specs.declared.source.Source as source
use Rattle.cq_lines.specs.Pieces.{ended}
use Rattle.cq_log.specs.Laws.{ContinueWith}
use Rattle.cq_log.specs.Logs.{Front, held_by}
use Rattle.cq_log.specs.Mending.{is_unclosed, mending}
use Rattle.cq_log.specs.Reads.{ReadsMost, ReadsNone}
use Rattle.cq_serve_kept.specs.declared.serving.Kept.{Kept}
use Rattle.cq_serve_kept.specs.declared.serving.Kept.TheVariants as kept

module _ {K : Type 0} (onto : sink.Ghosts K) (set : Settings) (mended : List ℕ) (before : List Change) (written written_now : K) where
  -- After these changes further ones were accepted, and all of them are the changes of one history, from the first on. What was
  -- written is a front of what mends the log and of the lines of the further changes.
  pub record Continues : Type 0 where
    pub lines : List (List ℕ)
    pub changes : List Change
    pub continues : ContinueWith set before lines changes
    pub some : List ℕ
    pub more : List ℕ
    pub parts : some ++ more ≡ mended ++ flat_map ended lines
    pub written_is : Appends (onto.written written) (onto.written written_now) some
    pub callers : ℕ
    pub history : List Event
    pub lawful : Lawful set callers history
    pub accepts : accepted history ≡ before ++ changes

  -- all of it was written
  abbrev pub ContinuesWhole : Type 0
  ContinuesWhole = (is : Continues) × (is.more ≡ [])

  -- the sink failed
  abbrev pub ContinuesBroken : Type 0
  ContinuesBroken = Continues × Rose (onto.faults written) (onto.faults written_now)

  -- by whether each line was written whole
  abbrev pub EndsLogged : Bool → Type 0
  EndsLogged true = ContinuesWhole
  EndsLogged false = ContinuesBroken

  -- by how one ended that took these changes
  abbrev pub EndsTaken : Kept → Type 0
  EndsTaken (kept.Served served) = ContinuesWhole
  EndsTaken kept.Broken = ContinuesBroken
  EndsTaken kept.Unbound = written_now ≡ written
  EndsTaken kept.Refused = ⊥
  EndsTaken kept.Spent = ⊥
  EndsTaken kept.ReadFault = ⊥

module _ {S K : Type 0} (from : source.Ghosts S) (onto : sink.Ghosts K) (set : Settings) (read read_now : S) (written written_now : K) where
  -- the source had a log, up to its end, and this holds of its mending and its changes
  pub record TookLog (Holds : List ℕ → List Change → Type 0) : Type 0 where
    pub got : List ℕ
    pub bytes : Consumes (from.rest read) (from.rest read_now) got
    pub at_end : IsAtEnd (from.rest read_now)
    pub front : Front
    pub held : held_by set got ≡ Some front
    pub holds : Holds (mending (is_unclosed got) front.torn) front.changes

  -- By how it ended: the log was continued; or the sink failed; or nothing was written. If a line was refused, there is one that
  -- a log may not have there.
  abbrev pub EndsKept : Kept → Type 0
  EndsKept (kept.Served served) = TookLog (λ mended before. ContinuesWhole onto set mended before written written_now)
  EndsKept kept.Broken = TookLog (λ mended before. ContinuesBroken onto set mended before written written_now)
  EndsKept kept.Unbound = TookLog (λ mended before. written_now ≡ written)
  EndsKept kept.Refused = ReadsNone from set read read_now × (written_now ≡ written)
  EndsKept kept.Spent = ReadsMost from set read read_now × (written_now ≡ written)
  EndsKept kept.ReadFault = (written_now ≡ written) × Rose (from.faults read) (from.faults read_now)
