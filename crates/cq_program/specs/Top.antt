-- What the top call does, by its status.
use Rattle.std.specs.Prelude.{◌≡◌, ◌≢◌, ◌⊎◌, ◌==◌, ℕ, ◌+◌, Bool, true, false, MatchBool, List, [], map, Option, Some, None, Result}
use Rattle.cq_base.specs.declared.settings.Settings.{Settings}
use Rattle.cq_beside.specs.Replies.{AreWithWorkers}
use Rattle.cq_drive.specs.Script.{IsScript}
use Rattle.cq_export.specs.Exports.{Exports}
use Rattle.cq_export.specs.declared.exporting.Exported.{Exported}
use Rattle.cq_history.specs.declared.event.Event.{Event}
use Rattle.cq_history.specs.Lawful.{Lawful}
use Rattle.cq_io.specs.Causes.{HasCause}
use Rattle.cq_io.specs.declared.sink.Sink as sink
use Rattle.cq_io.specs.declared.source.Failed.{Failed}
use Rattle.cq_io.specs.declared.source.Source as source
use Rattle.cq_tokask.specs.Kept.{Asks, TakesNoLine}
use Rattle.cq_tokask.specs.declared.kept.Asked.{Asked}
use Rattle.cq_lines.specs.Serving.{Serves, HasEndCause}
use Rattle.cq_lines.specs.declared.ending.End.{End}
use Rattle.cq_listen.specs.declared.listening.Served.{Served}
use Rattle.cq_make.specs.Made.{Makes}
use Rattle.cq_drive.specs.Outcomes.{line_of as outcome_line}
use Rattle.cq_reply.specs.Written.{line_of as reply_line}
use Rattle.cq_reply.specs.declared.reply.Reply.{Reply}
use Rattle.cq_session.specs.Costs.{counted}
use Rattle.cq_session.specs.Turn.{CountedTalk}
use Rattle.cq_talk.specs.Alone.{IsAloneUpToMemory, no_walk}
use Rattle.cq_talk.specs.Beside.{IsBeside, nothing_known}
use Rattle.cq_talk.specs.Said.{said}
use Rattle.cq_words.specs.Command.{command_of, connections_of, default_settings}
use Rattle.cq_words.specs.declared.command.Command.{Command}
use Rattle.cq_words.specs.declared.command.Command.TheVariants as command
use Rattle.cq_words.specs.declared.command.Export.{Export}
use Rattle.cq_words.specs.declared.command.Listen.{Listen}
use Rattle.cq_words.specs.declared.command.Make.{Make}
use Rattle.cq_words.specs.declared.command.Run.{Run}
use Rattle.cq_io.specs.Causes.{Rose}
use Rattle.cq_log.specs.Reads.{ReadsMost, ReadsNone}
use Rattle.cq_serve_kept.specs.Continued.{ContinuesBroken, ContinuesWhole, TookLog}
use Rattle.cq_shorten.specs.Shortened.{Shortens}
use Rattle.cq_shorten.specs.declared.shortening.Shortened.{Shortened}
use Rattle.cq_program.specs.Statuses.{Ends, HasListened, HasServed, end_of, status_of, status_of_asked, status_of_exported, status_of_shortened}
use Rattle.cq_program.specs.declared.status.Status.{Status}
use Rattle.cq_program.specs.declared.status.Status.TheVariants as ended

-- memory may be refused after bytes were taken
abbrev pub takes_first : Option Command → Bool
takes_first (Some (command.Export export)) = true
takes_first (Some (command.Ask settings)) = true
takes_first (Some (command.Serve serve)) = true
takes_first (Some (command.Shorten settings)) = true
takes_first _ = false

-- One reply for each line, from nothing on, by a server to which nobody else speaks: by a lawful history of only its own events,
-- where so many tokens were read before and now, and an index was asked so often; up to the first that reports out of memory,
-- those of a server without workers; and throughout, those that a server may give beside which works are made.
pub record AreAlone (settings : Settings) (reads reads_now : ℕ) (lines : List (List ℕ)) (replies : List Reply) : Type 0 where
  pub after : List Event
  pub asked : ℕ
  pub lawful : Lawful settings 1 after
  pub talk : CountedTalk settings 1 (Unit {0}) 0 [] (counted reads reads_now 0 asked) after lines replies
  pub alone : IsAloneUpToMemory settings no_walk (map (said settings.chunk) lines) replies
  pub beside : IsBeside settings nothing_known (map (said settings.chunk) lines) replies

-- a whole session, which begins with nothing accepted, and whose end gives the status
pub record IsSession (settings : Settings) (reads reads_now : ℕ) (rest rest_now before written_now : Option (List ℕ)) (source source_now sink sink_now : ℕ) (status : Status) : Type 0 where
  pub by : End
  pub status_is : status ≡ status_of by
  pub serves : Serves reply_line (AreAlone settings reads reads_now) settings.byte_limit rest rest_now before written_now by
  pub cause : HasEndCause source source_now sink sink_now by

-- the same with so many workers beside it, each a caller of the history: the replies are those that a server may give beside
-- which works are made
pub record IsSessionBeside (settings : Settings) (workers reads reads_now : ℕ) (rest rest_now before written_now : Option (List ℕ)) (source source_now sink sink_now : ℕ) (status : Status) : Type 0 where
  pub by : End
  pub status_is : status ≡ status_of by
  pub serves : Serves reply_line (AreWithWorkers settings (workers + 2) workers reads reads_now) settings.byte_limit rest rest_now before written_now by
  pub cause : HasEndCause source source_now sink sink_now by

-- a whole script, stepped from nothing accepted on, whose end gives the status
pub record IsDrive (settings : Settings) (rest rest_now before written_now : Option (List ℕ)) (source source_now sink sink_now : ℕ) (status : Status) : Type 0 where
  pub by : End
  pub status_is : status ≡ status_of by
  pub serves : Serves outcome_line (IsScript settings) settings.byte_limit rest rest_now before written_now by
  pub cause : HasEndCause source source_now sink sink_now by

-- the line of a made project is written, and how that ended gives the status
pub record IsMade (number files : ℕ) (before written_now : Option (List ℕ)) (sink sink_now : ℕ) (status : Status) : Type 0 where
  pub by : Result (Unit {0}) Failed
  pub status_is : status ≡ status_of (end_of by)
  pub makes : Makes default_settings number files before written_now by
  pub cause : HasCause sink sink_now by

-- ---- from a source to a sink

module _ {S K : Type 0} (from : source.Ghosts S) (onto : sink.Ghosts K) where
  -- unless memory was refused, the status is that of a whole session
  abbrev pub Runs : Settings → ℕ → ℕ → S → S → K → K → Status → Type 0
  Runs settings reads reads_now read read_now written written_now status =
      status ≢ ended.Memory → IsSession settings reads reads_now (from.rest read) (from.rest read_now) (onto.written written) (onto.written written_now) (from.faults read) (from.faults read_now) (onto.faults written) (onto.faults written_now) status

  -- or of one with so many workers beside it
  abbrev pub RunsBeside : Run → ℕ → ℕ → S → S → K → K → Status → Type 0
  RunsBeside asked reads reads_now read read_now written written_now status =
      status ≢ ended.Memory → IsSessionBeside asked.settings asked.workers reads reads_now (from.rest read) (from.rest read_now) (onto.written written) (onto.written written_now) (from.faults read) (from.faults read_now) (onto.faults written) (onto.faults written_now) status

  -- a session without workers if none is asked for, and else one with workers beside it
  abbrev pub RunsAsked : Run → ℕ → ℕ → S → S → K → K → Status → Type 0
  RunsAsked asked reads reads_now read read_now written written_now status =
      MatchBool (asked.workers == 0)
      (Runs asked.settings reads reads_now read read_now written written_now status)
      (RunsBeside asked reads reads_now read read_now written written_now status)

  -- unless memory was refused, the status is that of a whole script
  abbrev pub Drives : Settings → S → S → K → K → Status → Type 0
  Drives settings read read_now written written_now status =
      status ≢ ended.Memory → IsDrive settings (from.rest read) (from.rest read_now) (onto.written written) (onto.written written_now) (from.faults read) (from.faults read_now) (onto.faults written) (onto.faults written_now) status

  -- if the arguments ask for one
  abbrev pub RunsFor : List (List ℕ) → ℕ → ℕ → S → S → K → K → Status → Type 0
  RunsFor words reads reads_now read read_now written written_now status =
      (asked : Run) → command_of words ≡ Some (command.Run asked) → RunsAsked asked reads reads_now read read_now written written_now status

  abbrev pub DrivesFor : List (List ℕ) → S → S → K → K → Status → Type 0
  DrivesFor words read read_now written written_now status = (settings : Settings) → command_of words ≡ Some (command.Drive settings) → Drives settings read read_now written written_now status

module _ {K : Type 0} (onto : sink.Ghosts K) where
  -- unless memory was refused, the status is that of the line of a made project
  abbrev pub MakesLine : Make → K → K → Status → Type 0
  MakesLine asked written written_now status = status ≢ ended.Memory → IsMade asked.number asked.files (onto.written written) (onto.written written_now) (onto.faults written) (onto.faults written_now) status

  -- if the arguments ask for it
  abbrev pub MakesFor : List (List ℕ) → K → K → Status → Type 0
  MakesFor words written written_now status = (asked : Make) → command_of words ≡ Some (command.Make asked) → MakesLine asked written written_now status

module _ (L : Type 0) {S K : Type 0} (from : source.Ghosts S) (onto : sink.Ghosts K) where
  -- the version of the token file that the source begins with is asked by all lines after it, and how that ended gives
  -- the status
  pub record IsAsk (settings : Settings) (read read_now : S) (written written_now : K) (status : Status) : Type 0 where
    pub by : Asked
    pub status_is : status ≡ status_of_asked by
    pub asks : Asks L from onto settings read read_now written written_now by

  -- unless memory was refused, the status is that of one
  abbrev pub AsksFile : Settings → S → S → K → K → Status → Type 0
  AsksFile settings read read_now written written_now status = status ≢ ended.Memory → IsAsk settings read read_now written written_now status

  -- if the arguments ask for one
  abbrev pub AsksFor : List (List ℕ) → S → S → K → K → Status → Type 0
  AsksFor words read read_now written written_now status = (settings : Settings) → command_of words ≡ Some (command.Ask settings) → AsksFile settings read read_now written written_now status

  -- if memory was refused, no line after a token file of the settings was taken
  abbrev pub TakesNoLineFor : List (List ℕ) → S → S → Status → Type 0
  TakesNoLineFor words read read_now status = (settings : Settings) → command_of words ≡ Some (command.Ask settings) → status ≡ ended.Memory → TakesNoLine L from settings read read_now

  -- the changes that the lines say were taken, and the file of their version written, and how that ended gives the status
  pub record IsExport (asked : Export) (read read_now : S) (written written_now : K) (status : Status) : Type 0 where
    pub by : Exported
    pub status_is : status ≡ status_of_exported by
    pub exports : Exports L from onto asked.settings asked.project read read_now written written_now by

  -- unless memory was refused, the status is that of one
  abbrev pub ExportsFile : Export → S → S → K → K → Status → Type 0
  ExportsFile asked read read_now written written_now status = status ≢ ended.Memory → IsExport asked read read_now written written_now status

  -- if the arguments ask for it
  abbrev pub ExportsFor : List (List ℕ) → S → S → K → K → Status → Type 0
  ExportsFor words read read_now written written_now status = (asked : Export) → command_of words ≡ Some (command.Export asked) → ExportsFile asked read read_now written written_now status

module _ {S K : Type 0} (from : source.Ghosts S) (onto : sink.Ghosts K) where
  -- A log was taken, and continued by the lines of the changes that were accepted then; or nothing was written. A line is
  -- refused only if a log may not have it there.
  abbrev pub Logs : Settings → S → S → K → K → Status → Type 0
  Logs set read read_now written written_now ended.Done = TookLog from onto set read read_now written written_now (λ mended before. ContinuesWhole onto set mended before written written_now)
  Logs set read read_now written written_now ended.DoorsFault = TookLog from onto set read read_now written written_now (λ mended before. ContinuesWhole onto set mended before written written_now ⊎ (written_now ≡ written))
  Logs set read read_now written written_now ended.WriteFault = TookLog from onto set read read_now written written_now (λ mended before. ContinuesBroken onto set mended before written written_now)
  Logs set read read_now written written_now ended.ReadFault = (written_now ≡ written) × Rose (from.faults read) (from.faults read_now)
  Logs set read read_now written written_now ended.LineRefused = ReadsNone from set read read_now × (written_now ≡ written)
  Logs set read read_now written written_now ended.Spent = ReadsMost from set read read_now × (written_now ≡ written)
  Logs set read read_now written written_now ended.Memory = Unit {0}
  Logs set read read_now written written_now _ = ⊥

  -- if the arguments ask for it
  abbrev pub LogsFor : List (List ℕ) → S → S → K → K → Status → Type 0
  LogsFor words read read_now written written_now status = (asked : Listen) → command_of words ≡ Some (command.Serve asked) → Logs asked.settings read read_now written written_now status

  -- a log was shortened, unless memory is refused
  abbrev pub ShortensLog : Settings → S → S → K → K → Status → Type 0
  ShortensLog set read read_now written written_now status = status ≢ ended.Memory → (by : Shortened) × (status ≡ status_of_shortened by) × Shortens from onto set read read_now written written_now by

  abbrev pub ShortensFor : List (List ℕ) → S → S → K → K → Status → Type 0
  ShortensFor words read read_now written written_now status = (settings : Settings) → command_of words ≡ Some (command.Shorten settings) → ShortensLog settings read read_now written written_now status

  -- if the arguments ask for a command other than `listen` and `serve`
  abbrev pub EndsFor : List (List ℕ) → Status → S → S → K → K → Type 0
  EndsFor words status read read_now written written_now = command_of words ≢ None → connections_of words ≡ None → Ends from onto status read read_now written written_now

-- ---- connections

-- if the arguments ask for it
abbrev pub ListensFor : List (List ℕ) → Option (List ℕ) → Option ℕ → Option ℕ → ℕ → ℕ → Status → Type 0
ListensFor words bound_now left left_now doors doors_now status = (asked : Listen) → command_of words ≡ Some (command.Listen asked) → HasListened asked.address bound_now left left_now doors doors_now status

abbrev pub ServesFor : List (List ℕ) → Option (List ℕ) → Option (List ℕ) → Status → Option Served → Type 0
ServesFor words bound bound_now status served = (asked : Listen) → command_of words ≡ Some (command.Listen asked) → HasServed asked bound bound_now status served
