-- The core that a script steps, and the core of the history for which it stands.
use Rattle.std.specs.Prelude.{◌≡◌, ◌⊎◌, ℕ, List, length}
use Rattle.std.specs.Arc.{arc_value}
use Rattle.cq_base.specs.declared.settings.Settings.{Settings}
use Rattle.cq_core.specs.Cores.{CoreState, StandsFor}
use Rattle.cq_core.specs.declared.step.Outcome.{Outcome}
use Rattle.cq_core.specs.declared.step.Outcome.TheVariants as core_outcome
use Rattle.cq_core.specs.declared.step.Step.{Step}
use Rattle.cq_core.specs.declared.step.Step.TheVariants as core_step
use Rattle.cq_answer.specs.Refusals.{cause_told}
use Rattle.cq_history.specs.Core as history
use Rattle.cq_io.specs.declared.sink.Sink as sink
use Rattle.cq_io.specs.declared.source.Source as source
use Rattle.cq_lines.specs.Held.{Held}
use Rattle.cq_lines.specs.Serving.{ServesLines}
use Rattle.cq_lines.specs.declared.ending.End.{End}
use Rattle.cq_drive.specs.Outcomes.{line_of, NeedsMemory}
use Rattle.cq_drive.specs.declared.outcome.ScriptOutcome.{ScriptOutcome}
use Rattle.cq_drive.specs.declared.outcome.ScriptOutcome.TheVariants as outcome
use Rattle.cq_reply.specs.declared.reply.Reply.TheVariants as reply
use Rattle.cq_shard.specs.Shard.{HasWindow}
use Rattle.cq_drive.specs.Reading.{step_read}
use Rattle.cq_drive.specs.declared.step.ScriptStep.{ScriptStep}
use Rattle.cq_drive.specs.declared.step.ScriptStep.TheVariants as script
use Rattle.cq_work.specs.Work.{IsWorkOf}
use Rattle.cq_work.specs.declared.work.Work.{Work}
use Rattle.cq_drive.specs.Script.{callers, IsScript, StepComesTo, SaidComesTo, ReadComesTo, ComeTo}

-- the bytes are the outcome's line; for one whose line is made in memory they may tell that memory was refused
abbrev pub IsToldBy : ScriptOutcome → List ℕ → Type 0
IsToldBy o bytes = (bytes ≡ line_of o) ⊎ (NeedsMemory o × (bytes ≡ line_of (outcome.Reply reply.Memory)))

-- the keys of a work
abbrev pub keys_of : {L : Type 0} → Work L → List ℕ
keys_of work = arc_value work.keys

module _ (L : Type 0) (set : Settings) where
  -- over works of texts
  abbrev pub Stands : history.Core → CoreState → Type 0
  Stands k c = StandsFor (HasWindow (keys_of {L = L}) IsWorkOf set) k c

  -- it has these settings and the callers of a script, and there is a core that it stands for
  pub record IsDriven (c : CoreState) : Type 0 where
    pub settings : c.board.settings ≡ set
    pub callers : length c.board.state.views ≡ callers
    pub past : (k : history.Core) × Stands k c

  -- it stands for a core of which this holds
  pub record Leads (new : CoreState) (Holds : history.Core → Type 0) : Type 0 where
    pub after : history.Core
    pub stands : Stands after new
    pub holds : Holds after

  -- for whichever core it stood, it stands for one of which that holds; its settings and callers stay
  pub record Led (old new : CoreState) (Row : history.Core → history.Core → Type 0) : Type 0 where
    pub driven : IsDriven new
    pub leads : (k : history.Core) → Stands k old → Leads new (Row k)

  -- ---- what it comes to

  abbrev pub StepLed : CoreState → CoreState → ScriptStep → ScriptOutcome → Type 0
  StepLed old new step o = Led old new (λ k later. StepComesTo set k step o later)

  -- of a step that leaves the core as it is
  abbrev pub StepTold : CoreState → ScriptStep → ScriptOutcome → Type 0
  StepTold core step o = StepLed core core step o

  abbrev pub SaidLed : CoreState → CoreState → List ℕ → ScriptOutcome → Type 0
  SaidLed old new line o = Led old new (λ k later. SaidComesTo set k (step_read set line) o later)

  -- these are the bytes of the outcome's line
  abbrev pub LineLed : CoreState → CoreState → List ℕ → List ℕ → Type 0
  LineLed old new line bytes = Led old new (λ k later. (o : ScriptOutcome) × ReadComesTo set k line o later × (bytes ≡ line_of o))

  -- it stands for a core to which these lines, with these outcomes, have brought the script from that one
  pub record HasComeTo (from : history.Core) (now : CoreState) (lines : List (List ℕ)) (outcomes : List ScriptOutcome) : Type 0 where
    pub after : history.Core
    pub stands : Stands after now
    pub comes : ComeTo set from lines outcomes after

-- from a source to a sink, what is written are the outcomes of the script of all its lines
abbrev pub Plays : {S K : Type 0} → source.Ghosts S → sink.Ghosts K → Settings → Held → S → S → K → K → End → Type 0
Plays from onto set lines read read_now written written_now by = ServesLines from onto line_of (IsScript set) lines.limit read read_now written written_now by

-- what a step's outcome is to a script
abbrev pub told : Outcome → ScriptOutcome
told core_outcome.Ok = outcome.Done
told (core_outcome.Value n) = outcome.Value n
told core_outcome.NoJob = outcome.NoJob
told (core_outcome.Refused cause) = outcome.Reply (cause_told cause)
told core_outcome.No = outcome.No

-- the step of a script that a core's step is
abbrev pub script_step : {W : Type 0} → Step W → ScriptStep
script_step (core_step.Accept by change) = script.Accept by change
script_step (core_step.Ask by) = script.Ask by
script_step (core_step.Took by) = script.Took by
script_step (core_step.Back by change) = script.Back by change
script_step (core_step.Done by change work) = script.Done by change
script_step (core_step.Apply shard) = script.Apply shard
script_step (core_step.Publish version) = script.Publish version
script_step (core_step.Open by) = script.Open by
script_step (core_step.Shut by) = script.Shut by
script_step (core_step.Floor version) = script.Floor version
script_step (core_step.Sweep shard) = script.Sweep shard
