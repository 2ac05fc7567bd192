-- What `make` writes.
use Rattle.std.specs.Prelude.{◌≡◌, ℕ, List, Option, Result}
use Rattle.cq_base.specs.declared.measures.Measures.{Measures}
use Rattle.cq_base.specs.declared.settings.Settings.{Settings}
use Rattle.cq_history.specs.State.{accepted}
use Rattle.cq_history.specs.declared.event.Event.{Event}
use Rattle.cq_hub.specs.declared.hub.Hub.{Ghosts}
use Rattle.cq_io.specs.Sending.{Sends}
use Rattle.cq_reply.specs.declared.reply.FileRow.{FileRow}
use Rattle.cq_reply.specs.declared.reply.GroupRow.{GroupRow}
use Rattle.cq_reply.specs.declared.reply.Reply.{Reply}
use Rattle.cq_reply.specs.declared.reply.Reply.TheVariants as reply
use Rattle.cq_request.specs.declared.request.Kind.{Kind}
use Rattle.cq_talk.specs.Steps.{Always, Led, MayLead}
use Rattle.cq_make.specs.Generator.{puts_to}
use Rattle.cq_make.specs.Summary.{IsAnsweredByAll, IsSummary}

-- the project's line is sent
pub record Makes {E : Type 0} (set : Settings) (number files : ℕ) (before written_now : Option (List ℕ)) (result : Result (Unit {0}) E) : Type 0 where
  pub line : List ℕ
  pub is_summary : IsSummary set number files line
  pub sends : Sends before written_now line result

-- the reply shows these groups, these measures, or these files
abbrev pub ShowsGroups : Reply → Type 0
ShowsGroups r = (rows : List GroupRow) × (version : ℕ) × (r ≡ reply.Groups rows version)

abbrev pub ShowsMeasures : Reply → Type 0
ShowsMeasures r = (measures : Measures) × (version : ℕ) × (r ≡ reply.Measures measures version)

abbrev pub ShowsFiles : Reply → Type 0
ShowsFiles r = (rows : List FileRow) × (version : ℕ) × (r ≡ reply.Files rows version)

-- over a hub that nobody else calls
module _ {S P : Type 0} (Stands : S → P → ℕ → List Event → Type 0) where
  -- the pass has seen a history in which the project's first files were put, and nothing else
  abbrev pub HasPut : S → P → ℕ → ℕ → Type 0
  HasPut hub pass number files = MayLead Stands 1 hub pass (λ h. accepted h ≡ puts_to number files)

-- from each history for which the pass stood it was brought to one in which the question has this reply by all changes
abbrev pub Answers : {S W P : Type 0} → Ghosts S W P → S → P → P → Settings → Kind → Reply → Type 0
Answers of hub old new set kind reply = Led of.Stands 1 hub old new Always (λ c h. IsAnsweredByAll set kind h reply)
