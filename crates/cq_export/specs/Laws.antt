-- That a version that was written answers as a session does.
use Rattle.std.specs.Prelude.{◌≡◌, ◌≢◌, ◌≤◌, ℕ, true, List, ◌++◌, length, map, drop, Ok}
use Rattle.std.specs.List.{AllByRecursion}
use Rattle.cq_base.specs.declared.change.Change.{Change}
use Rattle.cq_base.specs.declared.settings.Settings.{Settings}
use Rattle.cq_export.specs.Lines.{SayChanges, AreAccepted}
use Rattle.cq_reply.specs.declared.reply.Reply.{Reply}
use Rattle.cq_reply.specs.declared.reply.Reply.TheVariants as reply
use Rattle.cq_request.specs.declared.request.Query.{Query}
use Rattle.cq_request.specs.declared.request.Request.TheVariants as request
use Rattle.cq_talk.specs.Alone.{IsAloneUpToMemory, no_walk}
use Rattle.cq_talk.specs.Said.{Read, said}
use Rattle.cq_tokask.specs.Asked.{AnswersLines}
use Rattle.cq_tokask.specs.Exported.{IsOfChanges}
use Rattle.cq_tokfile.specs.Snapshot.{IsTokenFile}
use Rattle.cq_tokfile.specs.declared.snapshot.Snapshot.{Snapshot}

-- the line is a query on the project, which asks for no later version and may finish works
pub record IsQuestion (chunk : ℕ) (project : List ℕ) (count : ℕ) (line : List ℕ) : Type 0 where
  pub query : Query
  pub says : said chunk line ≡ Read (Ok (request.Query query))
  pub project_is : query.project ≡ project
  pub now : query.at ≤ count
  pub finishes : query.finish ≡ true

-- no reply reports out of memory
abbrev pub AreTold : List Reply → Type 0
AreTold replies = AllByRecursion (λ (r : Reply). r ≢ reply.Memory) replies

-- what is asked of the token file of the version that some lines make has the replies that a session gives after these
-- lines
abbrev pub AsksAsASession : Type 0 → Type 0
AsksAsASession L = (set : Settings) (changes : List Change) (project : List ℕ) (written read : Snapshot L) (file : List ℕ) (lines questions : List (List ℕ)) (asked served : List Reply)
    → SayChanges set.chunk lines changes → AreAccepted set changes → IsOfChanges set changes project written → IsTokenFile set written file → IsTokenFile set read file
    → AllByRecursion (IsQuestion set.chunk project (length changes)) questions
    → AnswersLines read set questions asked → IsAloneUpToMemory set no_walk (map (said set.chunk) (lines ++ questions)) served
    → AreTold asked → AreTold served → asked ≡ drop (length lines) served
