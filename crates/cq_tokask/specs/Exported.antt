-- Of which changes a snapshot is the version, and that it answers as they do.
use Rattle.std.specs.Prelude.{◌≡◌, ◌≤◌, ℕ, List, length}
use Rattle.cq_answer.specs.Reply.{IsReply}
use Rattle.cq_answer.specs.Versions.{AreOfVersion}
use Rattle.cq_base.specs.declared.change.Change.{Change}
use Rattle.cq_base.specs.declared.settings.Settings.{Settings}
use Rattle.cq_tokask.specs.Asked.{AnswersQuery}
use Rattle.cq_reply.specs.declared.reply.Reply.{Reply}
use Rattle.cq_request.specs.declared.request.Query.{Query}
use Rattle.cq_tokfile.specs.declared.snapshot.Snapshot.{Snapshot}

-- it is the version of all these changes of a project: its number, its files with the works of their texts, its conditions
pub record IsOfChanges {L : Type 0} (set : Settings) (changes : List Change) (project : List ℕ) (s : Snapshot L) : Type 0 where
  pub version_is : s.version ≡ length changes
  pub project_is : s.project ≡ project
  pub are : AreOfVersion set changes (length changes) project s.files s.conditions.items

-- ---- the law

-- what it answers to a query on the project that asks for no later version is the reply by the changes
abbrev pub AnswersAsItsChanges : Type 0 → Type 0
AnswersAsItsChanges L = (set : Settings) (changes : List Change) (project : List ℕ) (s : Snapshot L) (q : Query) (r : Reply)
    → IsOfChanges set changes project s → q.project ≡ project → q.at ≤ length changes → AnswersQuery s q r → IsReply set changes (length changes) q r
