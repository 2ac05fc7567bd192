-- The line that `make` writes.
use Rattle.std.specs.Prelude.{◌≡◌, ℕ, List, [], ◌∷◌, ◌++◌, length, sum_by, None, true, codes}
use Rattle.serde_json.specs.Data.{Data, boolean, object, no_members, member}
use Rattle.serde_json.specs.Written.{compact_text}
use Rattle.cq_answer.specs.Reply.{IsReply}
use Rattle.cq_base.specs.declared.measures.Measures.{Measures}
use Rattle.cq_base.specs.declared.settings.Settings.{Settings}
use Rattle.cq_history.specs.State.{accepted}
use Rattle.cq_history.specs.declared.event.Event.{Event}
use Rattle.cq_reply.specs.Written.{count, measures_members}
use Rattle.cq_reply.specs.declared.reply.FileRow.{FileRow}
use Rattle.cq_reply.specs.declared.reply.GroupRow.{GroupRow}
use Rattle.cq_reply.specs.declared.reply.Reply.{Reply}
use Rattle.cq_reply.specs.declared.reply.Reply.TheVariants as reply
use Rattle.cq_request.specs.declared.request.Kind.{Kind}
use Rattle.cq_request.specs.declared.request.Kind.TheVariants as kind
use Rattle.cq_request.specs.declared.request.Query.{Query}
use Rattle.cq_make.specs.Generator.{project, puts_to}

-- what is asked of the whole project; a run has at least 50 tokens
abbrev pub question : Kind → Query
question k = record { kind = k; project = project; path = None; min = 50; at = 0; finish = true; scope = None; since = 0 }

abbrev pub token_count : List FileRow → ℕ
token_count rows = sum_by (λ (row : FileRow). row.tokens) rows

abbrev pub summary_data : ℕ → Measures → ℕ → ℕ → Data
summary_data groups measures tokens version =
    object (member (codes "groups") (count groups) (member (codes "measures") (measures_members measures) (member (codes "ok") (boolean true)
    (member (codes "tokens") (count tokens) (member (codes "version") (count version) no_members)))))

abbrev pub summary_line : ℕ → Measures → ℕ → ℕ → List ℕ
summary_line groups measures tokens version = compact_text (summary_data groups measures tokens version) ++ 10 ∷ []

-- The line has the number of the project's groups, its measures, the tokens of its files and its version: what a
-- client is told who puts the files one by one and then asks for groups, measures and files.
pub record IsSummary (set : Settings) (number files : ℕ) (line : List ℕ) : Type 0 where
  pub groups : List GroupRow
  pub groups_are : IsReply set (puts_to number files) files (question kind.Groups) (reply.Groups groups files)
  pub measures : Measures
  pub measures_are : IsReply set (puts_to number files) files (question kind.Measures) (reply.Measures measures files)
  pub rows : List FileRow
  pub rows_are : IsReply set (puts_to number files) files (question kind.Files) (reply.Files rows files)
  pub line_is : line ≡ summary_line (length groups) measures (token_count rows) files

-- nothing was accepted since, and the reply is that to the question at the version of all changes
pub record IsAnsweredByAll (set : Settings) (k : Kind) (h : List Event) (reply : Reply) (after : List Event) : Type 0 where
  pub same : accepted after ≡ accepted h
  pub is : IsReply set (accepted h) (length (accepted h)) (question k) reply
