-- The reply to a query at a version: by the changes up to it, and by nothing that a server keeps.
use Rattle.std.specs.Prelude.{◌≡◌, ℕ, Bool, List, map}
use Rattle.cq_base.specs.declared.settings.Settings.{Settings}
use Rattle.cq_base.specs.declared.change.Change.{Change}
use Rattle.cq_base.specs.declared.change.Condition.{Condition}
use Rattle.cq_base.specs.declared.group.Group.{Group}
use Rattle.cq_measures.specs.Verdict.{verdict_of}
use Rattle.cq_history.specs.Files.{conditions_at}
use Rattle.cq_reply.specs.declared.reply.Reply.{Reply}
use Rattle.cq_reply.specs.declared.reply.Reply.TheVariants as reply
use Rattle.cq_request.specs.declared.request.Kind.{Kind}
use Rattle.cq_request.specs.declared.request.Kind.TheVariants as kind
use Rattle.cq_request.specs.declared.request.Query.{Query}
use Rattle.cq_scope.specs.Chosen.{is_chosen_at}
use Rattle.cq_answer.specs.declared.part.Part.{Part}
use Rattle.cq_answer.specs.Readings.{Reading, AreRead, paths_read, corpus_read}
use Rattle.cq_answer.specs.Parts.{part_of, AreGroupsOf}
use Rattle.cq_answer.specs.Rows.{Facts, facts_read, group_row, measures_of, functions_of, worst_of}

-- by the kind of the query: a row for each file, in path order; the groups, each place with its path and lines; the
-- measures of the chosen files; what the project's conditions say of them; or the functions of a file and which is the worst
abbrev pub reply_of : Facts → List Condition → ℕ → Kind → Part → (ℕ → Bool) → List Group → Reply
reply_of facts conditions version kind.Files p is_chosen groups = reply.Files facts.rows version
reply_of facts conditions version kind.Groups p is_chosen groups = reply.Groups (map (group_row facts) groups) version
reply_of facts conditions version kind.Measures p is_chosen groups = reply.Measures (measures_of facts groups is_chosen p) version
reply_of facts conditions version kind.Verdict p is_chosen groups = reply.Verdict (verdict_of conditions (measures_of facts groups is_chosen p)) version
reply_of facts conditions version kind.Functions p is_chosen groups = reply.Functions (functions_of facts p) version (worst_of (functions_of facts p))

-- the part of the project that the query lists
abbrev pub part_read : List Reading → Query → Part
part_read readings q = part_of (paths_read readings) q.kind q.path

-- whether the query chooses the file at a position: its path fits the scope, or there is none, and a change above `since`
-- put it
abbrev pub chosen_read : List Reading → Query → ℕ → Bool
chosen_read readings q = is_chosen_at q.scope q.since (map (λ (r : Reading). r.file) readings)

-- the reply shows the project's files at the version, or what their groups of at least `min` tokens give
pub record IsReply (set : Settings) (changes : List Change) (version : ℕ) (q : Query) (reply : Reply) : Type 0 where
  pub readings : List Reading
  pub are_read : AreRead changes version q.project readings
  pub groups : List Group
  pub are_groups : AreGroupsOf (corpus_read set readings) q.min (part_read readings q) groups
  pub reply_is : reply ≡ reply_of (facts_read readings) (conditions_at changes version q.project) version q.kind (part_read readings q) (chosen_read readings q) groups
