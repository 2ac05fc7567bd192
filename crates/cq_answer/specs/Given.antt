-- The reply to a query on files that are given with their works, wherever they come from.
use Rattle.std.specs.Prelude.{◌≡◌, ◌↔◌, ◌≤◌, ℕ, Bool, List, [], length, slice_index_or, All}
use Rattle.std.specs.List.{AllByRecursion}
use Rattle.std.specs.Str.{IsUtf8}
use Rattle.cq_base.specs.declared.change.Change.{Change}
use Rattle.cq_base.specs.declared.change.Condition.{Condition}
use Rattle.cq_base.specs.declared.group.Group.{Group}
use Rattle.cq_base.specs.declared.norm.Norm.{Norm}
use Rattle.cq_base.specs.declared.settings.Settings.{Settings}
use Rattle.cq_groups.specs.declared.buckets.Buckets as buckets
use Rattle.cq_history.specs.Files.{File, conditions_at}
use Rattle.cq_measures.specs.Measures.{AreSmall}
use Rattle.cq_reply.specs.declared.reply.Reply.{Reply}
use Rattle.cq_request.specs.declared.request.Query.{Query}
use Rattle.cq_work.specs.declared.work.Work.{Work}
use Rattle.cq_answer.specs.Readings.{Reading, AreRead, corpus_read}
use Rattle.cq_answer.specs.Parts.{part_of, AreGroupsOf, AsksPart, AsksPartAtMost, ReadsPart}
use Rattle.cq_answer.specs.Rows.{Facts, facts_read, AreFewFunctions, AreNamed}
use Rattle.cq_answer.specs.Reply.{IsReply, reply_of, chosen_read}
use Rattle.cq_answer.specs.Versions.{AreListable}
use Rattle.cq_answer.specs.declared.part.Part.{Part}
use Rattle.cq_answer.specs.Works.{paths_in, norms_in, keys_in, spans_in, counts_in, facts_in, chosen_in, AreNumbered}

-- The reply shows these facts of files, or what the groups of their tokens give: those of the part that the query lists,
-- and of measures those of the files that it chooses.
pub record IsReplyBy (facts : Facts) (corpus : List (List Norm)) (conditions : List Condition) (version : ℕ) (q : Query) (is_chosen : ℕ → Bool) (reply : Reply) : Type 0 where
  pub groups : List Group
  pub are_groups : AreGroupsOf corpus q.min (part_of facts.paths q.kind q.path) groups
  pub reply_is : reply ≡ reply_of facts conditions version q.kind (part_of facts.paths q.kind q.path) is_chosen groups

-- the reply on given files with their works, and given conditions
abbrev pub IsReplyOf : {L : Type 0} → List (File (Work L)) → List Condition → Query → ℕ → Reply → Type 0
IsReplyOf files conditions q version reply = IsReplyBy (facts_in files) (norms_in files) conditions version q (chosen_in files q) reply

-- What is required of such files and conditions: what a listing needs, counts of texts, a place for each token, no more
-- functions than four bytes can count, changes from 1 on, paths and names of functions that are texts, and no more
-- conditions than a gate may have.
pub record AreGiven {L : Type 0} (set : Settings) (files : List (File (Work L))) (conditions : List Condition) : Type 0 where
  pub listable : AreListable set files
  pub small : All AreSmall (counts_in files)
  pub placed : (i : ℕ) → length (slice_index_or (norms_in files) i []) ≡ length (slice_index_or (spans_in files) i [])
  pub few_functions : AreFewFunctions (facts_in files)
  pub numbered : AreNumbered files
  pub texts : AllByRecursion IsUtf8 (paths_in files)
  pub names : AreNamed (facts_in files)
  pub few_conditions : length conditions ≤ 32

-- ---- what a query on such files asks and reads

-- the part that the query lists
abbrev pub part_in : {L : Type 0} → List (File (Work L)) → Query → Part
part_in files q = part_of (paths_in files) q.kind q.path

-- one question was counted for each different key of the part's windows
abbrev pub AsksGiven : {L B : Type 0} → buckets.Ghosts B → List (File (Work L)) → Query → B → B → Type 0
AsksGiven of files q old new = AsksPart (keys_in files) (part_in files q) (of.asked old) (of.asked new)

-- and no more than so
abbrev pub AsksGivenAtMost : {L B : Type 0} → buckets.Ghosts B → List (File (Work L)) → Query → B → B → Type 0
AsksGivenAtMost of files q old new = AsksPartAtMost (keys_in files) (part_in files q) (of.asked old) (of.asked new)

-- from one count of steps to another, no more tokens were read than the part's windows call for
abbrev pub ReadsGiven : {L : Type 0} → List (File (Work L)) → Query → ℕ → ℕ → Type 0
ReadsGiven files q old new = ReadsPart (norms_in files) (keys_in files) (part_in files q) old new

-- ---- the law

-- the reply by changes is the one on what their texts are read to, and on the project's conditions
abbrev pub ReplyByChangesIsOnItsFiles : Type 0
ReplyByChangesIsOnItsFiles = (set : Settings) (changes : List Change) (version : ℕ) (q : Query) (reply : Reply)
    → IsReply set changes version q reply ↔ ((readings : List Reading) × AreRead changes version q.project readings × IsReplyBy (facts_read readings) (corpus_read set readings) (conditions_at changes version q.project) version q (chosen_read readings q) reply)
