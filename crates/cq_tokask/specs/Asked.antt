-- What a kept version answers.
use Rattle.std.specs.Prelude.{◌≡◌, ◌⊎◌, ℕ, nat_lt, List, [], if◌then◌else◌, MatchBool, Ok, Err}
use Rattle.std.specs.List.{AllZip}
use Rattle.std.specs.Str.{bytes_eq}
use Rattle.cq_base.specs.declared.refusal.Refusal.TheVariants as refusal
use Rattle.cq_answer.specs.Given.{IsReplyOf}
use Rattle.cq_base.specs.declared.change.Condition.{Condition}
use Rattle.cq_base.specs.declared.settings.Settings.{Settings}
use Rattle.cq_history.specs.Files.{File}
use Rattle.cq_reply.specs.declared.reply.Reply.{Reply}
use Rattle.cq_reply.specs.declared.reply.Reply.TheVariants as reply
use Rattle.cq_request.specs.declared.request.Query.{Query}
use Rattle.cq_request.specs.declared.request.Request.{Request}
use Rattle.cq_request.specs.declared.request.Request.TheVariants as request
use Rattle.cq_talk.specs.Said.{Said, TooLong, Read, WasRead, said}
use Rattle.cq_tokfile.specs.declared.snapshot.Snapshot.{Snapshot}
use Rattle.cq_work.specs.declared.work.Work.{Work}

module _ {L : Type 0} (s : Snapshot L) where
  -- a project other than that of the version has no files and no conditions
  abbrev pub files_of : List ℕ → List (File (Work L))
  files_of project = if bytes_eq project s.project then s.files else []

  abbrev pub conditions_of : List ℕ → List Condition
  conditions_of project = if bytes_eq project s.project then s.conditions.items else []

  -- a query is answered at the version, unless it asks for a later one
  abbrev pub AnswersQuery : Query → Reply → Type 0
  AnswersQuery q r = MatchBool (nat_lt s.version q.at) (r ≡ reply.Refused (refusal.Future s.version)) (IsReplyOf (files_of q.project) (conditions_of q.project) q s.version r)

  -- anything but a query is no operation here
  abbrev pub AnswersRequest : Request → Reply → Type 0
  AnswersRequest (request.Change c) r = r ≡ reply.Refused refusal.Op
  AnswersRequest (request.Query q) r = AnswersQuery q r
  AnswersRequest request.State r = r ≡ reply.Refused refusal.Op

  abbrev pub AnswersSaid : Said → Reply → Type 0
  AnswersSaid TooLong r = r ≡ reply.Long
  AnswersSaid (Read (Ok request)) r = AnswersRequest request r
  AnswersSaid (Read (Err why)) r = r ≡ reply.Refused why

  -- the reply to a line; if it isn't too long, the reply may be that memory was refused
  abbrev pub AnswersLine : Settings → List ℕ → Reply → Type 0
  AnswersLine set line r = AnswersSaid (said set.chunk line) r ⊎ (WasRead (said set.chunk line) × (r ≡ reply.Memory))

  -- a reply for each line
  abbrev pub AnswersLines : Settings → List (List ℕ) → List Reply → Type 0
  AnswersLines set lines replies = AllZip (AnswersLine set) lines replies
