-- Which replies a server may give with workers beside it.
use Rattle.std.specs.Prelude.{ℕ, ◌+◌, List, [], map}
use Rattle.cq_base.specs.declared.settings.Settings.{Settings}
use Rattle.cq_history.specs.declared.event.Event.{Event}
use Rattle.cq_history.specs.Lawful.{Lawful}
use Rattle.cq_reply.specs.declared.reply.Reply.{Reply}
use Rattle.cq_session.specs.Costs.{counted}
use Rattle.cq_session.specs.Turn.{CountedTalk}
use Rattle.cq_talk.specs.Beside.{IsBeside, nothing_known}
use Rattle.cq_talk.specs.Said.{said}

-- the replies to lines are those that a server may give with workers beside it
abbrev pub AreBeside : Settings → List (List ℕ) → List Reply → Type 0
AreBeside set lines replies = IsBeside set nothing_known (map (said set.chunk) lines) replies

-- They are so, and by one lawful history from nothing on. Of its callers number 0 made the others, the next ones are the
-- workers, and the one after them is the client. So many tokens were read before and now.
pub record AreWithWorkers (set : Settings) (callers workers reads reads_now : ℕ) (lines : List (List ℕ)) (replies : List Reply) : Type 0 where
  pub heard : List Event
  pub asked : ℕ
  pub lawful : Lawful set callers heard
  pub talk : CountedTalk set callers ⊥ (workers + 1) [] (counted reads reads_now 0 asked) heard lines replies
  pub beside : AreBeside set lines replies
