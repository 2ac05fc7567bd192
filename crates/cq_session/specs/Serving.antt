-- What a session has done between two lines.
use Rattle.std.specs.Prelude.{◌≡◌, ◌≤◌, ℕ, List, length}
use Rattle.cq_base.specs.declared.settings.Settings.{Settings}
use Rattle.cq_history.specs.declared.event.Event.{Event}
use Rattle.cq_history.specs.State.{accepted}
use Rattle.cq_hub.specs.declared.hub.Hub.{Ghosts}
use Rattle.cq_reply.specs.declared.reply.Reply.{Reply}
use Rattle.cq_talk.specs.Replies.{seen_after}
use Rattle.cq_talk.specs.Steps.{IsClosed}
use Rattle.cq_session.specs.Costs.{Counts}
use Rattle.cq_session.specs.Overs.{StoppedTalk}
use Rattle.cq_session.specs.Turn.{CountedTalkBy}
use Rattle.cq_session.specs.declared.stop.Stop.{Stop}

-- the replies to lines, at this cost; what was seen is what they name
pub record SeenTalk (set : Settings) (callers : ℕ) (alone : Type 0) (c by : ℕ) (h : List Event) (n : Counts) (now : List Event) (seen : ℕ) (lines : List (List ℕ)) (replies : List Reply) : Type 0 where
  pub talk : CountedTalkBy set callers alone c by h n now lines replies
  pub seen_is : seen ≡ seen_after 0 replies

module _ {H W P : Type 0} (of : Ghosts H W P) (set : Settings) (hub : H) (acceptor : ℕ → ℕ) where
  -- from that history, the pass stands for one in which its caller has no view open, and the lines have these replies up to
  -- it; what was seen is the number of a change or 0
  pub record HasTalked (from : ℕ × List Event) (n : Counts) (pass : P) (seen : ℕ) (lines : List (List ℕ)) (replies : List Reply) : Type 0 where
    pub after : List Event
    pub stands : of.Stands hub pass from.0 after
    pub closed : IsClosed (of.callers hub) from.0 after
    pub talk : SeenTalk set (of.callers hub) of.alone from.0 (acceptor from.0) from.1 n after seen lines replies
    pub within : seen ≤ length (accepted after)

  -- it does, and the talk stopped at the last of the lines
  pub record HasStopped (from : ℕ × List Event) (pass : P) (lines : List (List ℕ)) (replies : List Reply) (why : Stop) : Type 0 where
    pub after : List Event
    pub stands : of.Stands hub pass from.0 after
    pub closed : IsClosed (of.callers hub) from.0 after
    pub stopped : StoppedTalk set (of.callers hub) of.alone from.0 (acceptor from.0) from.1 after lines replies why
