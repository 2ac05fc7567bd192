-- What is told of one line, and what is sent of it.
use Rattle.std.specs.Prelude.{◌≡◌, ℕ, max, Bool, true, List, map}
use Rattle.cq_base.specs.declared.settings.Settings.{Settings}
use Rattle.cq_history.specs.declared.event.Event.{Event}
use Rattle.cq_reply.specs.declared.reply.Reply.{Reply}
use Rattle.cq_reply.specs.Written.{line_of}
use Rattle.cq_talk.specs.Replies.{named}
use Rattle.cq_talk.specs.Said.{Said, said}
use Rattle.cq_talk.specs.Talk.{TalkBy, AnswersBy}
use Rattle.cq_session.specs.Clients.{AreOfClient, is_known}
use Rattle.cq_session.specs.Costs.{AreAllViewings, AreViewings, Counts, Spends}

-- the replies to lines, from one history to another, if nothing was named before; the caller with the number `by` accepts the
-- changes
abbrev pub IsTalkBy : Settings → ℕ → Type 0 → ℕ → ℕ → List Event → List Event → List (List ℕ) → List Reply → Type 0
IsTalkBy set callers alone c by h after lines replies = TalkBy set callers alone c by 0 h (map (said set.chunk) lines) replies after

-- they are the replies, and the views that were opened for the lines cost so much
pub record CountedTalkBy (set : Settings) (callers : ℕ) (alone : Type 0) (c by : ℕ) (h : List Event) (n : Counts) (after : List Event) (lines : List (List ℕ)) (replies : List Reply) : Type 0 where
  pub talk : IsTalkBy set callers alone c by h after lines replies
  pub spends : Spends (AreAllViewings (map (said set.chunk) lines) replies) set c h n after

-- if the caller's changes are accepted by itself
abbrev pub CountedTalk : Settings → ℕ → Type 0 → ℕ → List Event → Counts → List Event → List (List ℕ) → List Reply → Type 0
CountedTalk set callers alone c h n after lines replies = CountedTalkBy set callers alone c c h n after lines replies

-- and if the session is strict, a second line is taken only after a first one that is a JSON object
pub record StrictTalkBy (strict : Bool) (set : Settings) (callers : ℕ) (alone : Type 0) (c by : ℕ) (h : List Event) (n : Counts) (after : List Event) (lines : List (List ℕ)) (replies : List Reply) : Type 0 where
  pub talk : CountedTalkBy set callers alone c by h n after lines replies
  pub of_client : strict ≡ true → AreOfClient set.chunk lines

module _ (set : Settings) (callers : ℕ) (alone : Type 0) (c by seen : ℕ) (h : List Event) (n : Counts) where
  -- the bytes are the line of the reply to what a line says, at this cost; the number is what the reply names, and it may show
  -- that the line is a JSON object
  pub record Tells (says : Said) (bytes : List ℕ) (number : ℕ) (known : Bool) (after : List Event) : Type 0 where
    pub reply : Reply
    pub answers : AnswersBy set callers alone c by seen h says reply after
    pub spends : Spends (AreViewings says reply) set c h n after
    pub bytes_are : bytes ≡ line_of reply
    pub named_is : number ≡ named reply
    pub known_is : known ≡ is_known reply

  -- the reply to a line is sent so, at this cost, and what it names is seen
  pub record Turns (line : List ℕ) (IsSent : List ℕ → Type 0) (seen_now : ℕ) (after : List Event) : Type 0 where
    pub reply : Reply
    pub answers : AnswersBy set callers alone c by seen h (said set.chunk line) reply after
    pub spends : Spends (AreViewings (said set.chunk line) reply) set c h n after
    pub sends : IsSent (line_of reply)
    pub seen_is : seen_now ≡ max seen (named reply)
