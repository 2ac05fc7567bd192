-- What a query's view comes to.
use Rattle.std.specs.Prelude.{ℕ, ◌≤◌, List, length, Option, Some, IfSome}
use Rattle.cq_base.specs.declared.change.Change.{Change}
use Rattle.cq_base.specs.declared.lang.Lang.{Lang}
use Rattle.cq_base.specs.declared.settings.Settings.{Settings}
use Rattle.cq_answer.specs.Reply.{IsReply}
use Rattle.cq_board.specs.declared.listing.View.{View}
use Rattle.cq_history.specs.declared.event.Event.{Event}
use Rattle.cq_history.specs.State.{state, accepted}
use Rattle.cq_hub.specs.Views.{IsOpen}
use Rattle.cq_reply.specs.declared.reply.Reply.{Reply}
use Rattle.cq_request.specs.declared.request.Query.{Query}
use Rattle.cq_talk.specs.Steps.{Views}
use Rattle.cq_talk.specs.Talk.{IsSwept}
use Rattle.cq_session.specs.Costs.{Counts, Costs, answered_in, given_up_in}

-- for each caller and history that the pass stands for with the view open, this holds of the accepted changes
abbrev pub InView : {S P W : Type 0} → (S → P → ℕ → List Event → Type 0) → ℕ → (Lang → List ℕ → W → Type 0) → S → View W → P → (List Change → Type 0) → Type 0
InView Stands callers IsWork hub view pass Holds = (c : ℕ) (h : List Event) → Stands hub pass c h → IsOpen IsWork (state callers h) c view → Holds (accepted h)

-- the reply is that of the version of a view that was opened, shut, and the floor raised after it, which is not below a version, at this cost
pub record ShowsAt (set : Settings) (callers : ℕ) (alone : Type 0) (c to : ℕ) (q : Query) (n : Counts) (reply : Reply) (h after : List Event) : Type 0 where
  pub version : ℕ
  pub views : Views alone c to h (Some version) after
  pub within : version ≤ length (accepted after)
  pub shows : IsReply set (accepted after) version q reply
  pub swept : IsSwept (state callers after)
  pub costs : Costs set (accepted after) (answered_in q (Some version)) n

-- a view was opened and shut, or none was, at this cost
pub record ViewsOrNot (set : Settings) (alone : Type 0) (c to : ℕ) (q : Query) (n : Counts) (h after : List Event) : Type 0 where
  pub view : Option ℕ
  pub views : Views alone c to h view after
  pub within : IfSome view (λ v. v ≤ length (accepted after))
  pub costs : Costs set (accepted after) (given_up_in q view) n
