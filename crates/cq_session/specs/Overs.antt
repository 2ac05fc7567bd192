-- How a session over a keeper ends.
use Rattle.std.specs.Prelude.{◌≡◌, ℕ, ◌≤◌, Bool, true, false, List, [], ◌∷◌, ◌++◌, length, Option, Some, None, Result, Ok, Err}
use Rattle.std.specs.Io.KnownBytes.{Appends}
use Rattle.cq_base.specs.declared.settings.Settings.{Settings}
use Rattle.cq_history.specs.declared.event.Event.{Event}
use Rattle.cq_history.specs.State.{accepted}
use Rattle.cq_hub.specs.declared.hub.Hub.{Ghosts}
use Rattle.cq_io.specs.declared.sink.Sink as sink
use Rattle.cq_io.specs.declared.source.Source as source
use Rattle.cq_lines.specs.Answering.{SendsFront}
use Rattle.cq_lines.specs.Serving.{ServesLinesUntil}
use Rattle.cq_lines.specs.declared.ending.End.{End}
use Rattle.cq_reply.specs.Written.{line_of}
use Rattle.cq_reply.specs.declared.reply.Reply.{Reply}
use Rattle.cq_talk.specs.Said.{said}
use Rattle.cq_talk.specs.Steps.{Always, Led}
use Rattle.cq_talk.specs.Talk.{Waits}
use Rattle.cq_session.specs.Clients.{IsObject, is_known}
use Rattle.cq_session.specs.Costs.{Counts, counted}
use Rattle.cq_session.specs.Turn as turn
use Rattle.cq_session.specs.declared.stop.Stop.{Stop}
use Rattle.cq_session.specs.declared.stop.Stop.TheVariants as stop

-- a session stops so only if lines may fail to be kept, or if it is strict
abbrev pub MayStop : Type 0 → Bool → Stop → Type 0
MayStop Breaks strict stop.Unkept = Breaks
MayStop Breaks strict stop.Stranger = strict ≡ true

module _ (set : Settings) (callers : ℕ) (alone : Type 0) (c by : ℕ) (h after : List Event) where
  -- the first of these lines have these replies; the last line has none, and none of the caller's events came of it
  pub record BrokenOff (lines : List (List ℕ)) (replies : List Reply) : Type 0 where
    pub first : List (List ℕ)
    pub last : List ℕ
    pub lines_are : lines ≡ first ++ last ∷ []
    pub then : List Event
    pub talk : turn.IsTalkBy set callers alone c by h then first replies
    pub waits : Waits alone c then after

  -- there is only one line, and its reply doesn't show that it is a JSON object
  pub record TurnedAway (lines : List (List ℕ)) (replies : List Reply) : Type 0 where
    pub line : List ℕ
    pub lines_are : lines ≡ line ∷ []
    pub reply : Reply
    pub replies_are : replies ≡ reply ∷ []
    pub unknown : is_known reply ≡ false
    pub talk : turn.IsTalkBy set callers alone c by h after lines replies

  -- by why it stopped at the last of these lines
  abbrev pub StoppedTalk : List (List ℕ) → List Reply → Stop → Type 0
  StoppedTalk lines replies stop.Unkept = BrokenOff lines replies
  StoppedTalk lines replies stop.Stranger = TurnedAway lines replies

module _ {H W P : Type 0} (of : Ghosts H W P) (hub : H) (old new : P) (reads reads_now : ℕ) where
  abbrev spent : Counts
  spent = counted reads reads_now (of.asked old) (of.asked new)

  -- of one line, which may be the first: its reply is sent and what it names is seen; or it stopped at the line, whose reply was
  -- sent unless a line could not be kept
  abbrev pub Turned : {E : Type 0} → ℕ → Bool → (ℕ → ℕ) → Settings → Bool → List ℕ → Option (List ℕ) → Option (List ℕ) → Result (Option Stop) E → ℕ → ℕ → List Event → List Event → Type 0
  Turned seen strict acceptor set first line before written_now (Ok None) seen_now c h after =
      turn.Turns set (of.callers hub) of.alone c (acceptor c) seen h spent line (Appends before written_now) seen_now after × (strict ≡ true → first ≡ true → IsObject (said set.chunk line))
  Turned seen strict acceptor set first line before written_now (Ok (Some stop.Unkept)) seen_now c h after = Waits of.alone c h after × (written_now ≡ before)
  Turned seen strict acceptor set first line before written_now (Ok (Some stop.Stranger)) seen_now c h after =
      (turns : turn.Turns set (of.callers hub) of.alone c (acceptor c) seen h spent line (Appends before written_now) seen_now after) × (first ≡ true) × (is_known turns.reply ≡ false)
  Turned seen strict acceptor set first line before written_now (Err e) seen_now c h after = turn.Turns set (of.callers hub) of.alone c (acceptor c) seen h spent line (SendsFront before written_now) seen_now after

  abbrev pub HasSentOrStopped : {E : Type 0} → ℕ → Bool → (ℕ → ℕ) → Settings → Bool → List ℕ → Option (List ℕ) → Option (List ℕ) → Result (Option Stop) E → ℕ → Type 0
  HasSentOrStopped seen strict acceptor set first line before written_now result seen_now =
      Led of.Stands (of.callers hub) hub old new (λ h. seen ≤ length (accepted h)) (λ c h after. Turned seen strict acceptor set first line before written_now result seen_now c h after)

  -- The lines of the source were served up to an end, or up to one at which the session stopped. If it is strict, a second line
  -- is taken only after a first one that is a JSON object.
  abbrev pub HasServedUntil : {S K : Type 0} → Bool → (ℕ → ℕ) → source.Ghosts S → sink.Ghosts K → Settings → ℕ → S → S → K → K → Result End Stop → Type 0
  HasServedUntil strict acceptor from onto set limit read read_now written written_now result =
      Led of.Stands (of.callers hub) hub old new Always
      (λ c h after. ServesLinesUntil from onto line_of (turn.StrictTalkBy strict set (of.callers hub) of.alone c (acceptor c) h spent after) (StoppedTalk set (of.callers hub) of.alone c (acceptor c) h after) limit read read_now written written_now result)
