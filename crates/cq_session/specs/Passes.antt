-- Where the parts of a line bring the pass of a caller, in the words of its hub.
use Rattle.std.specs.Prelude.{◌≤◌, ℕ, List, [], ◌∷◌, length, Result, IsSome, Ok as ok}
use Rattle.std.specs.Result.{is_ok}
use Rattle.cq_answer.specs.Reply.{IsReply}
use Rattle.cq_session.specs.Moves.{Moves}
use Rattle.cq_base.specs.declared.change.Change.{Change}
use Rattle.cq_base.specs.declared.lang.Lang.{Lang}
use Rattle.cq_base.specs.declared.settings.Settings.{Settings}
use Rattle.cq_board.specs.declared.listing.View.{View}
use Rattle.cq_history.specs.declared.event.Event.{Event}
use Rattle.cq_history.specs.declared.event.Event.TheVariants as event
use Rattle.cq_history.specs.State.{state, accepted, ready, view_of, IsAccepted, IsDone}
use Rattle.cq_hub.specs.Hubs.{Extends, HasSeen, IsFloor, Never}
use Rattle.cq_hub.specs.Views.{IsOpen}
use Rattle.cq_hub.specs.declared.hub.Hub.{Ghosts}
use Rattle.cq_io.specs.declared.sink.Sink as sink
use Rattle.cq_io.specs.declared.source.Source as source
use Rattle.cq_lines.specs.Serving.{ServesLines}
use Rattle.cq_lines.specs.declared.ending.End.{End}
use Rattle.cq_reply.specs.Lines.{bytes_of}
use Rattle.cq_reply.specs.Written.{line_of}
use Rattle.cq_reply.specs.declared.reply.Reply.{Reply}
use Rattle.cq_reply.specs.declared.reply.Reply.TheVariants as reply
use Rattle.cq_request.specs.Reading.{line_says}
use Rattle.cq_request.specs.declared.request.Query.{Query}
use Rattle.cq_base.specs.declared.refusal.Refusal.{Refusal}
use Rattle.cq_request.specs.declared.request.Request.{Request}
use Rattle.cq_request.specs.declared.request.Request.TheVariants as request
use Rattle.cq_talk.specs.Said.{Read}
use Rattle.cq_talk.specs.Steps.{Always, Helps, Led, MayLead}
use Rattle.cq_talk.specs.Talk.{IsAnswerBy, IsAnswered, IsChangedBy, IsGivenUp, IsSwept, Tells, Waits}
use Rattle.cq_session.specs.Costs.{AtCost, Costs, Counts, counted}
use Rattle.cq_session.specs.Turn as turn
use Rattle.cq_session.specs.Viewing.{InView, ShowsAt, ViewsOrNot}
use Rattle.cq_session.specs.declared.telling.ReplyLine.{ReplyLine}

module _ {H W P : Type 0} (of : Ghosts H W P) (hub : H) where
  -- ---- a view that is open, where a text has these works

  module _ (IsWork : Settings → Lang → List ℕ → W → Type 0) (view : View W) (pass : P) where
    -- the pass has the view open
    abbrev pub HasOpen : Type 0
    HasOpen = HasSeen of.Stands hub pass (λ c h. IsOpen (IsWork (of.settings hub)) (state (of.callers hub) h) c view)

    -- this holds of the accepted changes if the pass has the view open
    abbrev pub WhereOpen : (List Change → Type 0) → Type 0
    WhereOpen Holds = InView of.Stands (of.callers hub) (IsWork (of.settings hub)) hub view pass Holds

    -- it is the reply to the query at the view's version
    abbrev pub ShowsOpen : Query → Reply → Type 0
    ShowsOpen q r = WhereOpen (λ changes. IsReply (of.settings hub) changes view.version q r)

    -- the pass moves on from it with the view open
    abbrev pub KeepsOpen : P → Type 0
    KeepsOpen new = Moves of.Stands (of.callers hub) of.alone (IsWork (of.settings hub)) hub view pass new

    -- at the new pass, so much was spent on the query, which was answered or not
    abbrev pub CostsOpen : {T E : Type 0} → P → ℕ → ℕ → Query → Result T E → Type 0
    CostsOpen new reads reads_now q result =
        WhereOpen (λ changes. Costs (of.settings hub) changes (record { query = q; version = view.version; answered = is_ok result } ∷ []) (counted reads reads_now (of.asked pass) (of.asked new)))

  -- the pass has one open
  abbrev pub HasViewOpen : P → Type 0
  HasViewOpen pass = HasSeen of.Stands hub pass (λ c h. IsSome (view_of (state (of.callers hub) h) c))

  -- it is shut at the new pass
  abbrev pub HasShut : P → P → Type 0
  HasShut pass new = Extends of.Stands of.alone Never hub pass new (λ c. event.Shut c ∷ []) (λ _ _. Unit {0})

  -- the floor was raised up to the least of the published version and the open ones
  abbrev pub HasSwept : P → P → Type 0
  HasSwept pass new = Extends of.Stands of.alone IsFloor hub pass new (λ _. []) (λ _ mid. IsSwept (state (of.callers hub) mid))

  -- ---- a pass that has no view open

  module _ (pass : P) where
    -- so many changes are accepted, or more
    abbrev pub HasAccepted : ℕ → Type 0
    HasAccepted n = MayLead of.Stands (of.callers hub) hub pass (λ h. n ≤ length (accepted h))

    -- the change with the number is accepted
    abbrev pub HasChange : ℕ → Type 0
    HasChange change = MayLead of.Stands (of.callers hub) hub pass (λ h. IsAccepted (state (of.callers hub) h) change)

    -- the works of the first changes are done, so many or more
    abbrev pub HasReady : ℕ → Type 0
    HasReady n = MayLead of.Stands (of.callers hub) hub pass (λ h. n ≤ ready (state (of.callers hub) h))

    -- so many works are done, and so many changes accepted
    abbrev pub MayHelp : ℕ → ℕ → Type 0
    MayHelp done to = MayLead of.Stands (of.callers hub) hub pass (λ h. (done ≤ ready (state (of.callers hub) h)) × (to ≤ length (accepted h)))

  -- ---- from one pass to another, for each history that the first one stood for with no view open

  module _ (old new : P) where
    -- works of changes up to one were done, and that holds after them, if this held
    abbrev pub HasHelped : (List Event → Type 0) → ℕ → (List Event → Type 0) → Type 0
    HasHelped If to Holds = Led of.Stands (of.callers hub) hub old new If (λ c h. Helps of.alone c to h Holds)

    -- the work of the change is done
    abbrev pub HasDone : ℕ → Type 0
    HasDone change = HasHelped Always change (λ after. IsDone (state (of.callers hub) after) change)

    -- if so many works were done, those up to another one are
    abbrev pub HasDoneUpTo : ℕ → ℕ → Type 0
    HasDoneUpTo done to = HasHelped (λ h. done ≤ ready (state (of.callers hub) h)) to (λ after. done ≤ to → to ≤ ready (state (of.callers hub) after))

    -- some of these are
    abbrev pub HasDoneSome : ℕ → ℕ → Type 0
    HasDoneSome done to = HasHelped (λ h. done ≤ ready (state (of.callers hub) h)) to Always

    -- nothing but others' events came
    abbrev pub HasWaited : Type 0
    HasWaited = Led of.Stands (of.callers hub) hub old new Always (λ c h. Waits of.alone c h)

    -- the change has this reply; by whom it is accepted, the acceptor of the caller's number says
    abbrev pub HasChanged : (ℕ → ℕ) → Change → Reply → Type 0
    HasChanged acceptor change r = Led of.Stands (of.callers hub) hub old new Always (λ c h. IsChangedBy (of.settings hub) (of.callers hub) of.alone c (acceptor c) h change r)

    -- the reply tells the state
    abbrev pub HasTold : Reply → Type 0
    HasTold r = Led of.Stands (of.callers hub) hub old new Always (λ c h. Tells (of.settings hub) (of.callers hub) of.alone c h r)

    -- ---- where so many tokens were read before and now

    module _ (reads reads_now : ℕ) where
      abbrev spent : Counts
      spent = counted reads reads_now (of.asked old) (of.asked new)

      -- a view of a version not below this one was opened, shut, and the floor raised after it, and the reply is by it
      abbrev pub HasShown : ℕ → Query → Reply → Type 0
      HasShown to q r = Led of.Stands (of.callers hub) hub old new Always (λ c h. ShowsAt (of.settings hub) (of.callers hub) of.alone c to q spent r h)

      -- one was opened and shut, or none was
      abbrev pub HasViewedOrNot : ℕ → Query → Type 0
      HasViewedOrNot to q = Led of.Stands (of.callers hub) hub old new Always (λ c h. ViewsOrNot (of.settings hub) of.alone c to q spent h)

      -- under settings that are the hub's, the lines of the source were served
      abbrev pub HasServed : {S K : Type 0} → (ℕ → ℕ) → source.Ghosts S → sink.Ghosts K → Settings → ℕ → S → S → K → K → End → Type 0
      HasServed acceptor from onto set limit read read_now written written_now by =
          Led of.Stands (of.callers hub) hub old new Always (λ c h after. ServesLines from onto line_of (turn.CountedTalkBy set (of.callers hub) of.alone c (acceptor c) h spent after) limit read read_now written written_now by)

      -- where each number that was seen is that of an accepted change
      module _ (seen : ℕ) where
        abbrev LedBy : (ℕ → List Event → List Event → Type 0) → Type 0
        LedBy Row = Led of.Stands (of.callers hub) hub old new (λ h. seen ≤ length (accepted h)) Row

        -- the query has this reply
        abbrev pub HasAnswered : Query → Reply → Type 0
        HasAnswered q r = LedBy (λ c h. AtCost (of.settings hub) c (Read (ok (request.Query q))) r spent h (IsAnswered (of.settings hub) (of.callers hub) of.alone c seen h q r))

        -- what a line says has this reply
        abbrev pub HasReplied : (ℕ → ℕ) → Result Request Refusal → Reply → Type 0
        HasReplied acceptor says r = LedBy (λ c h. AtCost (of.settings hub) c (Read says) r spent h (IsAnswerBy (of.settings hub) (of.callers hub) of.alone c (acceptor c) seen h (Read says) r))

        -- memory was refused, and what was done is a beginning of what the line does
        abbrev pub HasGivenUp : Result Request Refusal → Type 0
        HasGivenUp says = LedBy (λ c h. AtCost (of.settings hub) c (Read says) reply.Memory spent h (IsGivenUp (of.settings hub) (of.callers hub) of.alone c seen h (Read says)))

        -- the same of a query, and of a line's bytes under some settings
        abbrev pub GivesUp : Query → Type 0
        GivesUp q = HasGivenUp (ok (request.Query q))

        abbrev pub Replies : (ℕ → ℕ) → Settings → List ℕ → Reply → Type 0
        Replies acceptor set line r = HasReplied acceptor (line_says set.chunk line) r

        abbrev pub Begins : Settings → List ℕ → Type 0
        Begins set line = HasGivenUp (line_says set.chunk line)

        -- it is the line of its reply, with the number that the reply names
        abbrev pub HasLine : (ℕ → ℕ) → Settings → List ℕ → ReplyLine → Type 0
        HasLine acceptor set line told = LedBy (λ c h. turn.Tells (of.settings hub) (of.callers hub) of.alone c (acceptor c) seen h spent (Read (line_says set.chunk line)) (bytes_of told.line) told.number told.known)
