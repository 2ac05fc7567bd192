-- The replies to a caller's lines, over one history that grows.
use Rattle.std.specs.Prelude.{◌≡◌, ◌⊎◌, ℕ, ◌+◌, ◌<◌, ◌≤◌, max, false, if◌then◌else◌, List, [], ◌∷◌, ◌++◌, length, map, Option, Some, None, IfSome, Ok, Err}
use Rattle.std.specs.List.{AllByRecursion}
use Rattle.cq_base.specs.declared.settings.Settings.{Settings}
use Rattle.cq_base.specs.declared.change.Change.{Change}
use Rattle.cq_history.specs.declared.event.Event.{Event}
use Rattle.cq_history.specs.declared.event.Event.TheVariants as event
use Rattle.cq_history.specs.State.{State, state, accepted, ready}
use Rattle.cq_board.specs.Answers.{greatest_floor, refusal_of}
use Rattle.cq_board.specs.declared.answers.Refused.{Refused}
use Rattle.cq_request.specs.declared.request.Query.{Query}
use Rattle.cq_request.specs.declared.request.Request.TheVariants as request
use Rattle.cq_reply.specs.declared.reply.Reply.{Reply}
use Rattle.cq_reply.specs.declared.reply.Reply.TheVariants as reply
use Rattle.cq_answer.specs.Refusals.{cause_told}
use Rattle.cq_answer.specs.Reply.{IsReply}
use Rattle.cq_hub.specs.Hubs.{Grows, IsFloor, IsPublication, Never}
use Rattle.cq_talk.specs.Said.{Said, TooLong, Read}
use Rattle.cq_talk.specs.Replies.{named}
use Rattle.cq_base.specs.declared.refusal.Refusal.TheVariants as refusal

-- The floor of a query: the greatest of what was named before, the version that it asks for, and, if it may finish
-- works, how many changes there are at its question.
abbrev pub floor_of : ℕ → Query → State → ℕ
floor_of seen q s = max (max seen q.at) (if q.finish then length s.slots else 0)

-- neither for more changes than there are, nor one that would have to wait
abbrev pub GoesOn : ℕ → Query → State → Type 0
GoesOn seen q s = (q.at ≤ length s.slots) × (q.finish ≡ false → floor_of seen q s ≤ ready s)

-- the events of a view that is opened and shut
abbrev pub viewed : ℕ → Option ℕ → List Event
viewed c None = []
viewed c (Some v) = event.Open c v ∷ event.Shut c ∷ []

-- nobody's events that may follow a view that was shut: floors; if no view was opened, none
abbrev pub MayFollow : Option ℕ → Event → Type 0
MayFollow None = Never
MayFollow (Some v) = IsFloor

-- the last floor is the least of the last published version and the open ones
abbrev pub IsSwept : State → Type 0
IsSwept s = s.floor ≡ greatest_floor s

-- over whether nobody else adds an event, and the caller's number
module _ (alone : Type 0) (c : ℕ) where
  -- none of the caller's events
  abbrev pub Waits : List Event → List Event → Type 0
  Waits h after = Grows alone Never c h after []

  -- only the caller's question, after this history
  pub record Asks (h after : List Event) : Type 0 where
    pub mid : List Event
    pub waits : Waits h mid
    pub asks : after ≡ mid ++ event.Ask c ∷ []

-- over the settings and the number of callers of the hub, whether the caller is alone there, and the caller's number
module _ (set : Settings) (callers : ℕ) (alone : Type 0) (c : ℕ) where
  -- ---- changes

  -- the change is accepted by the caller with the number `by`, with the number of its acceptance
  pub record AcceptsBy (by : ℕ) (h : List Event) (change : Change) (r : Reply) (after : List Event) : Type 0 where
    pub mid : List Event
    pub waits : Waits alone c h mid
    pub no_cause : refusal_of set (state callers mid) change ≡ None
    pub accepts : after ≡ mid ++ event.Accept by change ∷ []
    pub reply_is : r ≡ reply.Change (length (accepted mid) + 1)

  -- it is accepted by the caller who sent it
  abbrev pub Accepts : List Event → Change → Reply → List Event → Type 0
  Accepts h change r after = AcceptsBy c h change r after

  -- the reply is the first cause against it, in the history that the refusing call had seen
  pub record Refuses (h : List Event) (change : Change) (r : Reply) (after : List Event) : Type 0 where
    pub waits : Waits alone c h after
    pub cause : Refused
    pub cause_is : refusal_of set (state callers after) change ≡ Some cause
    pub reply_is : r ≡ cause_told cause

  abbrev pub IsChangedBy : ℕ → List Event → Change → Reply → List Event → Type 0
  IsChangedBy by h change r after = AcceptsBy by h change r after ⊎ Refuses h change r after

  abbrev pub IsChanged : List Event → Change → Reply → List Event → Type 0
  IsChanged h change r after = IsChangedBy c h change r after

  -- ---- the state

  -- the numbers at the question are reported
  pub record Tells (h : List Event) (r : Reply) (after : List Event) : Type 0 where
    pub asks : Asks alone c h after
    pub reply_is : r ≡ reply.State (length (state callers asks.mid).slots) (ready (state callers asks.mid)) (state callers asks.mid).published

  -- ---- queries

  -- It asks for more changes than there are at its question, and the reply says how many there are.
  pub record IsFuture (h : List Event) (q : Query) (r : Reply) (after : List Event) : Type 0 where
    pub asks : Asks alone c h after
    pub above : length (state callers asks.mid).slots < q.at
    pub reply_is : r ≡ reply.Refused (refusal.Future (length (state callers asks.mid).slots))

  -- It is not to finish works, and some change up to its floor is not done at its question: the reply names the least
  -- such one.
  pub record IsPending (seen : ℕ) (h : List Event) (q : Query) (r : Reply) (after : List Event) : Type 0 where
    pub asks : Asks alone c h after
    pub within : q.at ≤ length (state callers asks.mid).slots
    pub no_work : q.finish ≡ false
    pub undone : ready (state callers asks.mid) < length (state callers asks.mid).slots
    pub below : ready (state callers asks.mid) < floor_of seen q (state callers asks.mid)
    pub reply_is : r ≡ reply.Pending (ready (state callers asks.mid) + 1)

  -- What a query does that is not refused, as far as it came: its question; the works that it did, of changes up to its
  -- floor; a view of a version that is not below its floor, which is shut again; and a sweep after that.
  pub record IsServed (seen : ℕ) (q : Query) (h after : List Event) (view : Option ℕ) : Type 0 where
    pub asked : List Event
    pub asks : Asks alone c h asked
    pub goes_on : GoesOn seen q (state callers asks.mid)
    pub finished : List ℕ
    pub up_to : AllByRecursion (λ (r : ℕ). r ≤ floor_of seen q (state callers asks.mid)) finished
    pub may_work : q.finish ≡ false → finished ≡ []
    pub helped : List Event
    pub helps : Grows alone IsPublication c asked helped (map (λ r. event.Done c r) finished)
    pub shut : List Event
    pub views : Grows alone Never c helped shut (viewed c view)
    pub recent : IfSome view (λ v. floor_of seen q (state callers asks.mid) ≤ v)
    pub sweeps : Grows alone (MayFollow view) c shut after []

  -- It is answered by the changes up to the version of its view. After the view, and before the caller's next event, the
  -- floor is the least of the published version and the open ones.
  pub record IsShown (seen : ℕ) (h : List Event) (q : Query) (r : Reply) (after : List Event) : Type 0 where
    pub version : ℕ
    pub served : IsServed seen q h after (Some version)
    pub within : version ≤ length (accepted after)
    pub shows : IsReply set (accepted after) version q r
    pub swept : IsSwept (state callers after)

  abbrev pub IsAnswered : ℕ → List Event → Query → Reply → List Event → Type 0
  IsAnswered seen h q r after = IsFuture h q r after ⊎ (IsPending seen h q r after ⊎ IsShown seen h q r after)

  -- ---- lines

  -- what a line says is answered, and the caller with the number `by` accepts it if it is a change
  abbrev pub IsAnswerBy : ℕ → ℕ → List Event → Said → Reply → List Event → Type 0
  IsAnswerBy by seen h TooLong r after = (r ≡ reply.Long) × Waits alone c h after
  IsAnswerBy by seen h (Read (Err why)) r after = (r ≡ reply.Refused why) × Waits alone c h after
  IsAnswerBy by seen h (Read (Ok (request.Change change))) r after = IsChangedBy by h change r after
  IsAnswerBy by seen h (Read (Ok (request.Query q))) r after = IsAnswered seen h q r after
  IsAnswerBy by seen h (Read (Ok request.State)) r after = Tells h r after

  abbrev pub IsAnswer : ℕ → List Event → Said → Reply → List Event → Type 0
  IsAnswer seen h l r after = IsAnswerBy c seen h l r after

  -- How far a line came if memory was refused: what it did is a beginning of what it does, it accepted nothing, and no
  -- view is open.
  abbrev pub IsGivenUp : ℕ → List Event → Said → List Event → Type 0
  IsGivenUp seen h TooLong after = ⊥
  IsGivenUp seen h (Read (Err why)) after = Waits alone c h after
  IsGivenUp seen h (Read (Ok (request.Change change))) after = Waits alone c h after
  IsGivenUp seen h (Read (Ok (request.Query q))) after = Waits alone c h after ⊎ (Asks alone c h after ⊎ ((view : Option ℕ) × IsServed seen q h after view))
  IsGivenUp seen h (Read (Ok request.State)) after = Waits alone c h after ⊎ Asks alone c h after

  abbrev pub AnswersBy : ℕ → ℕ → List Event → Said → Reply → List Event → Type 0
  AnswersBy by seen h l r after = ((r ≡ reply.Memory) × IsGivenUp seen h l after) ⊎ IsAnswerBy by seen h l r after

  abbrev pub Answers : ℕ → List Event → Said → Reply → List Event → Type 0
  Answers seen h l r after = AnswersBy c seen h l r after

  -- One reply for each line, in order. A query's floor is at least each number that was named before. The caller with the
  -- number `by` accepts the changes.
  abbrev pub TalkBy : ℕ → ℕ → List Event → List Said → List Reply → List Event → Type 0
  TalkBy by seen h [] [] after = after ≡ h
  TalkBy by seen h [] (r ∷ replies) after = ⊥
  TalkBy by seen h (l ∷ lines) [] after = ⊥
  TalkBy by seen h (l ∷ lines) (r ∷ replies) after = (mid : List Event) × AnswersBy by seen h l r mid × TalkBy by (max seen (named r)) mid lines replies after

  -- the caller's changes are accepted by itself
  abbrev pub Talk : ℕ → List Event → List Said → List Reply → List Event → Type 0
  Talk seen h lines replies after = TalkBy c seen h lines replies after
