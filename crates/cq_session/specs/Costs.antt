-- The views that the queries of a talk opened, and what these cost.
use Rattle.std.specs.Prelude.{◌≡◌, ◌⊎◌, ℕ, ◌+◌, ◌-◌, ◌^◌, ◌≤◌, min, Bool, true, false, List, [], ◌∷◌, ◌++◌, length, map, filter, filter_map, Option, Some, None, Ok, Err}
use Rattle.std.specs.List.{AllByRecursion, sum_by}
use Rattle.cq_base.specs.declared.settings.Settings.{Settings}
use Rattle.cq_base.specs.declared.change.Change.{Change}
use Rattle.cq_answer.specs.Questions.{AreAsked, IsMostRead}
use Rattle.cq_groups.specs.Listing.{RisesAtMost}
use Rattle.cq_history.specs.declared.event.Event.{Event}
use Rattle.cq_history.specs.declared.event.Event.TheVariants as event
use Rattle.cq_history.specs.State.{accepted, own}
use Rattle.cq_reply.specs.declared.reply.Reply.{Reply}
use Rattle.cq_reply.specs.declared.reply.Reply.TheVariants as reply
use Rattle.cq_request.specs.declared.request.Query.{Query}
use Rattle.cq_request.specs.declared.request.Request.TheVariants as request
use Rattle.cq_talk.specs.Said.{Said, TooLong, Read}

-- a query, the version of a view that was opened for it, and whether it was answered by that view
pub record Viewing : Type 0 where
  pub query : Query
  pub version : ℕ
  pub answered : Bool

-- ---- which views were opened

-- the version that a reply shows
abbrev pub shown_in : Reply → Option ℕ
shown_in (reply.Files rows version) = Some version
shown_in (reply.Groups rows version) = Some version
shown_in (reply.Measures measures version) = Some version
shown_in (reply.Verdict verdict version) = Some version
shown_in (reply.Functions functions version worst) = Some version
shown_in _ = None

abbrev pub answered_in : Query → Option ℕ → List Viewing
answered_in q None = []
answered_in q (Some v) = record { query = q; version = v; answered = true } ∷ []

abbrev pub given_up_in : Query → Option ℕ → List Viewing
given_up_in q None = []
given_up_in q (Some v) = record { query = q; version = v; answered = false } ∷ []

-- for a line: that of the version which the reply to a query shows; one or none if memory was refused to a query; and
-- none else
abbrev pub AreViewings : Said → Reply → List Viewing → Type 0
AreViewings (Read (Ok (request.Query q))) r vs = (vs ≡ answered_in q (shown_in r)) ⊎ ((r ≡ reply.Memory) × (view : Option ℕ) × (vs ≡ given_up_in q view))
AreViewings (Read (Ok (request.Change change))) r vs = vs ≡ []
AreViewings (Read (Ok request.State)) r vs = vs ≡ []
AreViewings (Read (Err why)) r vs = vs ≡ []
AreViewings TooLong r vs = vs ≡ []

-- for each line in turn
abbrev pub AreAllViewings : List Said → List Reply → List Viewing → Type 0
AreAllViewings [] [] vs = vs ≡ []
AreAllViewings [] (r ∷ replies) vs = ⊥
AreAllViewings (l ∷ lines) [] vs = ⊥
AreAllViewings (l ∷ lines) (r ∷ replies) vs = (first rest : List Viewing) × (vs ≡ first ++ rest) × AreViewings l r first × AreAllViewings lines replies rest

-- the version of the view that an event opens
abbrev pub opened_by : Event → Option ℕ
opened_by (event.Accept by change) = None
opened_by (event.Ask by) = None
opened_by (event.Took by r) = None
opened_by (event.Back by r) = None
opened_by (event.Done by r) = None
opened_by (event.Publish p) = None
opened_by (event.Open by v) = Some v
opened_by (event.Shut by) = None
opened_by (event.Floor f) = None

-- ---- what they cost

-- two counts before and after: of the tokens that were read, and of the questions for the windows with a key
pub record Counts : Type 0 where
  pub reads : ℕ
  pub reads_now : ℕ
  pub asked : ℕ
  pub asked_now : ℕ

abbrev pub counted : ℕ → ℕ → ℕ → ℕ → Counts
counted reads reads_now asked asked_now = record { reads = reads; reads_now = reads_now; asked = asked; asked_now = asked_now }

-- a count of questions rose by so many or more, up to its last value
abbrev pub RisesAtLeast : ℕ → ℕ → ℕ → Type 0
RisesAtLeast old new n = min (old + n) (2 ^ 64 - 1) ≤ min new (2 ^ 64 - 1)

-- By the changes up to each version: no more tokens are read than all the queries may read; there are as many questions as
-- the queries that are answered have different keys, and no more than all have.
pub record Costs (set : Settings) (changes : List Change) (vs : List Viewing) (n : Counts) : Type 0 where
  pub reads : (most : Viewing → ℕ) → AllByRecursion (λ (v : Viewing). IsMostRead set changes v.version v.query (most v)) vs → n.reads_now ≤ n.reads + sum_by most vs
  pub asked : (keys : Viewing → List ℕ) → let told = filter (λ (v : Viewing). v.answered) vs in
      AllByRecursion (λ (v : Viewing). AreAsked set changes v.version v.query (keys v)) told → RisesAtLeast n.asked n.asked_now (sum_by (λ v. length (keys v)) told)
  pub asked_most : (keys : Viewing → List ℕ) → AllByRecursion (λ (v : Viewing). AreAsked set changes v.version v.query (keys v)) vs → RisesAtMost n.asked n.asked_now (sum_by (λ v. length (keys v)) vs)
  pub no_fewer : RisesAtLeast n.asked n.asked_now 0

-- The caller's further events open the views of just these versions, each of changes that are accepted, and they cost so much.
pub record Spends (Are : List Viewing → Type 0) (set : Settings) (c : ℕ) (h : List Event) (n : Counts) (after : List Event) : Type 0 where
  pub more : List Event
  pub after_is : after ≡ h ++ more
  pub viewings : List Viewing
  pub are : Are viewings
  pub opened : filter_map opened_by (own c more) ≡ map (λ (v : Viewing). v.version) viewings
  pub within : AllByRecursion (λ (v : Viewing). v.version ≤ length (accepted after)) viewings
  pub costs : Costs set (accepted after) viewings n

-- the row of a line, whose views cost so much
abbrev pub AtCost : Settings → ℕ → Said → Reply → Counts → List Event → (List Event → Type 0) → List Event → Type 0
AtCost set c l r n h Row after = Row after × Spends (AreViewings l r) set c h n after
