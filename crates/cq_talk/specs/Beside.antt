-- What a user of a server may be told while workers run beside it: the replies are walked from line to line.
use Rattle.std.specs.Prelude.{◌≡◌, ◌⊎◌, ℕ, ◌+◌, ◌-◌, ◌<◌, ◌≤◌, true, false, max, List, [], ◌∷◌, ◌++◌, length, slice_index_or, None, Ok, Err}
use Rattle.cq_base.specs.declared.settings.Settings.{Settings}
use Rattle.cq_base.specs.declared.change.Change.{Change}
use Rattle.cq_history.specs.Changes.{is_put, IsNumber}
use Rattle.cq_history.specs.Lawful.{is_absent, is_full, is_long}
use Rattle.cq_history.specs.State.{no_slot}
use Rattle.cq_board.specs.declared.answers.Refused.TheVariants.{Absent, FullChanges, FullText}
use Rattle.cq_request.specs.declared.request.Query.{Query}
use Rattle.cq_request.specs.declared.request.Request.TheVariants as request
use Rattle.cq_reply.specs.declared.reply.Reply.{Reply}
use Rattle.cq_reply.specs.declared.reply.Reply.TheVariants as reply
use Rattle.cq_answer.specs.Refusals.{cause_told}
use Rattle.cq_answer.specs.Reply.{IsReply}
use Rattle.cq_talk.specs.Said.{Said, TooLong, Read, WasRead}
use Rattle.cq_talk.specs.Replies.{version_in, answered_in}
use Rattle.cq_talk.specs.Causes.{state_at, cause}
use Rattle.cq_base.specs.declared.refusal.Refusal.TheVariants as refusal

-- What the user knows: the changes that were accepted, the greatest version or published number that a reply named, and the
-- greatest version that a query's reply named.
pub record Known : Type 0 where
  pub changes : List Change
  pub version : ℕ
  pub answered : ℕ

abbrev pub nothing_known : Known
nothing_known = record { changes = []; version = 0; answered = 0 }

-- a change whose number is reported is accepted, and no other is
abbrev pub with_told : List Change → Change → Reply → List Change
with_told changes change (reply.Change n) = changes ++ change ∷ []
with_told changes change _ = changes

abbrev pub changes_then : List Change → Said → Reply → List Change
changes_then changes TooLong r = changes
changes_then changes (Read (Err why)) r = changes
changes_then changes (Read (Ok (request.Change change))) r = with_told changes change r
changes_then changes (Read (Ok (request.Query q))) r = changes
changes_then changes (Read (Ok request.State)) r = changes

abbrev pub known_then : Known → Said → Reply → Known
known_then k l r = record { changes = changes_then k.changes l r; version = max k.version (version_in r); answered = max k.answered (answered_in r) }

-- it drops a path whose last put or drop is no put, and is refused so
abbrev pub IsAbsentBeside : Known → Change → Reply → Type 0
IsAbsentBeside k change r = (is_absent (state_at k.changes k.answered) change ≡ true) × (r ≡ cause_told Absent)

-- It is refused since there are too many changes. Then that many would be kept with the floor at the last version that was
-- answered.
abbrev pub IsFullBeside : Settings → Known → Change → Reply → Type 0
IsFullBeside set k change r = (is_absent (state_at k.changes k.answered) change ≡ false) × (is_full set (state_at k.changes k.answered) ≡ true) × (r ≡ cause_told FullChanges)

-- The same of the bytes of texts.
abbrev pub IsLongBeside : Settings → Known → Change → Reply → Type 0
IsLongBeside set k change r = (is_absent (state_at k.changes k.answered) change ≡ false) × (is_long set (state_at k.changes k.answered) change ≡ true) × (r ≡ cause_told FullText)

-- It is accepted, with the next number. Then there is no cause against it with the floor at the last change.
abbrev pub IsAcceptedBeside : Settings → Known → Change → Reply → Type 0
IsAcceptedBeside set k change r = (cause set k.changes (length k.changes) change ≡ None) × (r ≡ reply.Change (length k.changes + 1))

abbrev pub IsChangedBeside : Settings → Known → Change → Reply → Type 0
IsChangedBeside set k change r = IsAbsentBeside k change r ⊎ (IsFullBeside set k change r ⊎ (IsLongBeside set k change r ⊎ IsAcceptedBeside set k change r))

-- this is the number of a put
abbrev pub IsPut : List Change → ℕ → Type 0
IsPut changes n = IsNumber changes n × (is_put (slice_index_or changes (n - 1) no_slot.change) ≡ true)

-- it asks for more changes than were accepted, and the reply says how many there are
abbrev pub IsFutureBeside : Known → Query → Reply → Type 0
IsFutureBeside k q r = (length k.changes < q.at) × (r ≡ reply.Refused (refusal.Future (length k.changes)))

-- It is not to finish works, and the reply names a put that is above each version named before.
pub record IsPendingBeside (k : Known) (q : Query) (r : Reply) : Type 0 where
  pub within : q.at ≤ length k.changes
  pub no_work : q.finish ≡ false
  pub number : ℕ
  pub put : IsPut k.changes number
  pub above : k.version < number
  pub reply_is : r ≡ reply.Pending number

-- it is answered by all accepted changes
abbrev pub IsShownBeside : Settings → Known → Query → Reply → Type 0
IsShownBeside set k q r = (q.at ≤ length k.changes) × IsReply set k.changes (length k.changes) q r

abbrev pub IsAnsweredBeside : Settings → Known → Query → Reply → Type 0
IsAnsweredBeside set k q r = IsFutureBeside k q r ⊎ (IsPendingBeside k q r ⊎ IsShownBeside set k q r)

-- how many changes there are, and what is done and published of them: nothing that was named before is taken back
pub record IsToldBeside (k : Known) (r : Reply) : Type 0 where
  pub done : ℕ
  pub published : ℕ
  pub kept : k.version ≤ published
  pub in_order : published ≤ done
  pub few : done ≤ length k.changes
  pub reply_is : r ≡ reply.State (length k.changes) done published

abbrev pub IsReplyBeside : Settings → Known → Said → Reply → Type 0
IsReplyBeside set k TooLong r = r ≡ reply.Long
IsReplyBeside set k (Read (Err why)) r = r ≡ reply.Refused why
IsReplyBeside set k (Read (Ok (request.Change change))) r = IsChangedBeside set k change r
IsReplyBeside set k (Read (Ok (request.Query q))) r = IsAnsweredBeside set k q r
IsReplyBeside set k (Read (Ok request.State)) r = IsToldBeside k r

-- One reply for each line, in order. Any line that was read may be answered with out of memory.
abbrev pub IsBeside : Settings → Known → List Said → List Reply → Type 0
IsBeside set k [] [] = Unit {0}
IsBeside set k [] (r ∷ replies) = ⊥
IsBeside set k (l ∷ lines) [] = ⊥
IsBeside set k (l ∷ lines) (r ∷ replies) = ((WasRead l × (r ≡ reply.Memory)) ⊎ IsReplyBeside set k l r) × IsBeside set (known_then k l r) lines replies
