-- What a user of a server may conclude from its replies, with workers beside it or without.
use Rattle.std.specs.Prelude.{◌≡◌, ℕ, ◌+◌, ◌<◌, ◌≤◌, false, List, [], ◌∷◌, ◌++◌, length, Ok}
use Rattle.cq_base.specs.declared.settings.Settings.{Settings}
use Rattle.cq_base.specs.declared.change.Change.{Change}
use Rattle.cq_board.specs.declared.answers.Refused.{Refused}
use Rattle.cq_request.specs.declared.request.Query.{Query}
use Rattle.cq_request.specs.declared.request.Request.TheVariants as request
use Rattle.cq_reply.specs.declared.reply.Reply.{Reply}
use Rattle.cq_reply.specs.declared.reply.Reply.TheVariants as reply
use Rattle.cq_answer.specs.Refusals.{cause_told}
use Rattle.cq_talk.specs.Said.{Said, TooLong, Read}
use Rattle.cq_talk.specs.Replies.{version_in}
use Rattle.cq_talk.specs.Alone.{Walk, done_with, IsAloneUpToMemory}
use Rattle.cq_talk.specs.Beside.{Known, IsBeside}

abbrev pub changes : Change → Said
changes change = Read (Ok (request.Change change))

abbrev pub asks : Query → Said
asks q = Read (Ok (request.Query q))

abbrev pub asks_state : Said
asks_state = Read (Ok request.State)

pub record BesideGives (set : Settings) (k : Known) : Type 0 where
  -- there is one reply for each line
  pub one_each : (lines : List Said) (replies : List Reply) → IsBeside set k lines replies → length replies ≡ length lines
  -- an accepted change counts at once
  pub counted : (change : Change) (n a d p : ℕ) → IsBeside set k (changes change ∷ asks_state ∷ []) (reply.Change n ∷ reply.State a d p ∷ []) → (n ≡ length k.changes + 1) × (a ≡ n)
  -- one that memory was refused for does not
  pub forgotten : (change : Change) (a d p : ℕ) → IsBeside set k (changes change ∷ asks_state ∷ []) (reply.Memory ∷ reply.State a d p ∷ []) → a ≡ length k.changes
  -- an answer is of a version with one's own last change
  pub own_change : (change : Change) (n : ℕ) (q : Query) (r : Reply) → IsBeside set k (changes change ∷ asks q ∷ []) (reply.Change n ∷ r ∷ []) → 0 < version_in r → version_in r ≡ n
  -- what was published stays so
  pub kept : (a d p b e s : ℕ) → IsBeside set k (asks_state ∷ asks_state ∷ []) (reply.State a d p ∷ reply.State b e s ∷ []) → (p ≤ s) × (p ≤ e) × (a ≡ b)
  -- what was answered once is not pending again
  pub answered : (first second : Query) (r : Reply) (n : ℕ) → IsBeside set k (asks first ∷ asks second ∷ []) (r ∷ reply.Pending n ∷ []) → 0 < version_in r → ⊥
  -- a client that asks for works to be finished is not told to wait
  pub waits : (q : Query) (n : ℕ) → IsBeside set k (asks q ∷ []) (reply.Pending n ∷ []) → q.finish ≡ false
  -- a line that is too long is told so
  pub too_long : (r : Reply) → IsBeside set k (TooLong ∷ []) (r ∷ []) → r ≡ reply.Long

pub record AloneGives (set : Settings) (k : Walk) : Type 0 where
  -- there is one reply for each line
  pub one_each : (lines : List Said) (replies : List Reply) → IsAloneUpToMemory set k lines replies → length replies ≡ length lines
  -- the state that is reported is that of the walk
  pub told : (a d p : ℕ) → IsAloneUpToMemory set k (asks_state ∷ []) (reply.State a d p ∷ []) → (a ≡ length k.changes) × (d ≡ k.done) × (p ≡ k.published)
  -- an accepted change has the next number and counts at once; what is published stays
  pub accepted : (change : Change) (n a d p : ℕ) → IsAloneUpToMemory set k (changes change ∷ asks_state ∷ []) (reply.Change n ∷ reply.State a d p ∷ []) → (n ≡ length k.changes + 1) × ((a ≡ length (k.changes ++ change ∷ [])) × (d ≡ done_with k change) × (p ≡ k.published))
  -- one that is refused for a cause changes nothing
  pub refused : (change : Change) (why : Refused) (a d p : ℕ) → (cause_told why ≡ reply.Memory → ⊥) → IsAloneUpToMemory set k (changes change ∷ asks_state ∷ []) (cause_told why ∷ reply.State a d p ∷ []) → (a ≡ length k.changes) × (d ≡ k.done) × (p ≡ k.published)
  -- an answer is of all changes, which are done and published then
  pub answered : (q : Query) (r : Reply) (a d p : ℕ) → 0 < version_in r → IsAloneUpToMemory set k (asks q ∷ asks_state ∷ []) (r ∷ reply.State a d p ∷ []) → (version_in r ≡ length k.changes) × ((a ≡ length k.changes) × (d ≡ length k.changes) × (p ≡ length k.changes))
  -- a client that is told to wait did not ask for works to be finished, and is told the first change that isn't done
  pub waits : (q : Query) (n : ℕ) → IsAloneUpToMemory set k (asks q ∷ []) (reply.Pending n ∷ []) → (q.finish ≡ false) × (n ≡ k.done + 1) × (k.done < length k.changes)
