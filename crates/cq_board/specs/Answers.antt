-- What a board's calls answer.
use Rattle.std.specs.Prelude.{◌≡◌, ℕ, ◌+◌, nat_lt, Bool, true, if◌then◌else◌, List, length, take, fold, min, Option, Some, None, Result, MatchResult, ◌⊎◌}
use Rattle.std.specs.Arc.{arc_value}
use Rattle.std.specs.declared.sync.Arc.{Arc}
use Rattle.std.specs.declared.alloc.Global.{Global}
use Rattle.cq_base.specs.declared.lang.Lang.{Lang}
use Rattle.cq_base.specs.declared.settings.Settings.{Settings}
use Rattle.cq_base.specs.declared.change.Change.{Change}
use Rattle.cq_base.specs.declared.change.Change.TheVariants.{Put, Drop, Gate}
use Rattle.cq_history.specs.Changes.{is_put, IsWorkFor}
use Rattle.cq_history.specs.Gone.{IsGone}
use Rattle.cq_history.specs.State.{State, IsAccepted, slot_of, ready, first_free, changes_in}
use Rattle.cq_board.specs.declared.answers.Asked.{Asked}
use Rattle.cq_board.specs.declared.answers.Job.{Job}
use Rattle.cq_board.specs.declared.answers.Refused.{Refused}
use Rattle.cq_board.specs.declared.answers.Refused.TheVariants.{Absent, FullChanges, FullText, Memory}
use Rattle.cq_board.specs.declared.listing.View.{View}
use Rattle.cq_board.specs.Listings.{IsListing}
use Rattle.cq_history.specs.Lawful.{is_absent, is_full, is_long}

-- the first cause that holds
abbrev pub cause_among : Bool → Bool → Bool → Option Refused
cause_among absent full long = if absent then Some Absent else (if full then Some FullChanges else (if long then Some FullText else None))

-- why a change is not accepted, if it is not
abbrev pub refusal_of : Settings → State → Change → Option Refused
refusal_of set s change = cause_among (is_absent s change) (is_full set s) (is_long set s change)

-- it is accepted only if nothing is against it; the answer is the first cause against it, or that memory was refused
abbrev pub TellsCause : Settings → State → Change → Result ℕ Refused → Type 0
TellsCause set s change result = MatchResult result (λ _. refusal_of set s change ≡ None) (λ e. (e ≡ Memory) ⊎ (refusal_of set s change ≡ Some e))

abbrev pub asked_of : State → Asked
asked_of s = record { accepted = length s.slots; done = ready s; undone = if nat_lt (ready s) (length s.slots) then Some (ready s + 1) else None; published = s.published }

abbrev pub lower : ℕ → Option ℕ → ℕ
lower version None = version
lower version (Some seen) = min version seen

-- the least of the last published version and each open view's
abbrev pub greatest_floor : State → ℕ
greatest_floor s = fold lower s.published s.views

-- the job is to make the work of this change
abbrev pub IsJobOf : Change → Job → Type 0
IsJobOf (Put project path lang text) job = (job.lang ≡ lang) × (arc_value job.text ≡ text)
IsJobOf (Drop project path) job = ⊥
IsJobOf (Gate project conditions) job = ⊥

abbrev pub IsJob : State → Job → Type 0
IsJob s job = IsJobOf (slot_of s job.change).change job

-- it is a put whose work was done
abbrev pub IsDonePut : State → ℕ → Type 0
IsDonePut s r = IsAccepted s r × (is_put (slot_of s r).change ≡ true) × ((slot_of s r).finished ≡ true)

-- and the floor keeps it
abbrev pub IsKeptWork : State → ℕ → Type 0
IsKeptWork s r = IsDonePut s r × (IsGone (changes_in s) s.floor r → ⊥)

-- the work is that of a change
abbrev pub IsWorkAt : {W : Type 0} → (Lang → List ℕ → W → Type 0) → State → ℕ → Arc W Global → Type 0
IsWorkAt IsWork s r work = IsWorkFor IsWork (slot_of s r).change (arc_value work)

-- a change is accepted that is neither done nor taken
abbrev pub HasFree : State → Type 0
HasFree s = IsAccepted s (first_free s)

-- the view shows the listing of its version
abbrev pub IsViewOf : {W : Type 0} → (Lang → List ℕ → W → Type 0) → State → View W → Type 0
IsViewOf IsWork s view = IsListing IsWork (take view.version (changes_in s)) (arc_value view.listing)
