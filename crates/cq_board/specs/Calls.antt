-- What the calls of a board and of its parts promise, beside what they answer.
use Rattle.std.specs.Prelude.{◌≡◌, ℕ, List, Option, MatchOption}
use Rattle.std.specs.Arc.{arc_value}
use Rattle.std.specs.declared.sync.Arc.{Arc}
use Rattle.std.specs.declared.alloc.Global.{Global}
use Rattle.cq_base.specs.declared.lang.Lang.{Lang}
use Rattle.cq_base.specs.declared.settings.Settings.{Settings}
use Rattle.cq_base.specs.declared.change.Change.{Change}
use Rattle.cq_history.specs.declared.event.Event.{Event}
use Rattle.cq_history.specs.declared.event.Event.TheVariants as event
use Rattle.cq_history.specs.Gone.{AreKeptPuts}
use Rattle.cq_history.specs.Lawful.{Permits}
use Rattle.cq_history.specs.State.{State, IsTakenBy, first_free, changes_in}
use Rattle.cq_kept.specs.Accepted.{Accepted, bare_state}
use Rattle.cq_board.specs.declared.answers.Job.{Job}
use Rattle.cq_board.specs.declared.answers.Refused.{Refused}
use Rattle.cq_board.specs.declared.listing.View.{View}
use Rattle.cq_board.specs.Answers.{IsJob, IsWorkAt, HasFree, refusal_of}
use Rattle.cq_board.specs.Sound.{HaveFewConditions}
use Rattle.cq_board.specs.Stands.{BoardState, Adds, IsCaller}

-- why a change is not accepted beside those that are held, if it is not
abbrev pub refusal_in : Accepted → Change → Option Refused
refusal_in a change = refusal_of a.settings (bare_state a) change

-- the event is lawful for the board
abbrev pub Allows : BoardState → Event → Type 0
Allows b e = Permits b.settings b.state e

-- there is this caller, and has the change, which is not done
abbrev pub HasTaken : BoardState → ℕ → ℕ → Type 0
HasTaken b by change = IsCaller b by × IsTakenBy b.state change by

-- the job is that of the change with this number
abbrev pub IsJobAt : State → ℕ → Job → Type 0
IsJobAt s r job = (job.change ≡ r) × IsJob s job

-- it is that of the first change that is neither done nor taken
abbrev pub IsFirstJob : State → Job → Type 0
IsFirstJob s job = job.change ≡ first_free s

-- the caller took the job's change
abbrev pub AddsTaking : ℕ → BoardState → BoardState → Job → Type 0
AddsTaking by old new job = Adds (event.Took by job.change) old new

-- without a job nothing has changed, and there is one only if a change was free
abbrev pub TellsFree : BoardState → BoardState → Option Job → Type 0
TellsFree old new job = MatchOption job (new ≡ old) (λ _. HasFree old.state)

-- the puts up to the floor that it keeps are exactly these, ascending
abbrev pub KeepsPuts : State → List ℕ → Type 0
KeepsPuts s numbers = AreKeptPuts (changes_in s) s.floor numbers

module _ {W : Type 0} where
  -- the work is that of a change on the board
  abbrev pub IsWorkOn : (Settings → Lang → List ℕ → W → Type 0) → BoardState → ℕ → Arc W Global → Type 0
  IsWorkOn IsWorkOf b r work = IsWorkAt (IsWorkOf b.settings) b.state r work

  -- it is that of a change that is held
  abbrev pub IsWorkHeld : (Settings → Lang → List ℕ → W → Type 0) → Accepted → ℕ → Arc W Global → Type 0
  IsWorkHeld IsWorkOf a r work = IsWorkAt (IsWorkOf a.settings) (bare_state a) r work

  -- no project that the view shows has more than 32 conditions
  abbrev pub ShowsFewConditions : View W → Type 0
  ShowsFewConditions view = HaveFewConditions (arc_value view.listing).projects
