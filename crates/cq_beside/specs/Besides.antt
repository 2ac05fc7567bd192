-- What is known of a pass after a talk with workers beside it.
use Rattle.std.specs.Prelude.{◌≡◌, ℕ, ◌+◌, ◌<◌, ◌≤◌, List}
use mathlib.Core.List.{IsPrefix}
use Rattle.cq_base.specs.Settings.{IsInRange}
use Rattle.cq_base.specs.declared.settings.Settings.{Settings}
use Rattle.cq_cells.specs.Callers.{Among}
use Rattle.cq_cells.specs.Passes.{by_of}
use Rattle.cq_chain.specs.Passes.{BoardPass, HasNoneFrom}
use Rattle.cq_history.specs.declared.event.Event.{Event}
use Rattle.cq_shared.specs.declared.shared.Shared.{Shared}
use Rattle.cq_shared.specs.SharedPasses.{IsPassOf, settings_of}
use Rattle.cq_talk.specs.Gathered.{StaysQuiet}

-- the settings are in range, and the hub's
abbrev pub IsSetTo : {W R : Type 0} → Settings → Shared W R → Type 0
IsSetTo set hub = IsInRange set × (settings_of hub ≡ set)

module _ {W R : Type 0} (hub : Shared W R) where
  -- the pass is still that of its caller, which accepts nothing and opens no view if it had done neither
  pub record Worked (p q : BoardPass) : Type 0 where
    pub of : IsPassOf hub q
    pub caller : by_of q ≡ by_of p
    pub quiet : StaysQuiet p.seen (by_of p) → StaysQuiet q.seen (by_of p)

  -- The talk of a caller, who was made after so many workers, came to a history of which this holds. The callers that
  -- were made ended in the pass, which has seen more by then: none of them but that one accepted anything or opened a view, and
  -- no other has an event.
  pub record Besides (p : BoardPass) (workers : ℕ) (q : BoardPass) (Said : ℕ → List Event → List Event → ℕ → Type 0) : Type 0 where
    pub heard : List Event
    pub asked : ℕ
    pub said : Said (p.next + workers) p.seen heard asked
    pub front : IsPrefix heard q.seen
    pub of : IsPassOf hub q
    pub next : q.next ≡ p.next + (workers + 1)
    pub first : Among (by_of p) q.callers
    pub first_quiet : StaysQuiet p.seen (by_of p) → StaysQuiet q.seen (by_of p)
    pub joined : (c : ℕ) → p.next ≤ c → c < p.next + workers → Among c q.callers
    pub quiet : (c : ℕ) → p.next ≤ c → c < p.next + workers → StaysQuiet p.seen c → StaysQuiet q.seen c
    pub unmade : HasNoneFrom (p.next + (workers + 1)) q.seen
