-- What a call of a shared hub does to what its pass has seen.
use Rattle.std.specs.Prelude.{◌≡◌, ℕ, List, [], ◌++◌}
use Rattle.std.specs.List.{AllByRecursion}
use Rattle.cq_history.specs.declared.event.Event.{Event}
use Rattle.cq_history.specs.State.{own}
use Rattle.cq_cells.specs.Passes.{by_of}
use Rattle.cq_chain.specs.Passes.{BoardPass}
use Rattle.cq_hub.specs.Hubs.{Grows, Never}
use Rattle.cq_shared.specs.declared.shared.Shared.{Shared}
use Rattle.cq_shared.specs.SharedPasses.{IsPassOf, ended_in}

-- Others' events may come after what the pass had seen; what the call answers is said of the history then, and the call's
-- own events come after that at once. Of each caller that ended in the pass, the history has the events that the pass had
-- seen, and no other.
pub record Calls {W R : Type 0} (hub : Shared W R) (p q : BoardPass) (events : List Event) (Says : List Event → Type 0) : Type 0 where
  pub mid : List Event
  pub others : Grows ⊥ Never (by_of p) p.seen mid []
  pub says : Says mid
  pub seen : q.seen ≡ mid ++ events
  pub of : IsPassOf hub q
  pub callers : q.callers ≡ p.callers
  pub next : q.next ≡ p.next
  pub room : q.room ≡ p.room
  pub ended : AllByRecursion (λ (c : ℕ). own c q.seen ≡ own c p.seen) (ended_in p)
