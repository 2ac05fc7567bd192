-- What a worker does, turn by turn.
use Rattle.std.specs.Prelude.{◌≡◌, ◌⊎◌, ℕ, List, [], ◌∷◌, flat_map}
use Rattle.std.specs.List.{AllByRecursion}
use Rattle.cq_history.specs.declared.event.Event.{Event}
use Rattle.cq_history.specs.declared.event.Event.TheVariants as event
use Rattle.cq_hub.specs.Hubs.{Grows, IsPublication}
use Rattle.cq_hub.specs.declared.hub.Hub.{Ghosts}
use Rattle.cq_serve.specs.Turns.{Eases}

-- The events of a turn in which a change was taken: its work was done, was given up, or was done by another; and then the
-- caller asked.
abbrev pub IsOfTurn : ℕ → List Event → Type 0
IsOfTurn c events = (r : ℕ) × (
    (events ≡ event.Took c r ∷ event.Done c r ∷ event.Ask c ∷ [])
    ⊎ (events ≡ event.Took c r ∷ event.Back c r ∷ event.Ask c ∷ [])
    ⊎ (events ≡ event.Took c r ∷ event.Ask c ∷ []))

-- the caller's further events are those of turns, one after another
pub record Labour (alone : Type 0) (c : ℕ) (h after : List Event) : Type 0 where
  pub turns : List (List Event)
  pub each : AllByRecursion (IsOfTurn c) turns
  pub grows : Grows alone IsPublication c h after (flat_map (λ (turn : List Event). turn) turns)

-- for each caller and history that the first pass stood for
abbrev pub HasLaboured : {H W P : Type 0} → Ghosts H W P → H → P → P → Type 0
HasLaboured of hub old new = (c : ℕ) (h : List Event) → of.Stands hub old c h → Eases of hub c new h (Labour of.alone c h)
