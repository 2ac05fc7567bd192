-- What a caller has seen whose put was accepted.
use Rattle.std.specs.Prelude.{◌≡◌, ℕ, None, true}
use Rattle.cq_history.specs.Changes.{is_put}
use Rattle.cq_history.specs.State.{state, slot_of, view_of, IsAccepted}
use Rattle.cq_hub.specs.Hubs.{HasSeen}
use Rattle.cq_hub.specs.declared.hub.Hub.{Ghosts}

-- the change with this number is accepted, and is a put, and the caller has no view open
abbrev pub HasSeenPut : {S W P : Type 0} → Ghosts S W P → S → P → ℕ → Type 0
HasSeenPut of hub pass number =
    HasSeen of.Stands hub pass (λ c h. IsAccepted (state (of.callers hub) h) number × (is_put (slot_of (state (of.callers hub) h) number).change ≡ true) × (view_of (state (of.callers hub) h) c ≡ None))
