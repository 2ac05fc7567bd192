-- What a worker's turn does, by its answer.
use Rattle.std.specs.Prelude.{◌≡◌, ◌⊎◌, ℕ, List, [], ◌∷◌, None}
use Rattle.cq_history.specs.declared.event.Event.{Event}
use Rattle.cq_history.specs.declared.event.Event.TheVariants as event
use Rattle.cq_history.specs.State.{State, state, view_of, IsDone, IsUndone, IsTakenBy}
use Rattle.cq_hub.specs.Hubs.{Grows, IsPublication, Never}
use Rattle.cq_hub.specs.Says.{IsNoneFree}
use Rattle.cq_hub.specs.declared.hub.Hub.{Ghosts}
use Rattle.cq_serve.specs.declared.answers.Turn.{Turn}
use Rattle.cq_serve.specs.declared.answers.Turn.TheVariants.{Idle, Worked, Late, GaveBack, Memory}

-- the caller has no view open, and no undone change that it took and did not give back
pub record AtEase (s : State) (c : ℕ) : Type 0 where
  pub closed : view_of s c ≡ None
  pub hands : (r : ℕ) → IsTakenBy s r c → ⊥

module _ (alone : Type 0) (callers c : ℕ) (h : List Event) where
  -- Of the caller's own, first these events came, then a moment of which this holds, and then those. Others' events may
  -- stand anywhere between them, and publications after the moment.
  pub record Passes (before : List Event) (Says : State → Type 0) (behind after : List Event) : Type 0 where
    pub mid : List Event
    pub first : Grows alone Never c h mid before
    pub says : Says (state callers mid)
    pub rest : Grows alone IsPublication c mid after behind

  -- A change that was taken is done by this caller, or was done by another before; or memory was refused for its work, and
  -- it is given back, unless another has done it by then. After each of these the caller asks.
  abbrev pub IsTurn : Turn → List Event → Type 0
  IsTurn Idle after = Grows alone Never c h after [] × IsNoneFree (state callers after)
  IsTurn (Worked r) after = Passes (event.Took c r ∷ []) (λ s. IsUndone s r) (event.Done c r ∷ event.Ask c ∷ []) after
  IsTurn (Late r) after = Passes (event.Took c r ∷ []) (λ s. IsDone s r) (event.Ask c ∷ []) after
  IsTurn (GaveBack r) after =
      Passes (event.Took c r ∷ []) (λ s. IsTakenBy s r c) (event.Back c r ∷ event.Ask c ∷ []) after
      ⊎ Passes (event.Took c r ∷ []) (λ s. IsDone s r) (event.Ask c ∷ []) after
  IsTurn Memory after = Grows alone Never c h after []

module _ {H W P : Type 0} (of : Ghosts H W P) (hub : H) where
  -- The pass stands for a history of which this holds; if the caller was at ease before, it is so then.
  pub record Eases (c : ℕ) (pass : P) (h : List Event) (Holds : List Event → Type 0) : Type 0 where
    pub after : List Event
    pub stands : of.Stands hub pass c after
    pub holds : Holds after
    pub eased : AtEase (state (of.callers hub) h) c → AtEase (state (of.callers hub) after) c

  -- the caller asked, and something may have been published
  pub record Asks (c : ℕ) (pass : P) (h : List Event) : Type 0 where
    pub after : List Event
    pub stands : of.Stands hub pass c after
    pub grows : Grows of.alone IsPublication c h after (event.Ask c ∷ [])

  -- for each caller and history that the pass stood for
  module _ (old new : P) where
    abbrev pub HasTurned : Turn → Type 0
    HasTurned turn = (c : ℕ) (h : List Event) → of.Stands hub old c h → Eases c new h (IsTurn of.alone (of.callers hub) c h turn)

    abbrev pub HasAsked : Type 0
    HasAsked = (c : ℕ) (h : List Event) → of.Stands hub old c h → Asks c new h
