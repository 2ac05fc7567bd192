-- What a call of a hub does to the history for which a pass stands.
use Rattle.std.specs.Prelude.{◌≡◌, ◌⊎◌, ℕ, ◌+◌, ◌-◌, ◌^◌, min, List, [], ◌∷◌, ◌++◌, Some}
use Rattle.std.specs.List.{AllByRecursion}
use Rattle.cq_history.specs.declared.event.Event.{Event}
use Rattle.cq_history.specs.declared.event.Event.TheVariants.{Accept, Ask, Took, Back, Done, Publish, Open, Shut, Floor}
use Rattle.cq_history.specs.State.{own, maker}

abbrev pub IsPublication : Event → Type 0
IsPublication (Accept by change) = ⊥
IsPublication (Ask by) = ⊥
IsPublication (Took by r) = ⊥
IsPublication (Back by r) = ⊥
IsPublication (Done by r) = ⊥
IsPublication (Publish p) = Unit {0}
IsPublication (Open by p) = ⊥
IsPublication (Shut by) = ⊥
IsPublication (Floor f) = ⊥

abbrev pub IsFloor : Event → Type 0
IsFloor (Accept by change) = ⊥
IsFloor (Ask by) = ⊥
IsFloor (Took by r) = ⊥
IsFloor (Back by r) = ⊥
IsFloor (Done by r) = ⊥
IsFloor (Publish p) = ⊥
IsFloor (Open by p) = ⊥
IsFloor (Shut by) = ⊥
IsFloor (Floor f) = Unit {0}

-- no event
abbrev pub Never : Event → Type 0
Never e = ⊥

-- The second history is the first one and further events, of which the caller's are these, in this order. Others' events
-- may be anywhere between them; but if nobody else calls the hub, only those that `May` come.
pub record Grows (alone : Type 0) (May : Event → Type 0) (c : ℕ) (h after events : List Event) : Type 0 where
  pub more : List Event
  pub after_is : after ≡ h ++ more
  pub own_is : own c more ≡ events
  pub alone_is : alone → AllByRecursion (λ (e : Event). (maker e ≡ Some c) ⊎ May e) more

module _ {S P : Type 0} (Stands : S → P → ℕ → List Event → Type 0) where
  -- it is a pass of the hub
  abbrev pub IsPassOf : S → P → Type 0
  IsPassOf hub pass = (c : ℕ) × (h : List Event) × Stands hub pass c h

  -- it stands for a history of which this holds, which its caller has seen
  abbrev pub HasSeen : S → P → (ℕ → List Event → Type 0) → Type 0
  HasSeen hub pass Holds = (c : ℕ) × (h : List Event) × Stands hub pass c h × Holds c h

  -- this holds of each history that a pass of a hub stands for
  abbrev pub WhereStands : (S → ℕ → List Event → Type 0) → Type 0
  WhereStands Holds = (hub : S) (pass : P) (c : ℕ) (h : List Event) → Stands hub pass c h → Holds hub c h

  -- A call after a history: others' events may come, what the call answers is said of the history then, and after that
  -- one the call's own events come at once. The pass stands for all of it.
  pub record Calls (alone : Type 0) (May : Event → Type 0) (c : ℕ) (hub : S) (pass : P) (h events : List Event) (Says : List Event → Type 0) : Type 0 where
    pub mid : List Event
    pub others : Grows alone May c h mid []
    pub says : Says mid
    pub stands : Stands hub pass c (mid ++ events)

  -- it is so for each caller and history that the pass stood for
  abbrev pub Extends : Type 0 → (Event → Type 0) → S → P → P → (ℕ → List Event) → (ℕ → List Event → Type 0) → Type 0
  Extends alone May hub old new events Says =
      (c : ℕ) (h : List Event) → Stands hub old c h → Calls alone May c hub new h (events c) (Says c)

  -- it stands for each history that it stood for
  abbrev pub StandsOn : S → P → P → Type 0
  StandsOn hub old new = (c : ℕ) (h : List Event) → Stands hub old c h → Stands hub new c h

  -- if nobody else calls the hub, the history is the same, or has one floor more
  abbrev pub RaisesOnce : Type 0 → S → P → P → Type 0
  RaisesOnce alone hub old new =
      alone → (c : ℕ) (h : List Event) → Stands hub old c h → Stands hub new c h ⊎ ((f : ℕ) × Stands hub new c (h ++ Floor f ∷ []))

-- it is one more, up to its last value
abbrev pub one_more : ℕ → ℕ
one_more n = min (n + 1) (2 ^ 64 - 1)

-- or so many more
abbrev pub more_by : ℕ → ℕ → ℕ
more_by n more = min (n + more) (2 ^ 64 - 1)
