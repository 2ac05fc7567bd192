-- Where the parts of a line bring a pass, over any hub.
use Rattle.std.specs.Prelude.{◌≡◌, ℕ, ◌≤◌, List, [], map, Option, None, IfSome}
use Rattle.std.specs.List.{AllByRecursion}
use Rattle.cq_history.specs.declared.event.Event.{Event}
use Rattle.cq_history.specs.declared.event.Event.TheVariants as event
use Rattle.cq_history.specs.State.{state, view_of}
use Rattle.cq_hub.specs.Hubs.{Grows, HasSeen, IsPublication, Never}
use Rattle.cq_talk.specs.Talk.{MayFollow, viewed}

-- the caller has no view open
abbrev pub IsClosed : ℕ → ℕ → List Event → Type 0
IsClosed callers c h = view_of (state callers h) c ≡ None

module _ {S P : Type 0} (Stands : S → P → ℕ → List Event → Type 0) (callers : ℕ) where
  -- it has seen a history in which its caller has no view open, and of which this holds
  abbrev pub MayLead : S → P → (List Event → Type 0) → Type 0
  MayLead hub pass If = HasSeen Stands hub pass (λ c h. IsClosed callers c h × If h)

  -- the pass stands for a history in which the caller has no view open, and of which this holds
  pub record Leads (c : ℕ) (hub : S) (pass : P) (Holds : List Event → Type 0) : Type 0 where
    pub after : List Event
    pub stands : Stands hub pass c after
    pub closed : IsClosed callers c after
    pub holds : Holds after

  -- For each caller and history that the pass stood for with no view open, if this held of the history, the pass
  -- stands for one after it of which that holds.
  abbrev pub Led : S → P → P → (List Event → Type 0) → (ℕ → List Event → List Event → Type 0) → Type 0
  Led hub old new If Row = (c : ℕ) (h : List Event) → Stands hub old c h → IsClosed callers c h → If h → Leads c hub new (Row c h)

-- nothing more is asked of the history
abbrev pub Always : List Event → Type 0
Always h = Unit {0}

-- the works of these changes were done
pub record Helps (alone : Type 0) (c to : ℕ) (h : List Event) (Holds : List Event → Type 0) (after : List Event) : Type 0 where
  pub finished : List ℕ
  pub up_to : AllByRecursion (λ (r : ℕ). r ≤ to) finished
  pub grows : Grows alone Never c h after (map (λ r. event.Done c r) finished)
  pub so : Holds after

-- a version was published, a view of one that is not below it opened and shut, and a sweep followed, or neither
pub record Views (alone : Type 0) (c to : ℕ) (h : List Event) (view : Option ℕ) (after : List Event) : Type 0 where
  pub helped : List Event
  pub helps : Grows alone IsPublication c h helped []
  pub shut : List Event
  pub views : Grows alone Never c helped shut (viewed c view)
  pub recent : IfSome view (λ v. to ≤ v)
  pub sweeps : Grows alone (MayFollow view) c shut after []
