-- What a reader may rely on along each lawful history.
use Rattle.std.specs.Prelude.{◌≡◌, ◌⊎◌, ◌↔◌, ℕ, ◌^◌, ◌<◌, ◌≤◌, false, List, [], ◌∷◌, ◌++◌, length, Contains, Some, IfSome}
use Rattle.cq_base.specs.declared.settings.Settings.{Settings}
use Rattle.cq_base.specs.declared.change.Change.{Change}
use Rattle.cq_history.specs.declared.event.Event.{Event}
use Rattle.cq_history.specs.declared.event.Event.TheVariants.{Took, Back, Done}
use Rattle.cq_history.specs.Changes.{is_put}
use Rattle.cq_history.specs.State.{State, state, after, changes_in, accepted, maker, own, ready, view_of, slot_of, IsAccepted, IsDone, IsTakenBy, AreDoneUpTo}
use Rattle.cq_history.specs.Lasts.{holder_in, IsDoneIn, view_in, published_in, floor_in}
use Rattle.cq_history.specs.Lawful.{Lawful}
use Rattle.cq_history.specs.Gone.{kept_count, kept_bytes}
use Rattle.cq_history.specs.Files.{Source, files_at, files_of, files_after, has_file, is_path_put, conditions_at, conditions_of}
use Rattle.cq_history.specs.Standing.{AreStanding, AreConditions}
use Rattle.cq_history.specs.Core.{Core, Step, IsReached, IsAppliedFor, IsSound, MayStep, stepped, first_core}

-- any beginning of a lawful history is lawful
abbrev pub BeginningsAreLawful : Type 0
BeginningsAreLawful = (settings : Settings) (callers : ℕ) (h later : List Event) → Lawful settings callers (h ++ later) → Lawful settings callers h

-- no open version is below the floor, or above the last one that was published
abbrev pub OpenVersionsAreKept : Type 0
OpenVersionsAreKept = (settings : Settings) (callers : ℕ) (h : List Event) → Lawful settings callers h → (by version : ℕ) → view_of (state callers h) by ≡ Some version → ((state callers h).floor ≤ version) × (version ≤ (state callers h).published)

-- what is ready, published and given up is in order
abbrev pub StandInOrder : Type 0
StandInOrder = (settings : Settings) (callers : ℕ) (h : List Event) → Lawful settings callers h → ((state callers h).floor ≤ (state callers h).published) × ((state callers h).published ≤ ready (state callers h))

-- none of the three ever falls
abbrev pub NothingFalls : Type 0
NothingFalls = (settings : Settings) (callers : ℕ) (h later : List Event) → Lawful settings callers (h ++ later) →
    (ready (state callers h) ≤ ready (state callers (h ++ later))) × ((state callers h).published ≤ (state callers (h ++ later)).published) × ((state callers h).floor ≤ (state callers (h ++ later)).floor)

-- the changes that a state has are those of the history's acceptances, in order
abbrev pub ChangesAreAccepted : Type 0
ChangesAreAccepted = (callers : ℕ) (h : List Event) → changes_in (state callers h) ≡ accepted h

-- the files and the conditions of a version depend on nothing after its acceptance
abbrev pub VersionsStay : Type 0
VersionsStay = (h later : List Event) (version : ℕ) (project : List ℕ) → version ≤ length (accepted h) →
    (files_at (accepted (h ++ later)) version project ≡ files_at (accepted h) version project) × (conditions_at (accepted (h ++ later)) version project ≡ conditions_at (accepted h) version project)

-- an event leaves a shard that has applied what it asks for between what is published and what is ready
abbrev pub ShardsStayReached : Type 0
ShardsStayReached = (s : State) (e : Event) (applied : ℕ) → IsAppliedFor (applied ∷ []) e → IsReached s applied → IsReached (after s e) applied

-- the first list has elements of the second, in its order
abbrev pub IsPartOf : {X : Type 0} → List X → List X → Type 0
IsPartOf [] ys = Unit {0}
IsPartOf (x ∷ xs) [] = ⊥
IsPartOf (x ∷ xs) (y ∷ ys) = ((x ≡ y) × IsPartOf xs ys) ⊎ IsPartOf (x ∷ xs) ys

-- the events of a caller are a part of the history, in its order, and later ones come after
abbrev pub OwnEventsAreAPart : Type 0
OwnEventsAreAPart = (by : ℕ) (h later : List Event) → IsPartOf (own by h) h × (own by (h ++ later) ≡ own by h ++ own by later)

-- a core is sound at first, and each step that it may take keeps it so
abbrev pub CoresStaySound : Type 0
CoresStaySound = (settings : Settings) (callers shards : ℕ) → IsSound settings callers (first_core shards) × ((k : Core) (step : Step) → IsSound settings callers k → MayStep settings callers k step → IsSound settings callers (stepped k step))

-- who has a change is who took it last, unless it was given back since
abbrev pub HoldersTookLast : Type 0
HoldersTookLast = (settings : Settings) (callers : ℕ) (h : List Event) (r : ℕ) → Lawful settings callers h → 0 < r → (slot_of (state callers h) r).holder ≡ holder_in r h

-- the files of a project are exactly those of the last put at each path, unless a later change drops it, in path order
abbrev pub FilesAreTheLastPuts : Type 0
FilesAreTheLastPuts = (changes : List Change) (project : List ℕ) → AreStanding changes project (files_of project changes)

-- whether a file exists after a change, by whether it existed before
abbrev pub PresenceGoesByChanges : Type 0
PresenceGoesByChanges = (project path : List ℕ) (number : ℕ) (files : List Source) (c : Change) → has_file path (files_after project number files c) ≡ is_path_put project path (has_file path files) c

-- an event of a lawful history is nobody's, or that of one of its callers
abbrev pub CallersAreThere : Type 0
CallersAreThere = (settings : Settings) (callers : ℕ) (h : List Event) (e : Event) → Lawful settings callers h → Contains h e → IfSome (maker e) (λ by. by < callers)

-- the version that a caller has open is that of its last opening, unless it shut its view since; so only the caller's own
-- events matter
abbrev pub OpenVersionsGoByOwnEvents : Type 0
OpenVersionsGoByOwnEvents = (settings : Settings) (callers : ℕ) (h : List Event) (by : ℕ) → Lawful settings callers h → (view_of (state callers h) by ≡ view_in by h) × (view_in by h ≡ view_in by (own by h))

-- an accepted change is done if it is not a put, or some event did it
abbrev pub DoneIsWhatWasDone : Type 0
DoneIsWhatWasDone = (settings : Settings) (callers : ℕ) (h : List Event) (r : ℕ) → Lawful settings callers h → IsDone (state callers h) r ↔ (IsAccepted (state callers h) r × ((is_put (slot_of (state callers h) r).change ≡ false) ⊎ IsDoneIn r h))

-- the published version and the floor are those of the last such event, or 0
abbrev pub TheLastIsPublished : Type 0
TheLastIsPublished = (callers : ℕ) (h : List Event) → ((state callers h).published ≡ published_in h) × ((state callers h).floor ≡ floor_in h)

-- what is ready is the greatest number up to which all changes are done
abbrev pub ReadyIsTheGreatest : Type 0
ReadyIsTheGreatest = (s : State) → AreDoneUpTo s (ready s) × ((d : ℕ) → AreDoneUpTo s d → d ≤ ready s)

-- the conditions of a project are those of its last gate, or none
abbrev pub ConditionsAreTheLastGates : Type 0
ConditionsAreTheLastGates = (changes : List Change) (project : List ℕ) → AreConditions changes project (conditions_of project changes)

-- a state has the accepted changes, and no more than the limit allows
abbrev pub FewAreAccepted : Type 0
FewAreAccepted = (settings : Settings) (callers : ℕ) (h : List Event) → Lawful settings callers h → (length (state callers h).slots ≡ length (accepted h)) × (length (accepted h) ≤ 2 ^ 60)

-- the floor keeps no more changes, and no more bytes of texts, than the limits allow
abbrev pub FewAreKept : Type 0
FewAreKept = (settings : Settings) (callers : ℕ) (h : List Event) → Lawful settings callers h →
    (kept_count (accepted h) (state callers h).floor ≤ settings.change_limit) × (kept_bytes (accepted h) (state callers h).floor ≤ settings.text_limit)

-- an accepted change stays so and stays what it is, and one that is done stays done
abbrev pub AcceptedChangesStay : Type 0
AcceptedChangesStay = (callers : ℕ) (h later : List Event) (r : ℕ) → IsAccepted (state callers h) r → IsAccepted (state callers (h ++ later)) r × ((slot_of (state callers (h ++ later)) r).change ≡ (slot_of (state callers h) r).change)

abbrev pub DoneChangesStay : Type 0
DoneChangesStay = (settings : Settings) (callers : ℕ) (h later : List Event) (r : ℕ) → Lawful settings callers (h ++ later) → IsDone (state callers h) r → IsDone (state callers (h ++ later)) r

-- what a caller has taken goes by its own events: it had it before, or took it since
abbrev pub TakenGoesByOwnEvents : Type 0
TakenGoesByOwnEvents = (settings : Settings) (callers : ℕ) (h later : List Event) (by r : ℕ) → Lawful settings callers (h ++ later) → IsTakenBy (state callers (h ++ later)) r by → IsTakenBy (state callers h) r by ⊎ Contains (own by later) (Took by r)

-- nobody has a change that was just given back, or is done
abbrev pub NobodyHasWhatIsOver : Type 0
NobodyHasWhatIsOver = (settings : Settings) (callers : ℕ) (h : List Event) (e : Event) (c by r : ℕ) → Lawful settings callers (h ++ e ∷ []) → (e ≡ Back c r) ⊎ (e ≡ Done c r) → IsTakenBy (state callers (h ++ e ∷ [])) r by → ⊥
