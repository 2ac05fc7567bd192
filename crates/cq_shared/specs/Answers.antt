-- What each call of a shared hub answers, and what it asks for.
use Rattle.std.specs.Prelude.{◌≡◌, ℕ, ◌<◌, List, [], ◌∷◌, Result, IfOk, Option, MatchOption, Vec}
use Rattle.std.specs.Arc.{arc_value}
use Rattle.std.specs.declared.sync.Arc.{Arc}
use Rattle.std.specs.declared.alloc.Global.{Global}
use Rattle.cq_base.specs.declared.lang.Lang.{Lang}
use Rattle.cq_base.specs.declared.change.Change.{Change}
use Rattle.cq_base.specs.declared.entry.Entry.{Entry}
use Rattle.cq_base.specs.declared.memory.Memory.{Memory}
use Rattle.cq_base.specs.declared.settings.Settings.{Settings}
use Rattle.cq_history.specs.declared.event.Event.TheVariants as event
use Rattle.cq_history.specs.Changes.{IsWorkFor}
use Rattle.cq_history.specs.Gone.{AreKeptPuts}
use Rattle.cq_history.specs.State.{accepted, slot_of, IsAccepted, IsDone, IsUndone, IsTakenBy}
use Rattle.cq_shard.specs.declared.indexed.Indexed.{Ghosts}
use Rattle.cq_shard.specs.Shard.{HasWindow}
use Rattle.cq_board.specs.Answers.{asked_of, greatest_floor}
use Rattle.cq_board.specs.declared.answers.Asked.{Asked}
use Rattle.cq_board.specs.declared.answers.Job.{Job}
use Rattle.cq_board.specs.declared.answers.Refused.{Refused}
use Rattle.cq_board.specs.declared.listing.View.{View}
use Rattle.cq_cells.specs.Passes.{by_of}
use Rattle.cq_chain.specs.Passes.{BoardPass}
use Rattle.cq_hub.specs.Hubs.{Extends, HasSeen, Never}
use Rattle.cq_hub.specs.Says.{IsAcceptedAs, IsRefusedFor, IsFirstFree, IsNoneFree, IsJobFor, HasPublished, HasGreatestFloor, AreEntriesWith}
use Rattle.cq_hub.specs.Views.{IsLatest, IsOpen}
use Rattle.cq_shared.specs.declared.shared.Shared.{Shared}
use Rattle.cq_shared.specs.SharedPasses.{SharedStands, settings_of, callers_of, state_of}
use Rattle.cq_shared.specs.Calls.{Calls}

module _ {W R : Type 0} (hub : Shared W R) (p q : BoardPass) where
  -- others' events came, and none of the caller's own
  abbrev pub SeesMore : Type 0
  SeesMore = Calls hub p q [] (λ _. Unit {0})

  -- it asked, and this is what it was told
  abbrev pub IsTold : Asked → Type 0
  IsTold asked = Calls hub p q (event.Ask (by_of p) ∷ []) (λ mid. asked ≡ asked_of (state_of hub mid))

  -- the change was accepted as this number, or not, for this cause
  abbrev pub Accepts : Change → ℕ → Type 0
  Accepts change number = Calls hub p q (event.Accept (by_of p) change ∷ []) (IsAcceptedAs (settings_of hub) (callers_of hub) change number)

  abbrev pub Refuses : Change → Refused → Type 0
  Refuses change cause = Calls hub p q [] (IsRefusedFor (settings_of hub) (callers_of hub) change cause)

  -- the job is that of the first change that is neither done nor taken, which the caller takes, or there is none
  abbrev pub Takes : Option Job → Type 0
  Takes job =
      MatchOption job (Calls hub p q [] (λ mid. IsNoneFree (state_of hub mid)))
      (λ j. Calls hub p q (event.Took (by_of p) j.change ∷ []) (λ mid. IsFirstFree (state_of hub mid) j))

  -- if there is an answer, it is the job of the change, or none if that is done
  abbrev pub FindsJob : ℕ → Result (Option Job) Memory → Type 0
  FindsJob change result = Calls hub p q [] (λ mid. IfOk result (IsJobFor (state_of hub mid) change))

  -- the caller had the change, undone, and gave it back, or it didn't have it
  abbrev pub GivesBack : ℕ → Type 0
  GivesBack change = Calls hub p q (event.Back (by_of p) change ∷ []) (λ mid. IsTakenBy (state_of hub mid) change (by_of p))

  abbrev pub HasNot : ℕ → Type 0
  HasNot change = Calls hub p q [] (λ mid. IsTakenBy (state_of hub mid) change (by_of p) → ⊥)

  -- the change was undone, and the caller did its work, or it was done
  abbrev pub Does : ℕ → Type 0
  Does change = Calls hub p q (event.Done (by_of p) change ∷ []) (λ mid. IsUndone (state_of hub mid) change)

  abbrev pub FindsDone : ℕ → Type 0
  FindsDone change = Calls hub p q [] (λ mid. IsDone (state_of hub mid) change)

  -- if there is an answer, it is the last published version, and at least this one
  abbrev pub Publishes : ℕ → Result ℕ Memory → Type 0
  Publishes to result = Calls hub p q [] (λ mid. IfOk result (HasPublished (state_of hub mid) to))

  -- the caller opened this view, which is of the last published version
  abbrev pub Opens : (Settings → Lang → List ℕ → W → Type 0) → View W → Type 0
  Opens IsWorkOf view = Calls hub p q (event.Open (by_of p) view.version ∷ []) (λ mid. IsLatest (IsWorkOf (settings_of hub)) (state_of hub mid) view)

  -- if there is an answer, its items are the entries with the key in all files of the view's version, by change and place
  abbrev pub Reads : Ghosts W → View W → ℕ → Result (Vec Entry Global) Memory → Type 0
  Reads of view key result =
      Calls hub p q [] (λ mid. IfOk result (λ entries. AreEntriesWith (HasWindow of.keys_in of.IsWorkOf (settings_of hub)) (accepted mid) view.version key entries.items))

  -- the caller shut its view
  abbrev pub Shuts : Type 0
  Shuts = Calls hub p q (event.Shut (by_of p) ∷ []) (λ _. Unit {0})

  -- the floor is the least of the published version and the open ones, and if there is an answer, it is that floor
  abbrev pub RaisesFloor : Type 0
  RaisesFloor = Calls hub p q [] (λ mid. (state_of hub mid).floor ≡ greatest_floor (state_of hub mid))

  abbrev pub Sweeps : Result ℕ Memory → Type 0
  Sweeps result = Calls hub p q [] (λ mid. HasGreatestFloor (state_of hub mid) result)

  -- the same as the trait of hubs says it
  abbrev pub ExtendsByDone : ℕ → Type 0
  ExtendsByDone change = Extends SharedStands ⊥ Never hub p q (λ c. event.Done c change ∷ []) (λ _ mid. IsUndone (state_of hub mid) change)

  abbrev pub ExtendsWhereDone : ℕ → Type 0
  ExtendsWhereDone change = Extends SharedStands ⊥ Never hub p q (λ _. []) (λ _ mid. IsDone (state_of hub mid) change)

module _ {W R : Type 0} (hub : Shared W R) (p : BoardPass) where
  -- the work is that of the change, as far as the pass has seen
  abbrev pub IsItsWork : (Settings → Lang → List ℕ → W → Type 0) → ℕ → Arc W Global → Type 0
  IsItsWork IsWorkOf change work = IsWorkFor (IsWorkOf (settings_of hub)) (slot_of (state_of hub p.seen) change).change (arc_value work)

  -- the caller has this view open
  abbrev pub IsViewing : (Settings → Lang → List ℕ → W → Type 0) → View W → Type 0
  IsViewing IsWorkOf view = IsOpen (IsWorkOf (settings_of hub)) (state_of hub p.seen) (by_of p) view

  -- the change is accepted and the work is its, in a history that the pass stands for
  abbrev pub HasSeenItsWork : (Settings → Lang → List ℕ → W → Type 0) → ℕ → Arc W Global → Type 0
  HasSeenItsWork IsWorkOf change work =
      HasSeen SharedStands hub p (λ _ h. IsAccepted (state_of hub h) change × IsWorkFor (IsWorkOf (settings_of hub)) (slot_of (state_of hub h) change).change (arc_value work))

-- a floor, and, if it is above another one, the puts that it keeps of what the pass has seen
abbrev pub KeepsAbove : ℕ → BoardPass → ℕ × List ℕ → Type 0
KeepsAbove above p kept = above < kept.0 → AreKeptPuts (accepted p.seen) kept.0 kept.1
