-- What each call of a hub answers, and what it asks for.
use Rattle.std.specs.Prelude.{◌≡◌, ◌≤◌, ℕ, List, [], ◌∷◌, Result, IfOk, Option, None, MatchOption, IsSome, Vec}
use Rattle.std.specs.Arc.{arc_value}
use Rattle.std.specs.declared.alloc.Global.{Global}
use Rattle.std.specs.declared.sync.Arc.{Arc}
use Rattle.cq_base.specs.declared.change.Change.{Change}
use Rattle.cq_base.specs.declared.entry.Entry.{Entry}
use Rattle.cq_base.specs.declared.lang.Lang.{Lang}
use Rattle.cq_base.specs.declared.memory.Memory.{Memory}
use Rattle.cq_base.specs.declared.settings.Settings.{Settings}
use Rattle.cq_history.specs.Changes.{IsWorkFor}
use Rattle.cq_history.specs.State.{state, accepted, ready, slot_of, view_of, IsAccepted, IsDone, IsUndone, IsTakenBy}
use Rattle.cq_history.specs.declared.event.Event.{Event}
use Rattle.cq_history.specs.declared.event.Event.TheVariants as event
use Rattle.cq_shard.specs.Shard.{HasWindow}
use Rattle.cq_shard.specs.declared.indexed.Indexed as indexed
use Rattle.cq_board.specs.Answers.{asked_of}
use Rattle.cq_board.specs.declared.answers.Asked.{Asked}
use Rattle.cq_board.specs.declared.answers.Job.{Job}
use Rattle.cq_board.specs.declared.answers.Refused.{Refused}
use Rattle.cq_board.specs.declared.listing.View.{View}
use Rattle.cq_hub.specs.Hubs.{Extends, HasSeen, IsPublication, IsFloor, Never}
use Rattle.cq_hub.specs.Says.{IsAcceptedAs, IsRefusedFor, IsFirstFree, IsNoneFree, IsJobFor, HasPublished, HasGreatestFloor, AreEntriesWith}
use Rattle.cq_hub.specs.Views.{IsLatest, IsOpen}

-- ---- what a call asks for: it holds of a history which the pass stands for

module _ {S P : Type 0} (Stands : S → P → ℕ → List Event → Type 0) (settings : S → Settings) (callers : S → ℕ) (hub : S) (pass : P) where
  -- the change is accepted
  abbrev pub HasSeenChange : ℕ → Type 0
  HasSeenChange change = HasSeen Stands hub pass (λ _ h. IsAccepted (state (callers hub) h) change)

  -- it is, and the work is its
  abbrev pub HasSeenItsWork : {W : Type 0} → (Settings → Lang → List ℕ → W → Type 0) → ℕ → Arc W Global → Type 0
  HasSeenItsWork IsWorkOf change work =
      HasSeen Stands hub pass (λ _ h. IsAccepted (state (callers hub) h) change × IsWorkFor (IsWorkOf (settings hub)) (slot_of (state (callers hub) h) change).change (arc_value work))

  -- the changes up to this number are done
  abbrev pub HasSeenReady : ℕ → Type 0
  HasSeenReady to = HasSeen Stands hub pass (λ _ h. to ≤ ready (state (callers hub) h))

  -- the caller has no view open
  abbrev pub HasNoView : Type 0
  HasNoView = HasSeen Stands hub pass (λ c h. view_of (state (callers hub) h) c ≡ None)

  -- the caller has one open
  abbrev pub HasViewOpen : Type 0
  HasViewOpen = HasSeen Stands hub pass (λ c h. IsSome (view_of (state (callers hub) h) c))

  -- the caller has this one open
  abbrev pub HasOpen : {W : Type 0} → (Settings → Lang → List ℕ → W → Type 0) → View W → Type 0
  HasOpen IsWorkOf view = HasSeen Stands hub pass (λ c h. IsOpen (IsWorkOf (settings hub)) (state (callers hub) h) c view)

-- ---- what a call answers: at the old pass and the new one, after each history that the old one stood for

module _ {S P : Type 0} (Stands : S → P → ℕ → List Event → Type 0) (alone : Type 0) (settings : S → Settings) (callers : S → ℕ) (hub : S) (old new : P) where
  -- others' events came, and none of the caller's own
  abbrev pub SeesMore : Type 0
  SeesMore = Extends Stands alone Never hub old new (λ _. []) (λ _ _. Unit {0})

  -- the change was accepted as this number, or not, for this cause
  abbrev pub Accepts : Change → ℕ → Type 0
  Accepts change number = Extends Stands alone Never hub old new (λ c. event.Accept c change ∷ []) (λ _. IsAcceptedAs (settings hub) (callers hub) change number)

  abbrev pub Refuses : Change → Refused → Type 0
  Refuses change cause = Extends Stands alone Never hub old new (λ _. []) (λ _. IsRefusedFor (settings hub) (callers hub) change cause)

  -- the caller asked, and this is what it was told
  abbrev pub IsTold : Asked → Type 0
  IsTold asked = Extends Stands alone Never hub old new (λ c. event.Ask c ∷ []) (λ _ mid. asked ≡ asked_of (state (callers hub) mid))

  -- the job is that of the first change that is neither done nor taken, which the caller takes, or there is none
  abbrev pub Takes : Option Job → Type 0
  Takes job =
      MatchOption job (Extends Stands alone Never hub old new (λ _. []) (λ _ mid. IsNoneFree (state (callers hub) mid)))
      (λ j. Extends Stands alone Never hub old new (λ c. event.Took c j.change ∷ []) (λ _ mid. IsFirstFree (state (callers hub) mid) j))

  -- it is the change's job, or there is none if the change is done
  abbrev pub FindsJob : ℕ → Result (Option Job) Memory → Type 0
  FindsJob change result = Extends Stands alone Never hub old new (λ _. []) (λ _ mid. IfOk result (IsJobFor (state (callers hub) mid) change))

  -- the caller had the change, undone, and gave it back, or it didn't have it
  abbrev pub GivesBack : ℕ → Type 0
  GivesBack change = Extends Stands alone Never hub old new (λ c. event.Back c change ∷ []) (λ c mid. IsTakenBy (state (callers hub) mid) change c)

  abbrev pub HasNot : ℕ → Type 0
  HasNot change = Extends Stands alone Never hub old new (λ _. []) (λ c mid. IsTakenBy (state (callers hub) mid) change c → ⊥)

  -- the change was undone, and the caller did its work, or it was done
  abbrev pub Does : ℕ → Type 0
  Does change = Extends Stands alone Never hub old new (λ c. event.Done c change ∷ []) (λ _ mid. IsUndone (state (callers hub) mid) change)

  abbrev pub SeesDone : ℕ → Type 0
  SeesDone change = Extends Stands alone Never hub old new (λ _. []) (λ _ mid. IsDone (state (callers hub) mid) change)

  -- publications came; if there is an answer, it is the last published version, and at least this one
  abbrev pub Publishes : ℕ → Result ℕ Memory → Type 0
  Publishes to result = Extends Stands alone IsPublication hub old new (λ _. []) (λ _ mid. IfOk result (HasPublished (state (callers hub) mid) to))

  -- the caller opened this view, which is of the last published version
  abbrev pub Opens : {W : Type 0} → (Settings → Lang → List ℕ → W → Type 0) → View W → Type 0
  Opens IsWorkOf view = Extends Stands alone Never hub old new (λ c. event.Open c view.version ∷ []) (λ _ mid. IsLatest (IsWorkOf (settings hub)) (state (callers hub) mid) view)

  -- if there is an answer, it is the entries with the key in all files of the view's version
  abbrev pub Reads : {W : Type 0} → indexed.Ghosts W → View W → ℕ → Result (Vec Entry Global) Memory → Type 0
  Reads of view key result =
      Extends Stands alone Never hub old new (λ _. []) (λ _ mid. IfOk result (λ entries. AreEntriesWith (HasWindow of.keys_in of.IsWorkOf (settings hub)) (accepted mid) view.version key entries.items))

  -- floors may have come; the last one is the least of the published version and the open ones, and if there is an answer, it
  -- is that
  abbrev pub Sweeps : Result ℕ Memory → Type 0
  Sweeps result = Extends Stands alone IsFloor hub old new (λ _. []) (λ _ mid. HasGreatestFloor (state (callers hub) mid) result)

  -- the caller shut its view
  abbrev pub Shuts : Type 0
  Shuts = Extends Stands alone Never hub old new (λ c. event.Shut c ∷ []) (λ _ _. Unit {0})
