-- What a plain hub and its pass are, and for which histories the pass stands.
use Rattle.std.specs.Prelude.{◌≡◌, ℕ, ◌<◌, List, All, Result}
use Rattle.std.specs.declared.alloc.Global.{Global}
use Rattle.std.specs.declared.sync.Arc.{Arc}
use Rattle.cq_base.specs.declared.lang.Lang.{Lang}
use Rattle.cq_base.specs.declared.memory.Memory.{Memory}
use Rattle.cq_base.specs.declared.settings.Settings.{Settings}
use Rattle.cq_base.specs.Changes.{IsSoundChange}
use Rattle.cq_history.specs.declared.event.Event.{Event}
use Rattle.cq_history.specs.State.{accepted}
use Rattle.cq_history.specs.Lawful.{Lawful}
use Rattle.cq_shard.specs.Shard.{Contents, HasWindow}
use Rattle.cq_hub.specs.declared.solo.Solo.{Solo}
use Rattle.cq_hub.specs.declared.solo.SoloPass.{SoloPass}
use Rattle.cq_hub.specs.Hubs.{RaisesOnce}
use Rattle.cq_hub.specs.Answers.{HasSeenItsWork, HasViewOpen, Does, SeesDone, Shuts, Sweeps}
use Rattle.cq_hub.specs.Solos.{IsSoloOf, solo_lawful, solo_sound, solo_caller}

abbrev pub settings_of : {W : Type 0} → Solo W → Settings
settings_of hub = hub.settings

-- how many callers its history may have
abbrev pub callers_of : {W : Type 0} → Solo W → ℕ
callers_of hub = 1

-- for how many buckets it has asked
abbrev pub asked_by : {W : Type 0} → SoloPass W → ℕ
asked_by pass = pass.asked

-- the pass is that of the hub's one caller, and what it holds is what the history leaves
abbrev pub SoloStands : {W : Type 0} → (W → List ℕ) → (Settings → Lang → List ℕ → W → Type 0) → Solo W → SoloPass W → ℕ → List Event → Type 0
SoloStands keys_in IsWorkOf hub pass c h = IsSoloOf (HasWindow keys_in IsWorkOf (settings_of hub)) (settings_of hub) c h pass.board pass.shards.items

-- this is the floor of each of its shards
abbrev pub AreSweptTo : {W : Type 0} → SoloPass W → ℕ → Type 0
AreSweptTo pass floor = All (λ (c : Contents). c.floor ≡ floor) pass.shards.items

-- what the trait of hubs asks and says, of this one
module _ {W : Type 0} (keys_in : W → List ℕ) (IsWorkOf : Settings → Lang → List ℕ → W → Type 0) (hub : Solo W) where
  abbrev pub SoloHasItsWork : SoloPass W → ℕ → Arc W Global → Type 0
  SoloHasItsWork pass change work = HasSeenItsWork (SoloStands keys_in IsWorkOf) settings_of callers_of hub pass IsWorkOf change work

  abbrev pub SoloHasViewOpen : SoloPass W → Type 0
  SoloHasViewOpen pass = HasViewOpen (SoloStands keys_in IsWorkOf) settings_of callers_of hub pass

  abbrev pub SoloDoes : SoloPass W → SoloPass W → ℕ → Type 0
  SoloDoes old new change = Does (SoloStands keys_in IsWorkOf) (Unit {0}) settings_of callers_of hub old new change

  abbrev pub SoloSeesDone : SoloPass W → SoloPass W → ℕ → Type 0
  SoloSeesDone old new change = SeesDone (SoloStands keys_in IsWorkOf) (Unit {0}) settings_of callers_of hub old new change

  abbrev pub SoloSweeps : SoloPass W → SoloPass W → Result ℕ Memory → Type 0
  SoloSweeps old new result = Sweeps (SoloStands keys_in IsWorkOf) (Unit {0}) settings_of callers_of hub old new result

  abbrev pub SoloRaisesOnce : SoloPass W → SoloPass W → Type 0
  SoloRaisesOnce old new = RaisesOnce (SoloStands keys_in IsWorkOf) (Unit {0}) hub old new

  abbrev pub SoloShuts : SoloPass W → SoloPass W → Type 0
  SoloShuts old new = Shuts (SoloStands keys_in IsWorkOf) (Unit {0}) settings_of callers_of hub old new

module _ {W : Type 0} (keys_in : W → List ℕ) (IsWorkOf : Settings → Lang → List ℕ → W → Type 0) (hub : Solo W) (pass : SoloPass W) (c : ℕ) (h : List Event) (is : SoloStands keys_in IsWorkOf hub pass c h) where
  pub stands_lawful : Lawful (settings_of hub) (callers_of hub) h
  stands_lawful = solo_lawful (HasWindow keys_in IsWorkOf (settings_of hub)) (settings_of hub) c h pass.board pass.shards.items is

  pub stands_sound : All IsSoundChange (accepted h)
  stands_sound = solo_sound (HasWindow keys_in IsWorkOf (settings_of hub)) (settings_of hub) c h pass.board pass.shards.items is

  pub stands_caller : c < callers_of hub
  stands_caller = solo_caller (HasWindow keys_in IsWorkOf (settings_of hub)) (settings_of hub) c h pass.board pass.shards.items is
