-- What a hub publishes, and the works that its shards apply before.
use Rattle.std.specs.Prelude.{◌≡◌, ℕ, ◌+◌, ◌-◌, ◌<◌, ◌≤◌, ◌^◌, List, length, All, Option, IfSome, Vec}
use Rattle.std.specs.Arc.{arc_value}
use Rattle.std.specs.declared.sync.Arc.{Arc}
use Rattle.std.specs.declared.alloc.Global.{Global}
use Rattle.cq_base.specs.declared.lang.Lang.{Lang}
use Rattle.cq_base.specs.declared.change.Change.{Change}
use Rattle.cq_base.specs.declared.settings.Settings.{Settings}
use Rattle.cq_history.specs.State.{accepted}
use Rattle.cq_shard.specs.declared.indexed.Indexed.{Ghosts}
use Rattle.cq_shard.specs.Shard.{Contents, StandsFor, HasWindow, HaveTheirWorks}
use Rattle.cq_cells.specs.Passes.{least}
use Rattle.cq_chain.specs.Passes.{BoardPass}
use Rattle.cq_shared.specs.declared.shared.Shared.{Shared}
use Rattle.cq_shared.specs.SharedPasses.{settings_of}

-- the works of the changes after one up to another, of few keys each
pub record AreWorksFrom {W : Type 0} (keys_in : W → List ℕ) (IsWork : Lang → List ℕ → W → Type 0) (changes : List Change) (base to : ℕ) (works : List (Option (Arc W Global))) : Type 0 where
  pub number : length works ≡ to - base
  pub few : All (λ work. IfSome work (λ w. length (keys_in (arc_value w)) < 2 ^ 32)) works
  pub theirs : HaveTheirWorks (λ lang text w. IsWork lang text (arc_value w)) changes base works

-- they are so of the changes that the pass has seen
abbrev pub HasWorksFrom : {W R : Type 0} → Shared W R → BoardPass → Ghosts W → ℕ → ℕ → List (Option (Arc W Global)) → Type 0
HasWorksFrom hub p of base to works = AreWorksFrom of.keys_in (of.IsWorkOf (settings_of hub)) (accepted p.seen) base to works

-- a version, and so the works after it up to another one
abbrev pub HasWorksUpTo : {W R : Type 0} → Shared W R → BoardPass → Ghosts W → ℕ → ℕ × Vec (Option (Arc W Global)) Global → Type 0
HasWorksUpTo hub p of to from = HasWorksFrom hub p of from.0 to from.1.items

-- a shard that stood for some changes stands for them then, if the works are those of the changes after what it had applied
abbrev pub StandsWithWorks : {W : Type 0} → (W → List ℕ) → (Settings → Lang → List ℕ → W → Type 0) → Contents → List (Option (Arc W Global)) → (Type 0 → Type 0) → Contents → Type 0
StandsWithWorks keys_in IsWorkOf old works Holds new =
    (settings : Settings) (changes : List Change) → StandsFor (HasWindow keys_in IsWorkOf settings) changes old
    → HaveTheirWorks (λ lang text w. IsWorkOf settings lang text (arc_value w)) changes old.applied works → Holds (StandsFor (HasWindow keys_in IsWorkOf settings) changes new)

-- the same of a kind of work
abbrev pub StandsAfter : {W : Type 0} → Ghosts W → Contents → List (Option (Arc W Global)) → (Type 0 → Type 0) → Contents → Type 0
StandsAfter of old works Holds new = StandsWithWorks of.keys_in of.IsWorkOf old works Holds new

-- the shard is known to be a change further than it was known to be, if that was less than so many
abbrev pub GoesFurther : ℕ → ℕ → BoardPass → BoardPass → Type 0
GoesFurther shard to p q = (n : ℕ) → n ≤ least p shard → n < to → n + 1 ≤ least q shard
