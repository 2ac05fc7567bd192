-- The entries that a caller reads of its open version.
use Rattle.std.specs.Prelude.{◌≡◌, ◌↔◌, ℕ, List, Vec, Option, Some, IfSome, IsNone}
use Rattle.std.specs.declared.alloc.Global.{Global}
use Rattle.cq_base.specs.declared.lang.Lang.{Lang}
use Rattle.cq_base.specs.declared.settings.Settings.{Settings}
use Rattle.cq_base.specs.declared.entry.Entry.{Entry}
use Rattle.cq_history.specs.Files.{Source, files_at}
use Rattle.cq_history.specs.Standing.{Has}
use Rattle.cq_history.specs.State.{changes_in, view_of}
use Rattle.cq_shard.specs.Shard.{HasWindow}
use Rattle.cq_board.specs.Entries.{AreEntriesAt}
use Rattle.cq_core.specs.Cores.{CoreState}

-- those of the version with the key if the key is the shard's, and else none
abbrev pub AreRead : {W : Type 0} → (W → List ℕ) → (Settings → Lang → List ℕ → W → Type 0) → CoreState → ℕ → ℕ → ℕ → List Entry → Type 0
AreRead keys_in IsWorkOf c by shard key entries =
    (version : ℕ) → view_of c.board.state by ≡ Some version → AreEntriesAt (HasWindow keys_in IsWorkOf c.board.settings) c.board.settings.shards shard (changes_in c.board.state) version key entries

-- each file of the caller's open version has its work
abbrev pub AreWorked : {W : Type 0} → (Lang → List ℕ → W → Type 0) → CoreState → ℕ → Type 0
AreWorked {W} IsWork c by =
    (version : ℕ) (project : List ℕ) (file : Source) → view_of c.board.state by ≡ Some version → Has (files_at (changes_in c.board.state) version project) file → (work : W) × IsWork file.lang file.body work

-- there is no answer exactly if the caller has no view open
abbrev pub IsNoneWhereShut : {X : Type 0} → CoreState → ℕ → Option X → Type 0
IsNoneWhereShut c by answer = IsNone answer ↔ IsNone (view_of c.board.state by)

-- if there is an answer, these are its entries
abbrev pub IsRead : {W : Type 0} → (W → List ℕ) → (Settings → Lang → List ℕ → W → Type 0) → CoreState → ℕ → ℕ → ℕ → Option (Vec Entry Global) → Type 0
IsRead keys_in IsWorkOf c by shard key answer = IfSome answer (λ entries. AreRead keys_in IsWorkOf c by shard key entries.items)

-- if there is an answer, the files have their works
abbrev pub IsWorked : {W X : Type 0} → (Settings → Lang → List ℕ → W → Type 0) → CoreState → ℕ → Option X → Type 0
IsWorked IsWorkOf c by answer = IfSome answer (λ _. AreWorked (IsWorkOf c.board.settings) c by)
