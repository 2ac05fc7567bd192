-- What a later listing has of its own.
use Rattle.std.specs.Prelude.{◌≡◌, ◌≢◌, ◌↔◌, ℕ, ◌+◌, ◌≤◌, not, nat_eq, List, [], ◌∷◌, ◌++◌, length, filter, Contains, Option, Some, None}
use Rattle.std.specs.List.{list_any}
use Rattle.std.specs.List.Sorted.{IsStrictlyIncreasing}
use Rattle.cq_base.specs.declared.lang.Lang.{Lang}
use Rattle.cq_base.specs.declared.change.Change.{Change}
use Rattle.cq_board.specs.Listings.{Listed, HaveSame, IsListing}
use Rattle.cq_projects.specs.Projects.{ListedProject, projects_in}
use Rattle.cq_board.specs.declared.live.Turnover.{Turnover}
use Rattle.cq_kept.specs.declared.kept.Kept.{Kept}
use Rattle.cq_kept.specs.Slots.{change_of}
use Rattle.std.specs.declared.sync.Arc.{Arc}
use Rattle.std.specs.declared.alloc.Global.{Global}
use Rattle.cq_board.specs.Edits.{put_by}

abbrev pub from_option : Option ℕ → List ℕ
from_option None = []
from_option (Some r) = r ∷ []

-- the numbers but for those that are gone
abbrev pub left : List ℕ → List ℕ → List ℕ
left numbers gone = filter (λ r. not (list_any (nat_eq r) gone)) numbers

-- new numbers are the old ones but for one, or but for each of some
abbrev pub LosesOne : ℕ → List ℕ → List ℕ → Type 0
LosesOne number old new = (r : ℕ) → Contains new r ↔ (Contains old r × (number ≢ r))

abbrev pub LosesEach : List ℕ → List ℕ → List ℕ → Type 0
LosesEach gone old new = (r : ℕ) → Contains new r ↔ (Contains old r × (Contains gone r → ⊥))

-- new numbers are old ones and those that were put, but for those that are gone
abbrev pub AreTurned : List ℕ → List ℕ → List ℕ → List ℕ → Type 0
AreTurned put gone old new = (r : ℕ) → Contains new r ↔ (Contains (old ++ put) r × (Contains gone r → ⊥))

abbrev pub TurnsOver : Turnover → List ℕ → List ℕ → Type 0
TurnsOver turnover old new = AreTurned turnover.put.items turnover.gone.items old new

-- The listing has these projects. Its numbers are those of an earlier one, with those that were put after them, but for
-- those that are gone.
pub record IsNext {W : Type 0} (IsWork : Lang → List ℕ → W → Type 0) (changes : List Change) (base : List ℕ) (projects : List (ListedProject W)) (put gone : List ℕ) : Type 0 where
  pub listing : IsListing IsWork changes (record { projects = projects; live = left (base ++ put) gone })
  pub rising : IsStrictlyIncreasing (base ++ put)
  pub known : (r : ℕ) → Contains (base ++ put) r → r ≤ length changes
  pub gone_known : (r : ℕ) → Contains gone r → r ≤ length changes

module _ {W : Type 0} (IsWork : Lang → List ℕ → W → Type 0) (number : ℕ) where
  -- the projects are those of some changes, to which the one of this number is next
  abbrev pub IsBefore : List (ListedProject W) → Type 0
  IsBefore projects = (changes : List Change) × (base : List ℕ) × (put : List ℕ) × (gone : List ℕ) × (length changes + 1 ≡ number) × IsNext IsWork changes base projects put gone

  -- whatever changes the projects were those of, they are those with one change more, which replaced or dropped a file
  abbrev pub AddsChange : Change → List (ListedProject W) → List (ListedProject W) → Option ℕ → Type 0
  AddsChange c old new replaced = (changes : List Change) (base put gone : List ℕ) → length changes + 1 ≡ number → IsNext IsWork changes base old put gone → IsNext IsWork (changes ++ c ∷ []) base new (put ++ put_by c number) (gone ++ from_option replaced)

  -- the same of a change that is kept
  abbrev pub AddsKept : Kept W → List (ListedProject W) → List (ListedProject W) → Option ℕ → Type 0
  AddsKept kept old new replaced = AddsChange (change_of kept.change) old new replaced

  -- and of projects that have owners
  abbrev pub AddsOwned : Kept W → List (Arc (ListedProject W) Global) → List (Arc (ListedProject W) Global) → Option ℕ → Type 0
  AddsOwned kept old new replaced = AddsKept kept (projects_in old) (projects_in new) replaced

  -- the listing is that of some changes, to which the one of this number is next
  abbrev pub IsListingBefore : Listed W → Type 0
  IsListingBefore l = (changes : List Change) × (length changes + 1 ≡ number) × IsListing IsWork changes l

  -- whatever changes the listing was that of, it is that of one change more
  abbrev pub ListsKept : Kept W → Listed W → Listed W → Type 0
  ListsKept kept old new = (changes : List Change) → length changes + 1 ≡ number → IsListing IsWork changes old → IsListing IsWork (changes ++ change_of kept.change ∷ []) new

-- of each project the owners' projects have the same files and conditions
abbrev pub OwnersHaveSame : {W : Type 0} → List (Arc (ListedProject W) Global) → List (Arc (ListedProject W) Global) → Type 0
OwnersHaveSame old new = HaveSame (projects_in old) (projects_in new)
