-- What a board's fields keep.
use Rattle.std.specs.Prelude.{◌≡◌, ◌⊎◌, ℕ, ◌<◌, ◌≤◌, ◌^◌, List, length, take, All, Option}
use Rattle.std.specs.Arc.{arc_value}
use Rattle.std.specs.List.{prefix_len}
use Rattle.std.specs.BTreeSet.{BTreeSet}
use Rattle.std.specs.declared.sync.Arc.{Arc}
use Rattle.std.specs.declared.alloc.Global.{Global}
use Rattle.cq_base.specs.Changes.{IsSoundChange}
use Rattle.cq_base.specs.declared.lang.Lang.{Lang}
use Rattle.cq_base.specs.declared.settings.Settings.{Settings}
use Rattle.cq_history.specs.Gone.{kept_count}
use Rattle.cq_history.specs.State.{is_done}
use Rattle.cq_board.specs.declared.free.FreeChanges.{FreeChanges}
use Rattle.cq_kept.specs.Accepted.{Accepted}
use Rattle.cq_board.specs.Free.{AreFree, room_of}
use Rattle.cq_board.specs.Listings.{Listed, IsListing}
use Rattle.cq_kept.specs.Slots.{changes_of}
use Rattle.cq_board.specs.Undone.{AreUndone}

module _ {W : Type 0} where
  -- the listing is that of a version of the changes
  abbrev pub ListsVersion : (Settings → Lang → List ℕ → W → Type 0) → Accepted → ℕ → Listed W → Type 0
  ListsVersion IsWorkOf a version l = IsListing (IsWorkOf a.settings) (take version (changes_of a.slots)) l

  -- the same of a listing that has owners
  abbrev pub OwnsVersion : (Settings → Lang → List ℕ → W → Type 0) → Accepted → ℕ → Arc (Listed W) Global → Type 0
  OwnsVersion IsWorkOf a version owner = ListsVersion IsWorkOf a version (arc_value owner)

  pub record BoardOk (IsWork : Lang → List ℕ → W → Type 0) (a : Accepted) (undone : BTreeSet ℕ) (free : FreeChanges) (published listed : ℕ) (l : Listed W) (views : List (Option ℕ)) : Type 0 where
    pub sound : All IsSoundChange (changes_of a.slots)
    pub few_accepted : length a.slots ≤ 2 ^ 60
    pub few_kept : kept_count (changes_of a.slots) a.floor ≤ a.settings.change_limit
    pub not_done : AreUndone a.slots undone
    pub may_take : AreFree a.slots a.floor free
    -- each change may be given back with no memory taken
    pub room : a.settings.change_limit ≤ room_of free
    pub in_order : (a.floor ≤ published) × (published ≤ prefix_len is_done a.slots)
    -- the listing is that of the published version, or of version 0 if memory was refused
    pub listed_is : (listed ≡ published) ⊎ (listed ≡ 0)
    pub listing : IsListing IsWork (take listed (changes_of a.slots)) l
    -- they are counted in 32 bits
    pub few_views : length views < 2 ^ 32
