-- What a shard is, and which changes it stands for.
use Rattle.std.specs.Prelude.{◌≡◌, ◌↔◌, slice_get, slice_index_or, ℕ, ◌+◌, ◌<◌, ◌≤◌, ◌%◌, ◌==◌, nat_eq, ◌&&◌, if◌then◌else◌, Bool, List, [], ◌∷◌, ◌++◌, length, Contains, All, Option, Some, None, is_some, IfSome, ◌^◌}
use Rattle.std.specs.List.{list_any}
use Rattle.std.specs.List.Sorted.{IsStrictlyIncreasing}
use Rattle.std.specs.Arc.{arc_value}
use Rattle.std.specs.declared.sync.Arc.{Arc}
use Rattle.std.specs.declared.alloc.Global.{Global}
use Rattle.cq_base.specs.declared.lang.Lang.{Lang}
use Rattle.cq_base.specs.declared.settings.Settings.{Settings}
use Rattle.cq_base.specs.declared.entry.Entry.{Entry}
use Rattle.cq_base.specs.declared.change.Change.{Change}
use Rattle.cq_base.specs.declared.change.Change.TheVariants.{Put, Drop, Gate}
use Rattle.cq_clones.specs.Lists.{AreAllInOrder}
use Rattle.cq_clones.specs.Windows.{EntryBefore}
use Rattle.cq_history.specs.Changes.{IsWorkFor, change_at}
use Rattle.cq_history.specs.Gone.{IsKept, IsPutAt}
use Rattle.cq_history.specs.Shards.{Row, ShardHolds}
use Rattle.cq_shard.specs.Runs.{AreDifferent}
use Rattle.cq_shard.specs.Stores.{left_to}
use Rattle.cq_shard.specs.Tables.{staying, AreAmong}

-- its number, how many shards there are, how many changes it has applied, its floor, the puts that it knows, and its entries
pub record Contents : Type 0 where
  pub shard : ℕ
  pub shards : ℕ
  pub applied : ℕ
  pub floor : ℕ
  pub puts : List ℕ
  pub entries : List Entry

-- a shard of this number, of this many, that has applied nothing
abbrev pub fresh_shard : ℕ → ℕ → Contents
fresh_shard shard shards = record { shard = shard; shards = shards; applied = 0; floor = 0; puts = []; entries = [] }

-- it is one of the shards; its puts ascend, and each entry is there once; all are of applied changes
pub record IsShard (c : Contents) : Type 0 where
  pub mine : c.shard < c.shards
  pub passed : c.floor ≤ c.applied
  pub rising : IsStrictlyIncreasing c.puts
  pub noted : All (λ n. n ≤ c.applied) c.puts
  pub known : All (λ e. e.change ≤ c.applied) c.entries
  pub different : AreDifferent c.entries

abbrev pub row_of : Entry → Row
row_of e = record { key = e.key; number = e.change; place = e.at }

-- what the definition of a shard's contents says of an entry
abbrev pub Holds : (Lang → List ℕ → ℕ → ℕ → Type 0) → List Change → Contents → Entry → Type 0
Holds IsWindow changes c e = ShardHolds IsWindow c.shards changes c.shard c.applied c.floor (row_of e)

-- the change of this number is one of the puts that were applied, and the floor keeps it
abbrev pub IsKnownPut : List Change → ℕ → ℕ → ℕ → Type 0
IsKnownPut changes applied floor number = IsKept changes floor number × (number ≤ applied) × IsPutAt changes number

-- It has applied no more than there is. It knows the puts of these changes that it has applied and its floor keeps, and its
-- entries are what it holds of them.
pub record StandsFor (IsWindow : Lang → List ℕ → ℕ → ℕ → Type 0) (changes : List Change) (c : Contents) : Type 0 where
  pub applied : c.applied ≤ length changes
  pub puts : (n : ℕ) → Contains c.puts n ↔ IsKnownPut changes c.applied c.floor n
  pub entries : (e : Entry) → Contains c.entries e ↔ Holds IsWindow changes c e

-- the change there has the work that it comes with: a put that of its text, and no other change one
abbrev pub HasItsWork : {W : Type 0} → (Lang → List ℕ → W → Type 0) → Option Change → Option W → Type 0
HasItsWork IsWork (Some c) (Some work) = IsWorkFor IsWork c work
HasItsWork IsWork (Some (Put project path lang text)) None = ⊥
HasItsWork IsWork (Some (Drop project path)) None = Unit {0}
HasItsWork IsWork (Some (Gate project conditions)) None = Unit {0}
HasItsWork IsWork None work = ⊥

-- a work of the text has at this place a window with this key
abbrev pub HasWindow : {W : Type 0} → (W → List ℕ) → (Settings → Lang → List ℕ → W → Type 0) → Settings → Lang → List ℕ → ℕ → ℕ → Type 0
HasWindow {W} keys_in IsWorkOf settings lang text place key = (work : W) × IsWorkOf settings lang text work × (slice_get (keys_in work) place ≡ Some key)

-- the entries of a change for those windows from `at` on whose keys are the shard's, by place
abbrev pub entries_of : ℕ → ℕ → ℕ → ℕ → List ℕ → List Entry
entries_of change shard shards at [] = []
entries_of change shard shards at (key ∷ keys) = (if key % shards == shard then record { key = key; change = change; at = at } ∷ [] else []) ++ entries_of change shard shards (at + 1) keys

-- the entries that a change brings to a shard
abbrev pub brought : {W : Type 0} → (W → List ℕ) → ℕ → ℕ → ℕ → Option W → List Entry
brought keys_in change shard shards None = []
brought keys_in change shard shards (Some work) = entries_of change shard shards 0 (keys_in work)

-- the entries that the changes after this many bring to a shard, a change for each work
abbrev pub all_brought : {W : Type 0} → (W → List ℕ) → ℕ → ℕ → ℕ → List (Option W) → List Entry
all_brought keys_in applied shard shards [] = []
all_brought keys_in applied shard shards (work ∷ works) = brought keys_in (applied + 1) shard shards work ++ all_brought keys_in (applied + 1) shard shards works

-- the number of a change that has a work, as a put has
abbrev pub put_of : {W : Type 0} → ℕ → Option W → List ℕ
put_of change work = if is_some work then change ∷ [] else []

-- the numbers of those changes after this many that have one, a change for each work
abbrev pub puts_among : {W : Type 0} → ℕ → List (Option W) → List ℕ
puts_among applied [] = []
puts_among applied (work ∷ works) = put_of (applied + 1) work ++ puts_among (applied + 1) works

-- the changes after this many have the works that they come with
abbrev pub HaveTheirWorks : {W : Type 0} → (Lang → List ℕ → W → Type 0) → List Change → ℕ → List (Option W) → Type 0
HaveTheirWorks {W} IsWork changes applied works = (i : ℕ) (d : Option W) → i < length works → HasItsWork IsWork (change_at changes (applied + i + 1)) (slice_index_or works i d)

-- the entry has this key, and its change is one of `live`
abbrev pub is_asked : ℕ → List ℕ → Entry → Bool
is_asked key live e = (e.key == key) && list_any (nat_eq e.change) live

-- ---- what applying promises

-- the same shard, swept as far
abbrev pub IsSameShard : Contents → Contents → Type 0
IsSameShard old new = (new.shard ≡ old.shard) × (new.shards ≡ old.shards) × (new.floor ≡ old.floor)

-- Whatever settings and changes it stood for, if the change with this number has this work, it stands for them now.
abbrev pub StandsOnWith : {W : Type 0} → (W → List ℕ) → (Settings → Lang → List ℕ → W → Type 0) → ℕ → Option W → Contents → Contents → Type 0
StandsOnWith keys_in IsWorkOf change work old new =
    (settings : Settings) (changes : List Change) → StandsFor (HasWindow keys_in IsWorkOf settings) changes old → HasItsWork (IsWorkOf settings) (change_at changes change) work → StandsFor (HasWindow keys_in IsWorkOf settings) changes new

-- ---- the same of works that have owners

-- what an owned work has
abbrev pub in_owned : {W : Type 0} → (W → List ℕ) → Arc W Global → List ℕ
in_owned keys_in work = keys_in (arc_value work)

-- an owned work is that of the text
abbrev pub IsOwnedOf : {W : Type 0} → (Settings → Lang → List ℕ → W → Type 0) → Settings → Lang → List ℕ → Arc W Global → Type 0
IsOwnedOf IsWorkOf settings lang text work = IsWorkOf settings lang text (arc_value work)

-- each work has fewer than 2^32 keys
abbrev pub HaveFewKeys : {W : Type 0} → (W → List ℕ) → List (Option (Arc W Global)) → Type 0
HaveFewKeys keys_in works = All (λ work. IfSome work (λ w. length (keys_in (arc_value w)) < 2 ^ 32)) works

-- the entries that the next changes bring to this shard, one for each of these works
abbrev pub all_brought_to : {W : Type 0} → (W → List ℕ) → Contents → List (Option (Arc W Global)) → List Entry
all_brought_to keys_in c works = all_brought (in_owned keys_in) c.applied c.shard c.shards works

-- ---- what a bucket is

-- by change and place, exactly those of some entries that have the key, and whose change is one of `live`
abbrev pub AreAsked : ℕ → List ℕ → List Entry → List Entry → Type 0
AreAsked key live entries bucket = AreAllInOrder EntryBefore (λ e. (e.key ≡ key) × Contains live e.change × Contains entries e) bucket

-- ---- what sweeping leaves

-- the shard knows each of the changes to keep
abbrev pub AreKnown : List ℕ → Contents → Type 0
AreKnown keep c = AreAmong keep c.puts

-- the floor is raised, and all puts up to it are taken out, with their entries, but for those to keep
abbrev pub swept : ℕ → List ℕ → Contents → Contents
swept floor keep c = record { shard = c.shard; shards = c.shards; applied = c.applied; floor = floor; puts = staying floor keep c.puts; entries = left_to floor keep c.entries }
