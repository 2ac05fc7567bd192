-- What a board holds of the accepted changes.
use Rattle.std.specs.Prelude.{◌≡◌, ℕ, ◌^◌, ◌<◌, ◌≤◌, nat_eq, nat_le, nat_lt, Bool, false, not, ◌&&◌, List, [], length, sum_by, filter, All, Contains, Option, Some, None}
use Rattle.std.specs.List.{list_any}
use Rattle.std.specs.Arc.{arc_value}
use Rattle.std.specs.BTreeMap.{BTreeMap, keys, values, get, insert_entry, is_at}
use Rattle.std.specs.Map.{set_value}
use Rattle.std.specs.Ordering.{nat_cmp}
use Rattle.std.specs.declared.sync.Arc.{Arc}
use Rattle.std.specs.declared.alloc.Global.{Global}
use Rattle.cq_base.specs.declared.settings.Settings.{Settings}
use Rattle.cq_base.specs.declared.change.Change.{Change}
use Rattle.cq_base.specs.declared.lang.Lang.{Lang}
use Rattle.cq_history.specs.Changes.{IsWorkFor, text_len}
use Rattle.cq_history.specs.Gone.{IsKept, AreKeptPuts, kept_numbers}
use Rattle.cq_history.specs.Lawful.{is_absent, is_full, is_long}
use Rattle.cq_history.specs.State.{State, Slot}
use Rattle.cq_kept.specs.declared.kept.Kept.{Kept}
use Rattle.cq_kept.specs.declared.kept.Stored.{Stored}
use Rattle.cq_kept.specs.declared.over.Over.{Over}
use Rattle.cq_kept.specs.declared.presence.Presence.{Presence}
use Rattle.cq_kept.specs.Presence.{IsPresence}
use Rattle.cq_kept.specs.Slots.{slot_from, slot_at, change_of, given_up, changes_of, state_from, with_change, IsWorked}

-- the settings, the slots of all accepted changes, and the floor
pub record Accepted : Type 0 where
  pub settings : Settings
  pub slots : List Slot
  pub floor : ℕ

abbrev pub accepted_from : Settings → List Slot → ℕ → Accepted
accepted_from settings slots floor = record { settings = settings; slots = slots; floor = floor }

-- the same with other slots
abbrev pub with_slots : Accepted → List Slot → Accepted
with_slots a slots = accepted_from a.settings slots a.floor

-- the same with one change more
abbrev pub with_accepted : Accepted → Change → Accepted
with_accepted a change = with_slots a (with_change a.slots change)

-- the state in which there is nothing else: no version is published, and no view is open
abbrev pub bare_state : Accepted → State
bare_state a = state_from a.slots 0 a.floor []

-- the change of this number is held
abbrev pub Holds : Accepted → ℕ → Type 0
Holds a number = IsKept (changes_of a.slots) a.floor number

-- no change after a number is held, or none of those up to another one
abbrev pub HoldsNoneBehind : Accepted → ℕ → Type 0
HoldsNoneBehind a after = (number : ℕ) → after < number → Holds a number → ⊥

abbrev pub HoldsNoneBetween : Accepted → ℕ → ℕ → Type 0
HoldsNoneBetween a after last = (number : ℕ) → after < number → number ≤ last → Holds a number → ⊥

-- the puts up to the floor that are held are exactly these, ascending
abbrev pub HoldsPuts : Accepted → List ℕ → Type 0
HoldsPuts a numbers = AreKeptPuts (changes_of a.slots) a.floor numbers

-- nothing is against accepting the change
abbrev pub MayAccept : Accepted → Change → Type 0
MayAccept a change = (is_absent (bare_state a) change ≡ false) × (is_full a.settings (bare_state a) ≡ false) × (is_long a.settings (bare_state a) change ≡ false)

-- the next change that is held after a number
pub record IsNextHeld (a : Accepted) (after number : ℕ) : Type 0 where
  pub behind : after < number
  pub held : Holds a number
  pub first : (r : ℕ) → after < r → r < number → Holds a r → ⊥

-- whether one of them is this change, made over by one numbered at most the floor
abbrev pub is_over_at : List Over → ℕ → ℕ → Bool
is_over_at all floor number = list_any (λ (o : Over). nat_le o.by floor && nat_eq o.number number) all

-- the numbers of those that are not over at the floor
abbrev pub not_over : List Over → ℕ → List ℕ → List ℕ
not_over all floor numbers = filter (λ (n : ℕ). not (is_over_at all floor n)) numbers

-- only those that are over at no floor up to this one
abbrev pub over_behind : ℕ → List Over → List Over
over_behind floor all = filter (λ (o : Over). nat_lt floor o.by) all

module _ {W : Type 0} where
  -- how many bytes the texts have
  abbrev pub text_in : BTreeMap ℕ (Kept W) → ℕ
  text_in kept = sum_by (λ (k : Kept W). text_len (change_of k.change)) (values kept)

  -- the work is that of the change with this number
  abbrev pub IsItsWork : (Settings → Lang → List ℕ → W → Type 0) → Accepted → ℕ → Arc W Global → Type 0
  IsItsWork IsWorkOf a number work = IsWorkFor (IsWorkOf a.settings) (slot_at a.slots number).change (arc_value work)

  -- the change is held by this number, and nobody has it, nor is its work done
  abbrev pub IsInserted : ℕ → Stored → BTreeMap ℕ (Kept W) → BTreeMap ℕ (Kept W) → Type 0
  IsInserted number change old new = new.entries ≡ insert_entry nat_cmp old.entries number (record { change = change; work = None; holder = None })

  -- the change of a number has another holder, if it was held
  abbrev pub IsHeldBy : ℕ → Option ℕ → BTreeMap ℕ (Kept W) → BTreeMap ℕ (Kept W) → Type 0
  IsHeldBy number holder old new = (was : Kept W) → get nat_cmp old number ≡ Some was → new.entries ≡ set_value (is_at (nat_cmp number)) old.entries (record { change = was.change; work = was.work; holder = holder })

  -- it has this work in place of its text, if it was held
  abbrev pub IsWorkedAs : ℕ → Arc W Global → BTreeMap ℕ (Kept W) → BTreeMap ℕ (Kept W) → Type 0
  IsWorkedAs number work old new = (was : Kept W) → get nat_cmp old number ≡ Some was → new.entries ≡ set_value (is_at (nat_cmp number)) old.entries (record { change = given_up was.change; work = Some work; holder = was.holder })

  -- nothing is there that was not there before
  abbrev pub IsPartOf : BTreeMap ℕ (Kept W) → BTreeMap ℕ (Kept W) → Type 0
  IsPartOf old new = (e : ℕ × Kept W) → Contains new.entries e → Contains old.entries e

  -- the slot of the number, with its work if it is done
  abbrev pub IsHeldAs : (Lang → List ℕ → W → Type 0) → List Slot → ℕ × Kept W → Type 0
  IsHeldAs IsWork slots e = (slot_from e.1 ≡ slot_at slots e.0) × IsWorked IsWork e.1

  -- by their numbers exactly the changes that the floor keeps
  pub record HoldsKept (IsWork : Lang → List ℕ → W → Type 0) (slots : List Slot) (floor : ℕ) (kept : BTreeMap ℕ (Kept W)) : Type 0 where
    pub numbers : keys kept ≡ kept_numbers (changes_of slots) floor
    pub each : All (IsHeldAs IsWork slots) kept.entries

  pub record IsHeld (IsWork : Lang → List ℕ → W → Type 0) (settings : Settings) (slots : List Slot) (accepted floor : ℕ) (kept : BTreeMap ℕ (Kept W)) (there : Presence) (bytes : ℕ) : Type 0 where
    pub holds : HoldsKept IsWork slots floor kept
    pub number_is : accepted ≡ length slots
    pub few : accepted ≤ 2 ^ 60
    pub passed : floor ≤ accepted
    pub presence : IsPresence (changes_of slots) floor there
    pub text_bytes : bytes ≡ text_in kept
    pub few_bytes : bytes ≤ settings.text_limit
