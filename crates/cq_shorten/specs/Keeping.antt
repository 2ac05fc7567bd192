-- What is held of the changes of a log.
use Rattle.std.specs.Prelude.{◌≡◌, ℕ, ◌-◌, nat_le, List, [], length, map, filter, flat_map, slice_index_or, Option, Some, Vec, Result}
use Rattle.std.specs.BTreeMap.{get}
use Rattle.std.specs.Io.KnownBytes.{Appends}
use Rattle.std.specs.Ordering.{nat_cmp}
use Rattle.std.specs.declared.alloc.Global.{Global}
use Rattle.cq_base.specs.declared.change.Change.{Change}
use Rattle.cq_base.specs.declared.lang.Lang.{Lang}
use Rattle.cq_base.specs.declared.settings.Settings.{Settings}
use Rattle.cq_history.specs.Gone.{IsKept}
use Rattle.cq_history.specs.State.{new_slot}
use Rattle.cq_io.specs.Sending.{Sends}
use Rattle.cq_kept.specs.Accepted.{accepted_from, Holds}
use Rattle.cq_lines.specs.Pieces.{ended}
use Rattle.cq_shorten.specs.Needed.{needed, needed_lines}
use Rattle.cq_shorten.specs.declared.held.Shortener.{Shortener}
use Rattle.cq_shorten.specs.declared.nothing.Unworked.{Unworked}

-- no text has such a work
abbrev pub NeverMade : Settings → Lang → List ℕ → Unworked → Type 0
NeverMade set lang text work = ⊥

-- the line of this number is held
abbrev pub HasLine : Shortener → ℕ → List ℕ → Type 0
HasLine s number line = (held : Vec ℕ Global) × (get nat_cmp s.lines number ≡ Some held) × (held.items ≡ line)

-- all changes were accepted with the floor at the last one, and of each that is kept the line is held
pub record Has (s : Shortener) (set : Settings) (own : List (List ℕ)) (changes : List Change) : Type 0 where
  pub changes_are : s.changes ≡ accepted_from set (map new_slot changes) (length changes)
  pub paired : length own ≡ length changes
  pub lines : (number : ℕ) → IsKept changes (length changes) number → HasLine s number (slice_index_or own (number - 1) [])

-- of each change that is held, the line is held as before
abbrev pub KeepsNeeded : Shortener → Shortener → Type 0
KeepsNeeded old new = (number : ℕ) → Holds old.changes number → get nat_cmp new.lines number ≡ get nat_cmp old.lines number

-- ---- what is written

-- the line of a number, if it is held, or a front of it if the sink failed
abbrev pub SendsHeld : {E : Type 0} → Shortener → ℕ → Option (List ℕ) → Option (List ℕ) → Result (Unit {0}) E → Type 0
SendsHeld s number written written_now result = (line : List ℕ) → HasLine s number line → Sends written written_now (ended line) result

-- the lines that are needed of the changes up to a number
abbrev pub needed_up_to : List Change → List (List ℕ) → ℕ → List ℕ
needed_up_to changes own last = flat_map ended (map (λ (number : ℕ). slice_index_or own (number - 1) []) (filter (λ (number : ℕ). nat_le number last) (needed changes)))

-- whatever was taken, these were written
abbrev pub SentUpTo : Shortener → ℕ → Option (List ℕ) → Option (List ℕ) → Type 0
SentUpTo s last written written_now = (set : Settings) (own : List (List ℕ)) (changes : List Change) → Has s set own changes → Appends written written_now (needed_up_to changes own last)

-- whatever was taken, all lines that are needed were written, or a front of them if the sink failed
abbrev pub SendsNeeded : {E : Type 0} → Shortener → Option (List ℕ) → Option (List ℕ) → Result (Unit {0}) E → Type 0
SendsNeeded s written written_now result = (set : Settings) (own : List (List ℕ)) (changes : List Change) → Has s set own changes → Sends written written_now (flat_map ended (needed_lines changes own)) result
