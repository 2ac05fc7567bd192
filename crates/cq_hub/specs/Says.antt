-- What the calls of a hub answer, said of the state of the history just before their own events.
use Rattle.std.specs.Prelude.{◌≡◌, ◌⊎◌, ℕ, ◌+◌, ◌<◌, ◌≤◌, List, length, Option, None, Some, MatchOption, Result, IfOk}
use Rattle.cq_base.specs.declared.settings.Settings.{Settings}
use Rattle.cq_base.specs.declared.change.Change.{Change}
use Rattle.cq_base.specs.declared.entry.Entry.{Entry}
use Rattle.cq_base.specs.declared.lang.Lang.{Lang}
use Rattle.cq_base.specs.declared.memory.Memory.{Memory}
use Rattle.cq_clones.specs.Lists.{AreAllInOrder}
use Rattle.cq_clones.specs.Windows.{EntryBefore}
use Rattle.cq_history.specs.declared.event.Event.{Event}
use Rattle.cq_history.specs.State.{State, state, accepted, first_free, IsAccepted, IsDone, IsUndone}
use Rattle.cq_board.specs.Answers.{refusal_of, greatest_floor, IsJob}
use Rattle.cq_board.specs.Entries.{IsEntryAt}
use Rattle.cq_board.specs.Sound.{HasSoundText}
use Rattle.cq_board.specs.declared.answers.Job.{Job}
use Rattle.cq_board.specs.declared.answers.Refused.{Refused}
use Rattle.cq_board.specs.declared.answers.Refused.TheVariants as refused

-- there is no cause against the change, and this is its number
abbrev pub IsAcceptedAs : Settings → ℕ → Change → ℕ → List Event → Type 0
IsAcceptedAs set callers change number h = (refusal_of set (state callers h) change ≡ None) × (number ≡ length (accepted h) + 1)

-- memory was refused, or this is the first cause against the change
abbrev pub IsRefusedFor : Settings → ℕ → Change → Refused → List Event → Type 0
IsRefusedFor set callers change cause h = (cause ≡ refused.Memory) ⊎ (refusal_of set (state callers h) change ≡ Some cause)

-- the job is that of the first change that is neither done nor taken; its text is short, and UTF-8
abbrev pub IsFirstFree : State → Job → Type 0
IsFirstFree s j = (j.change ≡ first_free s) × IsAccepted s j.change × IsJob s j × HasSoundText j

-- each change is done or taken
abbrev pub IsNoneFree : State → Type 0
IsNoneFree s = length s.slots < first_free s

-- the change's job if it is not done, and none if it is
abbrev pub IsJobFor : State → ℕ → Option Job → Type 0
IsJobFor s change job = MatchOption job (IsDone s change) (λ j. IsUndone s change × (j.change ≡ change) × IsJob s j × HasSoundText j)

-- it is the last published version, and at least the one that was to be published
abbrev pub HasPublished : State → ℕ → ℕ → Type 0
HasPublished s to version = (version ≡ s.published) × (to ≤ version)

-- the floor is the least of the published version and the open ones, and if there is an answer, it is that floor
abbrev pub HasGreatestFloor : State → Result ℕ Memory → Type 0
HasGreatestFloor s result = (s.floor ≡ greatest_floor s) × IfOk result (λ floor. floor ≡ s.floor)

-- the entries with the key in all files of a version of the changes, by change and place
abbrev pub AreEntriesWith : (Lang → List ℕ → ℕ → ℕ → Type 0) → List Change → ℕ → ℕ → List Entry → Type 0
AreEntriesWith IsWindow changes version key entries = AreAllInOrder EntryBefore (IsEntryAt IsWindow changes version key) entries
