-- The line of an outcome.
use Rattle.std.specs.Prelude.{ℕ, List, [], ◌∷◌, ◌++◌, map, true, false, codes}
use Rattle.serde_json.specs.Data.{Data, null, boolean, array, object, no_items, item, no_members, member}
use Rattle.serde_json.specs.View.{items_of}
use Rattle.serde_json.specs.Written.{compact_text}
use Rattle.cq_base.specs.declared.entry.Entry.{Entry}
use Rattle.cq_reply.specs.Lines.{NeedsMemory as reply_needs_memory}
use Rattle.cq_reply.specs.Written.{count, reply_data, IsReplyText}
use Rattle.cq_drive.specs.declared.outcome.ScriptOutcome.{ScriptOutcome}
use Rattle.cq_drive.specs.declared.outcome.ScriptOutcome.TheVariants as outcome

-- its change and its place
abbrev pub entry_data : Entry → Data
entry_data e = array (item (count e.change) (item (count e.at) no_items))

-- what was done, with the value that it gave
abbrev pub valued : Data → Data
valued d = object (member (codes "ok") (boolean true) (member (codes "value") d no_members))

abbrev pub read_data : List Entry → Data
read_data entries = valued (array (items_of (map entry_data entries)))

abbrev pub outcome_data : ScriptOutcome → Data
outcome_data outcome.Done = object (member (codes "ok") (boolean true) no_members)
outcome_data (outcome.Value n) = valued (count n)
outcome_data outcome.NoJob = valued null
outcome_data (outcome.Read entries) = read_data entries
outcome_data outcome.No = object (member (codes "ok") (boolean false) no_members)
outcome_data (outcome.Reply r) = reply_data r

-- the compact text and a line feed
abbrev pub read_line : List Entry → List ℕ
read_line entries = compact_text (read_data entries) ++ 10 ∷ []

abbrev pub line_of : ScriptOutcome → List ℕ
line_of o = compact_text (outcome_data o) ++ 10 ∷ []

-- what can be written: each text is UTF-8
abbrev pub IsOutcomeText : ScriptOutcome → Type 0
IsOutcomeText outcome.Done = Unit {0}
IsOutcomeText (outcome.Value n) = Unit {0}
IsOutcomeText outcome.NoJob = Unit {0}
IsOutcomeText (outcome.Read entries) = Unit {0}
IsOutcomeText outcome.No = Unit {0}
IsOutcomeText (outcome.Reply r) = IsReplyText r

-- its line is made in memory, and so it may be given up
abbrev pub NeedsMemory : ScriptOutcome → Type 0
NeedsMemory outcome.Done = ⊥
NeedsMemory (outcome.Value n) = ⊥
NeedsMemory outcome.NoJob = ⊥
NeedsMemory (outcome.Read entries) = Unit {0}
NeedsMemory outcome.No = ⊥
NeedsMemory (outcome.Reply r) = reply_needs_memory r
