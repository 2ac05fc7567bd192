-- What one step makes of a set: its group, and its parts after other sets.
use Rattle.std.specs.Prelude.{ℕ, List, Option, Vec, map, All}
use Rattle.std.specs.declared.alloc.Global.{Global}
use Rattle.std.specs.BTreeMap.{BTreeMap}
use Rattle.cq_base.specs.declared.norm.Norm.{Norm}
use Rattle.cq_base.specs.declared.group.Group.{Group}
use Rattle.cq_tokens.specs.declared.seen.Seen.{Seen}
use Rattle.cq_groups.specs.declared.spots.Row.{Row}
use Rattle.cq_groups.specs.declared.spots.MarkedRow.{MarkedRow}
use Rattle.cq_groups.specs.declared.spots.Set.{Set}
use Rattle.cq_groups.specs.Rows.{IsRow}
use Rattle.cq_groups.specs.Sets.{set_spots, spread, AreMarks, IsMark, IsMarked, AreByMark, AddsParts, group_of, IsLong, AddsGroup, IsSplit}

-- the token has this mark in the new table, beside all that have one in the old
abbrev pub MarksToken : BTreeMap Seen ℕ → BTreeMap Seen ℕ → Option Norm → ℕ → Type 0
MarksToken old new token mark = (seen : List Norm) → AreMarks old seen → IsMarked seen new token mark

-- so it has, if another token has the known mark
abbrev pub MarksBeside : BTreeMap Seen ℕ → BTreeMap Seen ℕ → Option Norm → ℕ → Option Norm → ℕ → Type 0
MarksBeside old new other known token mark = (seen : List Norm) → AreMarks old seen → IsMark seen other known → IsMarked seen new token mark

-- the rows in each of the lists
abbrev pub lists_in : List (Vec Row Global) → List (List Row)
lists_in parts = map (λ part. part.items) parts

-- each row of the lists is within a word of `depth` tokens
abbrev pub ArePartRows : ℕ → List (Vec Row Global) → Type 0
ArePartRows depth parts = All (λ part. All (IsRow depth) part.items) parts

-- those of the parts that may give groups come after the old sets
abbrev pub AddsAll : ℕ → List (Vec Row Global) → List Set → List Set → Type 0
AddsAll depth parts old new = (highest : ℕ) (marked : List MarkedRow) → AreByMark highest marked (lists_in parts) → AddsParts depth (spread marked) highest old new

-- the group of the set is added, if it is long enough
abbrev pub AddsGroupOf : ℕ → Set → List Group → List Group → Type 0
AddsGroupOf least set old new = AddsGroup (IsLong least set.depth (set_spots set)) (group_of set.depth (set_spots set)) old new

-- a set gave its group and its parts
abbrev pub Splits : {T : Type 0} → List (List T) → ℕ → Set → Vec Set Global → Vec Set Global → Vec Group Global → Vec Group Global → Type 0
Splits corpus least set rest sets old new = IsSplit corpus least set rest.items sets.items old.items new.items
