-- What the calls of a shard and of its parts promise about the works that come, and about its entries.
use Rattle.std.specs.Prelude.{◌≡◌, ℕ, ◌+◌, List, [], ◌∷◌, ◌++◌, length, take, drop, filter, option_copied, Option, Vec}
use Rattle.std.specs.Borrow.{Bor}
use Rattle.std.specs.declared.sync.Arc.{Arc}
use Rattle.std.specs.declared.alloc.Global.{Global}
use Rattle.cq_base.specs.declared.settings.Settings.{Settings}
use Rattle.cq_base.specs.declared.entry.Entry.{Entry}
use Rattle.cq_base.specs.declared.change.Change.{Change}
use Rattle.cq_shard.specs.declared.indexed.Indexed.{Ghosts}
use Rattle.cq_shard.specs.Runs.{AreRunsWith}
use Rattle.cq_shard.specs.Shard.{Contents, StandsFor, StandsOnWith, HasWindow, HaveTheirWorks, IsOwnedOf, all_brought_to, brought, is_asked, put_of, puts_among}

-- ---- a work that is lent

-- Whatever settings and changes it stood for, if the change with this number has this work, it stands for them now.
abbrev pub StandsOnLent : {W : Type 0} → Ghosts W → ℕ → Option (Bor W) → Contents → Contents → Type 0
StandsOnLent of change work old new = StandsOnWith of.keys_in of.IsWorkOf change (option_copied work) old new

-- the change comes after the puts if it has a work
abbrev pub NotesLent : {W : Type 0} → ℕ → Option (Bor W) → List ℕ → List ℕ → Type 0
NotesLent change work old new = new ≡ old ++ put_of change (option_copied work)

-- how many entries the change brings to this shard
abbrev pub cost_of : {W : Type 0} → (W → List ℕ) → Contents → ℕ → Option (Bor W) → ℕ
cost_of keys_in c change work = length (brought keys_in change c.shard c.shards (option_copied work))

-- ---- works that have owners, one for each of the next changes

-- Whatever settings and changes it stood for, if the next changes have these works, it stands for them now.
abbrev pub StandsOnWithAll : {W : Type 0} → Ghosts W → List (Option (Arc W Global)) → Contents → Contents → Type 0
StandsOnWithAll of works old new =
    (settings : Settings) (changes : List Change) → StandsFor (HasWindow of.keys_in of.IsWorkOf settings) changes old → HaveTheirWorks (IsOwnedOf of.IsWorkOf settings) changes old.applied works → StandsFor (HasWindow of.keys_in of.IsWorkOf settings) changes new

-- the puts among the changes come after the others
abbrev pub NotesAll : {W : Type 0} → List (Option (Arc W Global)) → Contents → Contents → Type 0
NotesAll works old new = new.puts ≡ old.puts ++ puts_among old.applied works

-- how many entries the changes bring to this shard
abbrev pub cost_of_all : {W : Type 0} → (W → List ℕ) → Contents → List (Option (Arc W Global)) → ℕ
cost_of_all keys_in c works = length (all_brought_to keys_in c works)

-- ---- its entries and puts

-- after the old entries come those of some that have the key, and whose change is one of `live`
abbrev pub AddsAsked : ℕ → List ℕ → List Entry → List Entry → List Entry → Type 0
AddsAsked key live entries old new = new ≡ old ++ filter (is_asked key live) entries

-- this many of the runs stay, and one of these entries comes after them: they have the entries of all runs and those
-- added
abbrev pub AreMergedBehind : List (List Entry) → List Entry → ℕ × Vec Entry Global → Type 0
AreMergedBehind runs added merged = AreRunsWith runs added (take merged.0 runs ++ merged.1.items ∷ [])

-- in front are those to keep, and this many others that were among them are gone
abbrev pub ClosesUp : List ℕ → ℕ → List ℕ → List ℕ → Type 0
ClosesUp keep gone old new = new ≡ keep ++ drop (length keep + gone) old
