use Rattle.std.proofs.Common.{◌+◌, ◌-◌, ◌<◌, ◌≤◌, length}
use Rattle.std.specs.List.{AllWithin}
use Rattle.cq_base.specs.declared.entry.Entry.{Entry}
use Rattle.cq_tokfile.proofs.loaded.end_of.Given as goal

abbrev pub invariant-walk : goal.invariant-walk
invariant-walk l = record {
  further : l.from ≤ l.to;
  bound : l.to ≤ length l.entries;
  lesser : AllWithin (λ (e : Entry). e.key < l.key + 1) l.entries 0 l.to;
}

abbrev pub decreases-walk : goal.decreases-walk
decreases-walk l = length l.entries - l.to
