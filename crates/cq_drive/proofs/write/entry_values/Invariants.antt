use Rattle.std.proofs.Common.{◌≡◌, map, take}
use Rattle.serde_json.specs.View.{view}
use Rattle.cq_drive.specs.Outcomes.{entry_data}
use Rattle.cq_drive.proofs.write.entry_values.Given as goal

abbrev pub invariant-loop-entry : goal.invariant-loop-entry
invariant-loop-entry l = map view l.values.items ≡ map entry_data (take l.entry-index l.entries)
