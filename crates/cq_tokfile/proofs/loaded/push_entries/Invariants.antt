use Rattle.cq_tokfile.proofs.Indexing.{ArePushed}
use Rattle.cq_tokfile.proofs.loaded.push_entries.Given as goal

abbrev pub invariant-loop-at : goal.invariant-loop-at
invariant-loop-at l = ArePushed l.initial.entries.items l.change l.keys l.at l.entries.items
