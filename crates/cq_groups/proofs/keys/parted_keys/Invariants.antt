use Rattle.cq_tokens.specs.Parts.{keys_in}
use Rattle.cq_groups.proofs.Parting.{AreCountedUpto}
use Rattle.cq_groups.proofs.keys.parted_keys.Given as goal

abbrev pub invariant-loop-file : goal.invariant-loop-file
invariant-loop-file g l = AreCountedUpto (keys_in l.corpus) l.file l.keys.items
